use mathlib.Core.Path.{refl}
use native.Mathlib.Omega.{arith}
use Rattle.memory.specs.Bytes.{Small}
use Rattle.fields.proofs.Bounds.{field-bounds}
use Rattle.parts.specs.Turn.{part_in}
use Rattle.encoder_fields.proofs.Fields.{left-reads, left-more, in_field, field-fine}
use Rattle.encoder_passes.proofs.Writing.{progress-none, progress-forms, progress-length, progress-all, progress-room, progress-more, progress-long}
use Rattle.encoder_passes.proofs.Writing.{passed-memory, passed-output, passed-field, room-of}
use Rattle.encoder_passes.proofs.write.write_list.Goals as goal

pub loop-at-init : goal.loop-at-init
loop-at-init c =
    let p = c.requires in
    progress-none _ (λ k. grind arith) p.m_value.0 _ p.m_value.1 _ _ _ _ p.reads_well.0 p.reads_well.1

pub field_at-place-requires : goal.field_at-place-requires
field_at-place-requires c = left-reads _ _ _ c.loop-at.invariant.left c.loop-at-test.true

pub new-requires : goal.new-requires
new-requires c = in_field _ _ _ _ (field-bounds _ _ _ _ c.field_at-place.ensures)

pub write_field-to-requires : goal.write_field-to-requires
write_field-to-requires c =
    let small : Small c.args.m.now = λ k. grind arith in
    let p = c.requires in
    let field = in_field _ _ _ _ (field-bounds _ _ _ _ c.field_at-place.ensures) in
    let w = left-more _ _ _ c.loop-at.invariant.left c.loop-at-test.true _ refl _ _ c.field_at-place.ensures in
    let i = c.loop-at.invariant in
    record {
      m_value = (progress-forms _ small p.m_value.0 _ p.m_value.1 _ _ _ _ _ _ _ _ i, p.m_value.1, i.short);
      f_in_bounds = room-of _ _ _ _ c.new.ensures (progress-room _ small p.m_value.0 _ p.m_value.1 _ _ _ _ _ _ _ _ i _ _ w.1 (field-fine _ _ field) p.s_len_bound);
    }

pub shape_of-m-then-to-gt-BLOCK_LIMIT : goal.shape_of-m-then-to-gt-BLOCK_LIMIT
shape_of-m-then-to-gt-BLOCK_LIMIT c =
    let small : Small c.args.m.now = λ k. grind arith in
    let p = c.requires in
    let field = in_field _ _ _ _ (field-bounds _ _ _ _ c.field_at-place.ensures) in
    let w = left-more _ _ _ c.loop-at.invariant.left c.loop-at-test.true _ refl _ _ c.field_at-place.ensures in
    let w' = c.write_field-to.ensures in
    let e = passed-field _ _ _ _ c.new.ensures _ _ w'.value w'.m_after w'.out_after in
    let long =
    progress-long _ small p.m_value.0 _ p.m_value.1 _ _ _ _ _ _ _ _ c.loop-at.invariant _ _ w.1 (field-fine _ _ field) _ _ _ e.0 e.1 e.2
    p.s_len_bound c.if-to-gt-BLOCK_LIMIT.true in
    let a = c.args in
    passed-memory _ small p.m_value.0 _ p.m_value.1 (part_in a.part) a.s.now a.out.now a.write _ _ _ long

pub shape_of-out-then-to-gt-BLOCK_LIMIT : goal.shape_of-out-then-to-gt-BLOCK_LIMIT
shape_of-out-then-to-gt-BLOCK_LIMIT c =
    let small : Small c.args.m.now = λ k. grind arith in
    let p = c.requires in
    let field = in_field _ _ _ _ (field-bounds _ _ _ _ c.field_at-place.ensures) in
    let w = left-more _ _ _ c.loop-at.invariant.left c.loop-at-test.true _ refl _ _ c.field_at-place.ensures in
    let w' = c.write_field-to.ensures in
    let e = passed-field _ _ _ _ c.new.ensures _ _ w'.value w'.m_after w'.out_after in
    let long =
    progress-long _ small p.m_value.0 _ p.m_value.1 _ _ _ _ _ _ _ _ c.loop-at.invariant _ _ w.1 (field-fine _ _ field) _ _ _ e.0 e.1 e.2
    p.s_len_bound c.if-to-gt-BLOCK_LIMIT.true in
    let a = c.args in
    passed-output _ small p.m_value.0 _ p.m_value.1 (part_in a.part) a.s.now a.out.now a.write _ _ _ long

pub returns-then-to-gt-BLOCK_LIMIT : goal.returns-then-to-gt-BLOCK_LIMIT
returns-then-to-gt-BLOCK_LIMIT c =
    let small : Small c.args.m.now = λ k. grind arith in
    let p = c.requires in
    let field = in_field _ _ _ _ (field-bounds _ _ _ _ c.field_at-place.ensures) in
    let w = left-more _ _ _ c.loop-at.invariant.left c.loop-at-test.true _ refl _ _ c.field_at-place.ensures in
    let w' = c.write_field-to.ensures in
    let e = passed-field _ _ _ _ c.new.ensures _ _ w'.value w'.m_after w'.out_after in
    let long =
    progress-long _ small p.m_value.0 _ p.m_value.1 _ _ _ _ _ _ _ _ c.loop-at.invariant _ _ w.1 (field-fine _ _ field) _ _ _ e.0 e.1 e.2
    p.s_len_bound c.if-to-gt-BLOCK_LIMIT.true in
    record { value = long.0; m_after = long.1.0; out_after = long.1.1 }

pub overflow_add-at : goal.overflow_add-at
overflow_add-at c = omega (arith, (field-bounds _ _ _ _ c.field_at-place.ensures).inside)

pub loop-at-smaller : goal.loop-at-smaller
loop-at-smaller c =
    let b = field-bounds _ _ _ _ c.field_at-place.ensures in
    omega (arith, b.next-after, b.inside)

pub loop-at-preserved : goal.loop-at-preserved
loop-at-preserved c =
    let small : Small c.args.m.now = λ k. grind arith in
    let p = c.requires in
    let field = in_field _ _ _ _ (field-bounds _ _ _ _ c.field_at-place.ensures) in
    let w = left-more _ _ _ c.loop-at.invariant.left c.loop-at-test.true _ refl _ _ c.field_at-place.ensures in
    let w' = c.write_field-to.ensures in
    let e = passed-field _ _ _ _ c.new.ensures _ _ w'.value w'.m_after w'.out_after in
    progress-more _ small p.m_value.0 _ p.m_value.1 _ _ _ _ _ _ _ _ c.loop-at.invariant _ _ w.1 (field-fine _ _ field) _ _ _ e.0 e.1 e.2 _ w.2
    c.if-to-gt-BLOCK_LIMIT.false

pub shape_of-m : goal.shape_of-m
shape_of-m c =
    let small : Small c.args.m.now = λ k. grind arith in
    let p = c.requires in
    progress-length _ small p.m_value.0 _ p.m_value.1 _ _ _ _ _ _ _ _ c.loop-at.invariant

pub shape_of-out : goal.shape_of-out
shape_of-out c = c.loop-at.invariant.same

pub returns : goal.returns
returns c =
    let small : Small c.args.m.now = λ k. grind arith in
    let p = c.requires in
    let all = progress-all _ small p.m_value.0 _ p.m_value.1 _ _ _ _ _ _ _ _ c.loop-at.invariant c.loop-at-test.false in
    record { value = all.0; m_after = all.1.0; out_after = all.1.1 }
