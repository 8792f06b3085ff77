use Prim.Native.Nat.{◌+◌, ◌*◌, ◌/◌, ◌≤◌}
use mathlib.Core.Path.{refl, ap}
use native.Mathlib.Omega.{arith}
use lib.ListN.{length}
use Rattle.memory.specs.Bytes.{Small}
use Rattle.memory.proofs.Order.{not-both}
use mathlib.Core.Bool.{false}
use Rattle.blocks.specs.Representation.{block_wire}
use Rattle.encoder_fields.specs.Measure.{representations_of}
use Rattle.encoder_fields.proofs.Fields.{counted_is, counted-above}
use Rattle.encoder_fields.proofs.Bound.{list-within, room-enough, room-long, room-none}
use Rattle.encoder_passes.proofs.write.room_answer.Goals as goal

pub returns-then-s-out : goal.returns-then-s-out
returns-then-s-out c =
    let a = c.args in
    let p = c.requires in
    let small : Small a.m.now = λ k. grind arith in
    let bytes : Small a.s.now = λ k. grind arith in
    let bounded : length (block_wire (representations_of a.m.now a.s.now)) ≤ length a.s.now + 2 * (length a.s.now / 3) =
    list-within a.m.now a.s.now small p.m_value.0 bytes p.reads_well.0 p.reads_well.1 in
    record {
      value = room-enough _ _ (omega (arith, bounded, c.if-s-le-SHORT_LIST.true)) (omega (arith, bounded, c.if-s-out.true));
      m_unchanged = refl;
      out_unchanged = refl;
    }

pub write_list-n-requires : goal.write_list-n-requires
write_list-n-requires c =
    record { m_value = c.requires.m_value; reads_well = c.requires.reads_well; s_len_bound = λ e. not-both false e refl }

pub returns-then-n-gt-BLOCK_LIMIT : goal.returns-then-n-gt-BLOCK_LIMIT
returns-then-n-gt-BLOCK_LIMIT c =
    let w = c.write_list-n.ensures in
    record { value = room-long _ _ (counted-above _ _ w.value c.if-n-gt-BLOCK_LIMIT.true); m_unchanged = w.m_after; out_unchanged = w.out_after }

pub returns-then-out-n : goal.returns-then-out-n
returns-then-out-n c =
    let w = c.write_list-n.ensures in
    let e = counted_is _ _ w.value c.if-n-gt-BLOCK_LIMIT.false in
    record { value = room-none _ _ (omega (arith, e, c.if-n-gt-BLOCK_LIMIT.false)) (omega (arith, e, c.if-out-n.true, ap length w.out_after)); m_unchanged = w.m_after; out_unchanged = w.out_after }

pub returns : goal.returns
returns c =
    let w = c.write_list-n.ensures in
    let e = counted_is _ _ w.value c.if-n-gt-BLOCK_LIMIT.false in
    record { value = room-enough _ _ (omega (arith, e, c.if-n-gt-BLOCK_LIMIT.false)) (omega (arith, e, c.if-out-n.false, ap length w.out_after)); m_unchanged = w.m_after; out_unchanged = w.out_after }
