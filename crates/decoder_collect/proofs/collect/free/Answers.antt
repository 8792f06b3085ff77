use Prim.Native.Nat.{ℕ, ◌<◌}
use native.Mathlib.Omega.{arith}
use borrow.Author.Rules.{rules}
use mathlib.Core.Path.{◌≡◌, refl, sym, ap, subst, ◌∙◌}
use mathlib.Core.List.{List}
use Rattle.memory.specs.Bytes.{overlay}
use Rattle.integers.specs.Answers.{done}
use Rattle.integers.specs.declared.number.TableIndex.{TableIndex}
use Rattle.instructions.specs.Instruction.{FineIndex, acknowledge, instruction_wire}
use Rattle.state.specs.Layout.{delete_count, delete_index_at}
use Rattle.deletes.specs.Deletes.{Dropping, dropped}
use Rattle.sizes.specs.Sizes.{int_size}
use Rattle.sizes.proofs.Lengths.{acknowledge-size}
use Rattle.decoder_collect.proofs.ReadyDeletes.{formed, changes, good, fine, next-below}
use Rattle.decoder_collect.proofs.Calls.{leaves, no_room, frees}
use Rattle.decoder_collect.proofs.collect.free.Goals as goal

pub delete_index_at-requires : goal.delete_index_at-requires
delete_index_at-requires c =
    let stands = formed c.args.m.now c.requires.m_value (search rules) in
    let below : let a = c.args in a.k < delete_count a.m.now = next-below _ stands _ c.requires.m_value_2 in
    let g = good _ stands _ below in (g.few, g.long)

pub new-index-requires : goal.new-index-requires
new-index-requires c =
    let stands = formed c.args.m.now c.requires.m_value (search rules) in
    let below : let a = c.args in a.k < delete_count a.m.now = next-below _ stands _ c.requires.m_value_2 in
    let f = fine _ stands _ below in
    omega (arith, c.delete_index_at.ensures, f.0, f.1)

pub returns-then-out-n : goal.returns-then-out-n
returns-then-out-n c =
    let stands = formed c.args.m.now c.requires.m_value (search rules) in
    let index : let a = c.args in c.new-index.result.value ≡ delete_index_at a.m.now a.k = ap (λ (i : TableIndex). i.value) c.new-index.ensures ∙ c.delete_index_at.ensures in
    let size : let a = c.args in c.acknowledge_size-n.result ≡ int_size 6 (delete_index_at a.m.now a.k) = c.acknowledge_size-n.ensures.0 ∙ ap (int_size 6) index in
    let measured = c in
    let known = measured in let all = leaves (no_room _ _ stands _ known.requires.m_value_2 (omega (arith, size, c.if-out-n.true))) c.because.ensures refl refl in record { result_value = all.0; m_after = all.1.0; out_after = all.1.1 }

pub write_acknowledgement-requires : goal.write_acknowledgement-requires
write_acknowledgement-requires c =
    let stands = formed c.args.m.now c.requires.m_value (search rules) in
    let below : let a = c.args in a.k < delete_count a.m.now = next-below _ stands _ c.requires.m_value_2 in
    let index : let a = c.args in c.new-index.result.value ≡ delete_index_at a.m.now a.k = ap (λ (i : TableIndex). i.value) c.new-index.ensures ∙ c.delete_index_at.ensures in
    let measured = c in
    let read = measured in
    let known = read in record { fine_instruction = subst FineIndex (sym index) (fine _ stands _ below); value_in_bounds = omega (arith, acknowledge-size read.new-index.result.value, measured.acknowledge_size-n.ensures.0, c.if-out-n.false) }

pub row_of-place-requires : goal.row_of-place-requires
row_of-place-requires c =
    let stands = formed c.args.m.now c.requires.m_value (search rules) in
    let below : let a = c.args in a.k < delete_count a.m.now = next-below _ stands _ c.requires.m_value_2 in
    let known = c in (below, known.requires.m_value)

pub remove-requires : goal.remove-requires
remove-requires c =
    let stands = formed c.args.m.now c.requires.m_value (search rules) in
    let known = c in
    (changes _ stands).removing _ _ c.row_of-place.ensures.0

pub drop_delete-requires : goal.drop_delete-requires
drop_delete-requires c =
    let stands = formed c.args.m.now c.requires.m_value (search rules) in
    let known = c in
    let row = c.row_of-place.ensures in
    subst (λ (n : List ℕ). Dropping n known.args.k) (sym c.remove.ensures) ((changes _ stands).dropping _ _ _ row.0 row.1)

pub returns : goal.returns
returns c =
    let stands = formed c.args.m.now c.requires.m_value (search rules) in
    let index : let a = c.args in c.new-index.result.value ≡ delete_index_at a.m.now a.k = ap (λ (i : TableIndex). i.value) c.new-index.ensures ∙ c.delete_index_at.ensures in
    let size : let a = c.args in c.acknowledge_size-n.result ≡ int_size 6 (delete_index_at a.m.now a.k) = c.acknowledge_size-n.ensures.0 ∙ ap (int_size 6) index in
    let taken_out = c in
    let row = taken_out.row_of-place.ensures in
    let written = c in
    let measured = written in
    let known = measured in
    let out = known.args.out.now in let all = leaves (frees _ _ stands _ known.requires.m_value_2 _ row.0 row.1 (omega (arith, size, written.if-out-n.false)))
    (c.done.ensures ∙ ap (λ (n : ℕ). done n 0) size)
    (c.drop_delete.ensures ∙ ap (λ (n : List ℕ). dropped n known.args.k) taken_out.remove.ensures)
    (written.write_acknowledgement.ensures.out_after ∙ ap (λ (i : ℕ). overlay out 0 (instruction_wire (acknowledge i))) index) in record { result_value = all.0; m_after = all.1.0; out_after = all.1.1 }
