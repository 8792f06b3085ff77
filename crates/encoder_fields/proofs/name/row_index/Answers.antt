use Prim.Native.Nat.{ℕ, ◌≤◌, ◌<◌}
use mathlib.Core.Path.{ap, ◌∙◌}
use native.Mathlib.Omega.{arith}
use Rattle.memory.specs.Bytes.{Small}
use Rattle.integers.specs.declared.number.TableIndex.{TableIndex}
use Rattle.state.specs.Layout.{index_at}
use Rattle.encoder_fields.proofs.Choosing.{ordered, row-index}
use Rattle.encoder_fields.proofs.name.row_index.Goals as goal

abbrev index : ℕ → TableIndex
index n = record { value = n }

pub index_at-requires : goal.index_at-requires
index_at-requires c =
    let small : Small c.args.m.now = λ k. omega (arith, c.type_inv.m k) in
    let row : (c.args.place < 128) × (62 ≤ index_at c.args.m.now c.args.place) × (index_at c.args.m.now c.args.place ≤ 189) = row-index _ small c.requires.1 _ c.requires.0 in
    (row.0, omega (arith, (ordered _ small c.requires.1).long))

pub new-requires : goal.new-requires
new-requires c =
    let small : Small c.args.m.now = λ k. omega (arith, c.type_inv.m k) in
    let row : (c.args.place < 128) × (62 ≤ index_at c.args.m.now c.args.place) × (index_at c.args.m.now c.args.place ≤ 189) = row-index _ small c.requires.1 _ c.requires.0 in
    let r = row in (omega (arith, c.index_at.ensures, r.1), omega (arith, c.index_at.ensures, r.2))

pub returns : goal.returns
returns c = c.new.ensures ∙ ap index c.index_at.ensures
