use Prim.Native.Nat.{ℕ, ◌+◌, ◌-◌, ◌≤◌}
use mathlib.Core.Path.{◌≡◌}
use mathlib.Core.List.{List}
use lib.ListN.{length}
use Rattle.blocks.specs.Representation.{Representation}
use Rattle.blocks.specs.Reading.{block_from, read_block}
use Rattle.blocks.proofs.read.check_block.Given as goal

abbrev pub invariant-loop-at : goal.invariant-loop-at
invariant-loop-at l = (f : ℕ) × (before : List Representation) × (length l.s ≤ l.at + f) × (read_block l.s ≡ block_from f l.s l.at before)

abbrev pub decreases-loop-at : goal.decreases-loop-at
decreases-loop-at l = length l.s - l.at
