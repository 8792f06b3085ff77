use Prim.Native.Nat.{ℕ, ◌+◌, ◌-◌, ◌≤◌}
use mathlib.Core.Path.{◌≡◌}
use mathlib.Core.List.{List}
use lib.ListN.{length}
use Rattle.fields.specs.Form.{Field}
use Rattle.fields.specs.Reading.{fields_from, read_field_list}
use Rattle.fields.proofs.read.check_list.Given as goal

-- `check_list` meets its contract. The invariant: the whole list is what is read from the place on, after the fields before it.
abbrev pub invariant-loop-at : goal.invariant-loop-at
invariant-loop-at l = (f : ℕ) × (before : List Field) × (length l.s ≤ l.at + f) × (read_field_list l.s ≡ fields_from f l.s l.at before) × (l.at ≤ length l.s)

abbrev pub decreases-loop-at : goal.decreases-loop-at
decreases-loop-at l = length l.s - l.at
