use mathlib.Core.Path.{◌≡◌}
use mathlib.Core.List.{List}
use Prim.Native.Nat.{ℕ, ◌+◌, ◌-◌, ◌≤◌}
use lib.ListN.{length}
use Rattle.fields.specs.Form.{Field}
use Rattle.fields.specs.Reading.{fields_from, read_field_list}
use Rattle.reports.specs.Report.{values_of}
use Rattle.reports.specs.Said.{times, times_told, SaidInside}
use Rattle.reports.specs.declared.said.Said.{Said}
use Rattle.reports.proofs.said.look_up.Given as goal

-- what is told is what the fields before the place have under the name
abbrev pub Walked : List ℕ → List ℕ → Said → ℕ → Type 0
Walked s name told at =
    (f : ℕ) × (before : List Field) × (length s ≤ at + f) × (read_field_list s ≡ fields_from f s at before) × (at ≤ length s)
    × (times_told s told ≡ times (values_of name before)) × SaidInside s told

abbrev pub invariant-loop-at : goal.invariant-loop-at
invariant-loop-at l = Walked l.list l.name l.told l.at

abbrev pub decreases-loop-at : goal.decreases-loop-at
decreases-loop-at l = length l.list - l.at
