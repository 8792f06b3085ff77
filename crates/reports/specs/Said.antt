-- What the functions below `judge` tell of a list, each in the terms of Report.antt.
use Rattle.std.specs.Prelude.{ℕ, List, [], ◌∷◌, Result, Ok, Err}
use Rattle.memory.specs.Choice.{pick}
use Rattle.memory.specs.Compare.{same}
use Rattle.fields.specs.Form.{Field}
use Rattle.fields.specs.Reading.{FieldListRead, FieldListRead.list, FieldListRead.refused, text_of, InText}
use Rattle.fields.specs.declared.read.TextPlace.{TextPlace}
use Rattle.fields.specs.declared.read.FieldPlace.{FieldPlace}
use Rattle.reports.specs.Report.{Checked, exactly_once, values_of, tenths}
use Rattle.reports.specs.declared.report.Named.TheVariants.{Machine, Hours, Turns}
use Rattle.reports.specs.declared.report.Why.{Why}
use Rattle.reports.specs.declared.report.Report.{Report}
use Rattle.reports.specs.declared.report.NoReport.{NoReport}
use Rattle.reports.specs.declared.report.NoReport.TheVariants.{Unclear}
use Rattle.reports.specs.declared.said.Said.{Said}
use Rattle.reports.specs.declared.said.Said.TheVariants.{Nothing, Once, More}

-- how often a name stands, and its value where it stands once
pub data Times : Type 0 where
  never : Times
  once : List ℕ → Times
  often : Times

abbrev pub times : List (List ℕ) → Times
times [] = never
times (v ∷ []) = once v
times (v ∷ w ∷ ws) = often

-- the fields of bytes that are a list; else none
abbrev pub fields_in : FieldListRead → List Field
fields_in (list fs) = fs
fields_in (refused number) = []

abbrev pub times_told : List ℕ → Said → Times
times_told s Nothing = never
times_told s (Once place) = once (text_of s place)
times_told s More = often

abbrev pub SaidInside : List ℕ → Said → Type 0
SaidInside s Nothing = Unit {0}
SaidInside s (Once place) = InText s place
SaidInside s More = Unit {0}

-- one value more
abbrev pub with_value : Said → TextPlace → Said
with_value Nothing place = Once place
with_value (Once first) place = More
with_value More place = More

-- one field of the list s more
abbrev pub with_field : List ℕ → List ℕ → Said → FieldPlace → Said
with_field name s before f = pick (same (text_of s f.name) name) (with_value before f.value) before

-- what is looked for under a name
abbrev pub under : {X : Type 0} → List ℕ → FieldListRead → (List ℕ → Checked X) → Checked X
under name fields look = exactly_once (values_of name (fields_in fields)) look

abbrev pub machine_told : List ℕ → Result TextPlace Why → Checked (List ℕ)
machine_told s (Ok place) = Ok (text_of s place)
machine_told s (Err why) = Err why

abbrev pub MachineInside : List ℕ → Result TextPlace Why → Type 0
MachineInside s (Ok place) = InText s place
MachineInside s (Err why) = Unit {0}

-- the three together
abbrev pub combine : Result TextPlace Why → Result ℕ Why → Result ℕ Why → Result Report NoReport
combine (Ok place) (Ok hours) (Ok turns) = Ok (record { machine = place; tenths = tenths turns hours })
combine (Ok place) (Ok hours) (Err why) = Err (Unclear Turns why)
combine (Ok place) (Err why) turns = Err (Unclear Hours why)
combine (Err why) hours turns = Err (Unclear Machine why)
