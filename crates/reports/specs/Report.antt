-- Which lists of fields are a machine's report, and its hours (docs/RECORDINGS.md, "Hours", point 3): "each of the fields `machine`, `hours` and
-- `turns` stands in it exactly once, the machine is 1 to 15 characters of printable ASCII, and the other two are decimal numbers of 0 to 65,535".
use Rattle.std.specs.Prelude.{Option, None, Some, Result, Ok, Err, ℕ, ◌+◌, ◌*◌, Bool, true, false, List, [], ◌∷◌, leb, length}
use Rattle.memory.specs.Choice.{pick, need}
use Rattle.memory.specs.Compare.{same}
use Rattle.fields.specs.Form.{Field}
use Rattle.fields.specs.Reading.{FieldListRead, FieldListRead.list, FieldListRead.refused, text_of, InText}
use Rattle.tokens.specs.Numbers.{number_of}
use Rattle.shown_bytes.specs.Ascii.{all_printable}
use Rattle.reports.specs.declared.report.Named.{Named}
use Rattle.reports.specs.declared.report.Named.TheVariants.{Machine, Hours, Turns}
use Rattle.reports.specs.declared.report.Why.{Why}
use Rattle.reports.specs.declared.report.Why.TheVariants.{Missing, MoreThanOnce, OutOfRange}
use Rattle.reports.specs.declared.report.Report.{Report}
use Rattle.reports.specs.declared.report.NoReport.{NoReport}
use Rattle.reports.specs.declared.report.NoReport.TheVariants.{Unclear, NoList}
use Rattle.reports.specs.declared.report.NoList.{NoList as NotAList}

-- the names, in ASCII
abbrev pub machine_name : List ℕ
machine_name = 109 ∷ 97 ∷ 99 ∷ 104 ∷ 105 ∷ 110 ∷ 101 ∷ []

abbrev pub hours_name : List ℕ
hours_name = 104 ∷ 111 ∷ 117 ∷ 114 ∷ 115 ∷ []

abbrev pub turns_name : List ℕ
turns_name = 116 ∷ 117 ∷ 114 ∷ 110 ∷ 115 ∷ []

-- a report of this machine with these tenths of an hour; or which of the three names fails first, and how; or no field list at all
pub data Verdict : Type 0 where
  report : List ℕ → ℕ → Verdict
  unclear : Named → Why → Verdict
  no_list : Verdict

-- a value that is as it has to be, or how it fails
abbrev pub Checked : Type 0 → Type 0
Checked X = Result X Why

-- the values of the fields with this name, in their order
unfoldable pub values_of : List ℕ → List Field → List (List ℕ)
values_of name [] = []
values_of name (f ∷ fs) = pick (same f.name name) (f.value ∷ values_of name fs) (values_of name fs)

-- there must be one, and only one; then that is looked at
unfoldable pub exactly_once : {X : Type 0} → List (List ℕ) → (List ℕ → Checked X) → Checked X
exactly_once [] look = Err Missing
exactly_once (v ∷ []) look = look v
exactly_once (v ∷ w ∷ ws) look = Err MoreThanOnce

unfoldable pub is_machine : List ℕ → Bool
is_machine v = pick (leb 1 (length v)) (pick (leb (length v) 15) (all_printable v) false) false

abbrev pub machine_text : List ℕ → Checked (List ℕ)
machine_text v = need (is_machine v) (Err OutOfRange) (Ok v)

abbrev pub most : ℕ
most = 65535

abbrev pub small_number : Option ℕ → Checked ℕ
small_number (Some n) = need (leb n most) (Err OutOfRange) (Ok n)
small_number None = Err OutOfRange

abbrev pub number_text : List ℕ → Checked ℕ
number_text v = small_number (number_of v)

-- what follows, or that this one fails
abbrev pub on_checked : {X : Type 0} → Named → Checked X → (X → Verdict) → Verdict
on_checked name (Ok x) next = next x
on_checked name (Err why) next = unclear name why

-- "(turns × 65,536 + hours) / 10", here in tenths of an hour
abbrev pub tenths : ℕ → ℕ → ℕ
tenths turns hours = turns * 65536 + hours

unfoldable pub judged_fields : List Field → Verdict
judged_fields fs =
    on_checked Machine (exactly_once (values_of machine_name fs) machine_text) (λ machine.
    on_checked Hours (exactly_once (values_of hours_name fs) number_text) (λ hours.
    on_checked Turns (exactly_once (values_of turns_name fs) number_text) (λ turns.
    report machine (tenths turns hours))))

unfoldable pub judged : FieldListRead → Verdict
judged (list fs) = judged_fields fs
judged (refused number) = no_list

-- what the code says of the list s, with the machine's bytes for their place, which lies in s
abbrev pub told : List ℕ → Result Report NoReport → Verdict
told s (Ok r) = report (text_of s r.machine) r.tenths
told s (Err (Unclear name why)) = unclear name why
told s (Err NoList) = no_list

abbrev pub Within : List ℕ → Result Report NoReport → Type 0
Within s (Ok r) = InText s r.machine
Within s (Err e) = Unit {0}

-- "where it has one of the three fields .. the first of `machine`, `hours`, `turns` that it has"
abbrev pub present : List (List ℕ) → Bool
present [] = false
present (v ∷ vs) = true

unfoldable pub trailer_fields : List Field → Option Named
trailer_fields fs =
    pick (present (values_of machine_name fs)) (Some Machine)
    (pick (present (values_of hours_name fs)) (Some Hours)
    (pick (present (values_of turns_name fs)) (Some Turns)
    None))

unfoldable pub trailer_judged : FieldListRead → Result (Option Named) NotAList
trailer_judged (list fs) = Ok (trailer_fields fs)
trailer_judged (refused number) = Err record {}
