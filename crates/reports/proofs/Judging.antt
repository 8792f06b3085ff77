-- The verdict from its three parts, and the values that are looked at.
use mathlib.Core.Path.{◌≡◌, refl, sym, ap, ◌∙◌}
use mathlib.Core.Bool.{Bool, true, false}
use mathlib.Core.List.{List}
use Prim.Native.Nat.{ℕ}
use Rattle.memory.specs.Choice.{pick}
use Rattle.fields.specs.Form.{Field}
use Rattle.fields.specs.Reading.{FieldListRead, FieldListRead.list, FieldListRead.refused, list_checked}
use Rattle.fields.specs.declared.read.TextPlace.{TextPlace}
use Rattle.integers.specs.declared.answer.Refusal.{Refusal}
use Rattle.std.specs.Prelude.{None, Some, Result, Ok, Err}
use Rattle.std.specs.Result.{is_ok}
use Rattle.reports.specs.Report.{Verdict.report, Verdict.no_list, machine_name, hours_name, turns_name, values_of, is_machine, machine_text, number_text, on_checked, tenths, judged_fields, judged, told, Within, present, trailer_fields, trailer_judged}
use Rattle.reports.specs.Said.{fields_in, under, machine_told, MachineInside, combine}
use Rattle.reports.specs.declared.report.Named.TheVariants.{Machine, Hours, Turns}
use Rattle.reports.specs.declared.report.Why.{Why}
use Rattle.reports.specs.declared.report.Why.TheVariants.{OutOfRange}

-- ---- values

module _ (v text : List ℕ) (e : text ≡ v) (r : Bool) (d : r ≡ is_machine text) where
  known : r ≡ is_machine v
  known = d ∙ ap is_machine e

  pub machine-fine : r ≡ true → Ok v ≡ machine_text v
  machine-fine h = sym (rw (← known, h))

  pub machine-fails : r ≡ false → Err OutOfRange ≡ machine_text v
  machine-fails h = sym (rw (← known, h))

-- ---- the three parts together

combine-told : (s : List ℕ) (m : Result TextPlace Why) (h t : Result ℕ Why)
    → told s (combine m h t)
    ≡ on_checked Machine (machine_told s m) (λ machine. on_checked Hours h (λ hours. on_checked Turns t (λ turns.
    report machine (tenths turns hours))))
combine-told s (Err why) h t = refl
combine-told s (Ok p) (Err why) t = refl
combine-told s (Ok p) (Ok hours) (Err why) = refl
combine-told s (Ok p) (Ok hours) (Ok turns) = refl

pub combine-within : (s : List ℕ) (m : Result TextPlace Why) (h t : Result ℕ Why) → MachineInside s m → Within s (combine m h t)
combine-within s (Err why) h t i = tt
combine-within s (Ok p) (Err why) t i = tt
combine-within s (Ok p) (Ok hours) (Err why) i = tt
combine-within s (Ok p) (Ok hours) (Ok turns) i = i

module _ (fields : FieldListRead) (fs : List Field) (e : fields ≡ list fs) where
  pub verdict : (s : List ℕ) (m : Result TextPlace Why) (h t : Result ℕ Why) → machine_told s m ≡ under machine_name fields machine_text
      → h ≡ under hours_name fields number_text → t ≡ under turns_name fields number_text
      → told s (combine m h t) ≡ judged fields
  unfolding judged judged_fields
  verdict s m h t a b c = combine-told s m h t ∙ rw (a, b, c, e)

  has : List ℕ → Bool
  has name = present (values_of name (fields_in fields))

  parts : trailer_judged fields
      ≡ Ok (pick (has machine_name) (Some Machine) (pick (has hours_name) (Some Hours) (pick (has turns_name) (Some Turns) None)))
  unfolding trailer_judged trailer_fields has
  parts = rw e

  module _ (a : Bool) (da : a ≡ present (values_of machine_name (fields_in fields))) where
    pub machine-there : a ≡ true → Ok (Some Machine) ≡ trailer_judged fields
    unfolding has
    machine-there p = sym (parts ∙ rw (← da, p))

    module _ (p : a ≡ false) (b : Bool) (db : b ≡ present (values_of hours_name (fields_in fields))) where
      pub hours-there : b ≡ true → Ok (Some Hours) ≡ trailer_judged fields
      unfolding has
      hours-there q = sym (parts ∙ rw (← da, p, ← db, q))

      module _ (q : b ≡ false) (c : Bool) (dc : c ≡ present (values_of turns_name (fields_in fields))) where
        pub turns-there : c ≡ true → Ok (Some Turns) ≡ trailer_judged fields
        unfolding has
        turns-there r = sym (parts ∙ rw (← da, p, ← db, q, ← dc, r))

        pub none-there : c ≡ false → Ok None ≡ trailer_judged fields
        unfolding has
        none-there r = sym (parts ∙ rw (← da, p, ← db, q, ← dc, r))

-- ---- whether the bytes are a list at all

module _ (fields : FieldListRead) (r : Result (Unit {0}) Refusal) (e : r ≡ list_checked fields) where
  whole-go : (known : FieldListRead) → is_ok (list_checked known) ≡ true → (fs : List Field) × (known ≡ list fs)
  whole-go (list fs) d = (fs, refl)
  whole-go (refused why) d = absurd (cc)

  pub whole : is_ok r ≡ true → (fs : List Field) × (fields ≡ list fs)
  whole d = whole-go fields (sym (ap is_ok e) ∙ d)

  no-list-go : (known : FieldListRead) → is_ok (list_checked known) ≡ false → (no_list ≡ judged known) × (Err record {} ≡ trailer_judged known)
  unfolding judged trailer_judged
  no-list-go (list fs) d = absurd (cc)
  no-list-go (refused why) d = (refl, refl)

  pub not-judged : is_ok r ≡ false → no_list ≡ judged fields
  not-judged d = (no-list-go fields (sym (ap is_ok e) ∙ d)).0

  pub no-trailer : is_ok r ≡ false → Err record {} ≡ trailer_judged fields
  no-trailer d = (no-list-go fields (sym (ap is_ok e) ∙ d)).1
