-- The equations of `fields_from`, one for each way through a turn: for every loop that walks a field list.
use mathlib.Core.Path.{◌≡◌, refl}
use Prim.Native.Nat.{ℕ, zero, suc, ◌-◌, ◌≤◌, ◌<◌}
use native.Mathlib.Nat.{not-suc-le-zero}
use native.Mathlib.Numerals.{sub-one}
use mathlib.Core.List.{List, [], ◌∷◌, ◌++◌}
use lib.ListN.{length}
use borrow.Author.Tests.{lt-ltb, le-ltb}
use Rattle.fields.specs.Form.{Field}
use Rattle.fields.specs.Reading.{read_field, field_of, fields_from, FieldListRead.list, FieldListRead.refused}
use Rattle.fields.specs.declared.read.FieldPlace.{FieldPlace}
use Rattle.std.specs.Prelude.{Ok, Err}
use Rattle.integers.specs.Answers.{Read}
use Rattle.integers.specs.declared.answer.Refusal.{Refusal}

module _ (s : List ℕ) (at : ℕ) (before : List Field) where
  pub fields-done : (f : ℕ) → length s ≤ at → fields_from f s at before ≡ list before
  unfolding fields_from
  fields-done zero h = refl
  fields-done (suc f) h = simp (le-ltb at (length s) h)

  module _ (h : at < length s) (r : Read FieldPlace) (e : r ≡ read_field s at) where
    pub fields-refused : (f : ℕ) → 0 < f → (why : Refusal) → r ≡ Err why → fields_from f s at before ≡ refused why
    unfolding fields_from
    fields-refused zero p why d = absurd (not-suc-le-zero p)
    fields-refused (suc f) p why d = simp (lt-ltb at (length s) h, ← e, d)

    pub fields-more : (f : ℕ) → 0 < f → (p : FieldPlace) (next : ℕ) → r ≡ Ok (p, next)
        → fields_from f s at before ≡ fields_from (f - 1) s next (before ++ (field_of s p ∷ []))
    unfolding fields_from
    fields-more zero l p next d = absurd (not-suc-le-zero l)
    fields-more (suc f) l p next d = simp (lt-ltb at (length s) h, ← e, d, sub-one)
