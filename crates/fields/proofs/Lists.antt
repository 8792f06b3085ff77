-- A list of fields and its bytes, both ways: the bytes of fine fields are read as those fields, and bytes that are read as fields are the bytes of
-- those fields, which are fine. By induction over the fields, and over the count of turns.
use mathlib.Core.Path.{◌≡◌, refl, sym, ap, subst, ◌∙◌}
use Prim.Native.Nat.{ℕ, zero, suc, ◌+◌, ◌-◌, ◌≤◌, ◌<◌}
use native.Mathlib.Omega.{arith}
use native.Mathlib.Numerals.{sub-one}
use mathlib.Core.List.{List, [], ◌∷◌, ◌++◌, append-nil}
use lib.ListN.{length, length-append}
use lib.Seq.{append_snoc}
use Rattle.memory.specs.Bytes.{Has, Small}
use Rattle.memory.proofs.Order.{split}
use Rattle.memory.proofs.Places.{has_left, has_right, has_join, has_all, has_one}
use Rattle.fields.specs.Form.{Field, field_form, list_form, AllFine}
use Rattle.fields.specs.Reading.{read_field, field_of, fields_from, read_field_list, FieldListRead.list, FieldListRead.refused}
use Rattle.fields.specs.declared.read.FieldPlace.{FieldPlace}
use Rattle.fields.proofs.Bounds.{field-bounds}
use Rattle.fields.proofs.Turns.{fields-done, fields-refused, fields-more}
use Rattle.fields.proofs.Back.{field_back}
use Rattle.fields.proofs.Forth.{field-forth, Stands}
use Rattle.std.specs.Prelude.{Ok, Err}
use Rattle.integers.specs.Answers.{Read}

pub list_form-cons : (f : Field) (fs : List Field) → list_form (f ∷ fs) ≡ field_form f ++ list_form fs
unfolding list_form
list_form-cons f fs = refl

-- ---- what was written is read

pub from_back : (s : List ℕ) (at : ℕ) (before fs : List Field) → AllFine fs → Has s at (list_form fs) → at + length (list_form fs) ≡ length s
    → (f : ℕ) → length s ≤ at + f → fields_from f s at before ≡ list (before ++ fs)
unfolding list_form
from_back s at before [] h p e f k = fields-done s at before f (omega arith) ∙ ap list (sym (append-nil before))
from_back s at before (x ∷ fs) h p e f k =
    let b = field_back s at x h.0 (has_left s at (field_form x) (list_form fs) p) in
    let q = has_right s at (field_form x) (list_form fs) p in
    let next : ℕ = at + length (field_form x) in
    let l = field-bounds s at b.0 next b.1 in
    let n = length-append (field_form x) (list_form fs) in
    fields-more s at before (omega arith) _ refl f (omega arith) b.0 next b.1
    ∙ ap (λ (y : Field). fields_from (f - 1) s next (before ++ (y ∷ []))) b.2
    ∙ from_back s next (before ++ (x ∷ [])) fs h.1 q (omega arith) (f - 1) (omega arith)
    ∙ ap list (append_snoc before x fs)

pub list_back : (fs : List Field) → AllFine fs → read_field_list (list_form fs) ≡ list fs
list_back fs h = from_back (list_form fs) 0 [] fs h (has_all (list_form fs)) (omega arith) (length (list_form fs)) (omega arith)

-- so the bytes tell the fields
pub list-injective : (fs gs : List Field) → AllFine fs → AllFine gs → list_form fs ≡ list_form gs → fs ≡ gs
list-injective fs gs h k e =
    let x : list fs ≡ list gs = sym (list_back fs h) ∙ ap read_field_list e ∙ list_back gs k in
    cc

-- ---- what was read is what would be written

-- the fields read from a place on: they follow those before it, and their bytes stand there to the end
pub record Rest (s : List ℕ) (at : ℕ) (before all : List Field) : Type 0 where
  pub rest : List Field
  pub whole : all ≡ before ++ rest
  pub stands : Stands s at (length s) (list_form rest)
  pub fine : AllFine rest

module _ (s : List ℕ) (small : Small s) (all : List Field) where
  rest-none : (at : ℕ) (before : List Field) (f : ℕ) → at ≤ length s → length s ≤ at → fields_from f s at before ≡ list all → Rest s at before all
  unfolding list_form
  rest-none at before f h k e =
      let d : list before ≡ list all = sym (fields-done s at before f k) ∙ e in
      let g : before ≡ all = cc in
      record { rest = []; whole = sym g ∙ sym (append-nil before); stands = (tt, omega arith); fine = tt }

  rest_more : (at : ℕ) (before : List Field) (p : FieldPlace) (next : ℕ) → read_field s at ≡ Ok (p, next)
      → Rest s next (before ++ (field_of s p ∷ [])) all → Rest s at before all
  unfolding list_form
  rest_more at before p next e r =
      let x : Field = field_of s p in
      let fs : List Field = r.rest in
      let b = field-forth s small at p next e in
      let q : Has s (at + length (field_form x)) (list_form fs) = subst (λ (k : ℕ). Has s k (list_form fs)) b.1 r.stands.0 in
      record {
        rest = x ∷ fs;
        whole = r.whole ∙ append_snoc before x fs;
        stands = (has_join s at (field_form x) (list_form fs) b.0 q, omega (arith, r.stands.1, b.1, length-append (field_form x) (list_form fs)));
        fine = (b.2, r.fine);
      }

  rest-step : (f at : ℕ) (before : List Field) → at < length s → fields_from (suc f) s at before ≡ list all
      → ((at : ℕ) (before : List Field) → at ≤ length s → length s ≤ at + f → fields_from f s at before ≡ list all → Rest s at before all)
      → length s ≤ at + suc f → (r : Read FieldPlace) → r ≡ read_field s at → Rest s at before all
  rest-step f at before h e ih k (Err why) d =
      let x : refused why ≡ list all = sym (fields-refused s at before h _ d (suc f) (omega arith) why refl) ∙ e in
      let z : ◌≡◌ {A = ℕ} 0 1 = cc in
      absurd (omega arith)
  rest-step f at before h e ih k (Ok (p, next)) d =
      let b = field-bounds s at p next (sym d) in
      let x = rw sub-one at (fields-more s at before h _ d (suc f) (omega arith) p next refl) in
      rest_more at before p next (sym d) (ih next (before ++ (field_of s p ∷ [])) b.inside (omega arith) (sym x ∙ e))

  pub from-forth : (f at : ℕ) (before : List Field) → at ≤ length s → length s ≤ at + f → fields_from f s at before ≡ list all → Rest s at before all
  from-forth zero at before h k e = rest-none at before zero h (omega arith) e
  from-forth (suc f) at before h k e =
      split at (length s)
      (λ l. rest-step f at before l e (λ at before h k e. from-forth f at before h k e) k (read_field s at) refl)
      (λ l. rest-none at before (suc f) h l e)

pub list-forth : (s : List ℕ) → Small s → (fs : List Field) → read_field_list s ≡ list fs → (list_form fs ≡ s) × AllFine fs
list-forth s small fs e =
    let r : Rest s 0 [] fs = from-forth s small fs (length s) 0 [] (omega arith) (omega arith) e in
    let w : r.rest ≡ fs = sym r.whole in
    let x : list_form r.rest ≡ s = has_one s 0 (list_form r.rest) s (omega (arith, r.stands.1)) r.stands.0 (has_all s) in
    (ap list_form (sym w) ∙ x, subst AllFine w r.fine)
