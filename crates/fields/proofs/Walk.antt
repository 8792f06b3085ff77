-- Walking a field list, for the loops above: the count of turns does not matter where it is large enough, the fields before a place are only
-- kept in front, a refusal has one of two numbers, and a list that was read whole gives its fields one by one.
use mathlib.Core.Path.{◌≡◌, refl, sym, ap, subst, ◌∙◌}
use Prim.Native.Nat.{ℕ, zero, suc, ◌+◌, ◌-◌, ◌≤◌, ◌<◌}
use native.Mathlib.Omega.{arith}
use native.Mathlib.Numerals.{sub-one}
use mathlib.Core.Logic.{⊎_elim}
use mathlib.Core.List.{List, [], ◌∷◌, ◌++◌, append_assoc}
use lib.ListN.{length}
use Rattle.memory.proofs.Order.{split}
use Rattle.fields.specs.Form.{Field}
use Rattle.fields.specs.Reading.{read_field, field_of, fields_from, read_field_list, field_list_answer, FieldListRead, FieldListRead.list, FieldListRead.refused}
use Rattle.fields.specs.declared.read.FieldPlace.{FieldPlace}
use Rattle.fields.proofs.Inverse.{RefusalNumber, field-number}
use Rattle.fields.proofs.Bounds.{field-bounds}
use Rattle.fields.proofs.Turns.{fields-done, fields-refused, fields-more}
use Rattle.std.specs.Prelude.{Ok, Err}
use Rattle.integers.specs.Answers.{Read}
use Rattle.integers.specs.declared.answer.Refusal.{Refusal}

-- fields put in front of what is read
abbrev pub after : List Field → FieldListRead → FieldListRead
after before (list fs) = list (before ++ fs)
after before (refused why) = refused why

module _ (s : List ℕ) where
  -- ---- enough turns

  enough-step : (f g at : ℕ) (before : List Field) → length s ≤ at + suc f → length s ≤ at + g → at < length s
      → ((g at : ℕ) (before : List Field) → length s ≤ at + f → length s ≤ at + g → fields_from f s at before ≡ fields_from g s at before)
      → (r : Read FieldPlace) → r ≡ read_field s at → fields_from (suc f) s at before ≡ fields_from g s at before
  enough-step f g at before h k l ih (Err why) e =
      fields-refused s at before l _ e (suc f) (omega arith) why refl ∙ sym (fields-refused s at before l _ e g (omega arith) why refl)
  enough-step f g at before h k l ih (Ok (p, next)) e =
      let b = field-bounds s at p next (sym e) in
      rw sub-one at (fields-more s at before l _ e (suc f) (omega arith) p next refl)
      ∙ ih (g - 1) next (before ++ (field_of s p ∷ [])) (omega arith) (omega arith)
      ∙ sym (fields-more s at before l _ e g (omega arith) p next refl)

  pub enough : (f g at : ℕ) (before : List Field) → length s ≤ at + f → length s ≤ at + g → fields_from f s at before ≡ fields_from g s at before
  enough zero g at before h k = fields-done s at before zero (omega arith) ∙ sym (fields-done s at before g (omega arith))
  enough (suc f) g at before h k =
      split at (length s)
      (λ l. enough-step f g at before h k l (λ g at before h k. enough f g at before h k) (read_field s at) refl)
      (λ l. fields-done s at before (suc f) l ∙ sym (fields-done s at before g l))

  -- ---- the fields before a place

  before-step : (f at : ℕ) (xs ys : List Field) → at < length s
      → ((at : ℕ) (xs ys : List Field) → fields_from f s at (xs ++ ys) ≡ after xs (fields_from f s at ys))
      → (r : Read FieldPlace) → r ≡ read_field s at → fields_from (suc f) s at (xs ++ ys) ≡ after xs (fields_from (suc f) s at ys)
  before-step f at xs ys l ih (Err why) e =
      fields-refused s at (xs ++ ys) l _ e (suc f) (omega arith) why refl
      ∙ sym (ap (after xs) (fields-refused s at ys l _ e (suc f) (omega arith) why refl))
  before-step f at xs ys l ih (Ok (p, next)) e =
      let x : List Field = field_of s p ∷ [] in
      rw sub-one at (fields-more s at (xs ++ ys) l _ e (suc f) (omega arith) p next refl)
      ∙ ap (fields_from f s next) (append_assoc xs ys x)
      ∙ ih next xs (ys ++ x)
      ∙ sym (ap (after xs) (rw sub-one at (fields-more s at ys l _ e (suc f) (omega arith) p next refl)))

  pub before-apart : (f at : ℕ) (xs ys : List Field) → fields_from f s at (xs ++ ys) ≡ after xs (fields_from f s at ys)
  unfolding fields_from
  before-apart zero at xs ys = refl
  before-apart (suc f) at xs ys =
      split at (length s)
      (λ l. before-step f at xs ys l (λ at xs ys. before-apart f at xs ys) (read_field s at) refl)
      (λ l. fields-done s at (xs ++ ys) (suc f) l ∙ sym (ap (after xs) (fields-done s at ys (suc f) l)))

  -- ---- the why of a refusal

  abbrev IfRefused : FieldListRead → Type 0
  IfRefused (list fs) = Unit {0}
  IfRefused (refused why) = RefusalNumber why

  number_step : (f at : ℕ) (before : List Field) → at < length s → ((at : ℕ) (before : List Field) → IfRefused (fields_from f s at before))
      → (r : Read FieldPlace) → r ≡ read_field s at → IfRefused (fields_from (suc f) s at before)
  number_step f at before l ih (Err why) e =
      rw (fields-refused s at before l _ e (suc f) (omega arith) why refl) (field-number s at why (sym e))
  number_step f at before l ih (Ok (p, next)) e =
      rw (fields-more s at before l _ e (suc f) (omega arith) p next refl, sub-one) (ih next (before ++ (field_of s p ∷ [])))

  if-refused : (f at : ℕ) (before : List Field) → IfRefused (fields_from f s at before)
  unfolding fields_from
  if-refused zero at before = tt
  if-refused (suc f) at before =
      split at (length s)
      (λ l. number_step f at before l (λ at before. if-refused f at before) (read_field s at) refl)
      (λ l. rw (fields-done s at before (suc f) l) tt)

  pub list-number : (f at : ℕ) (before : List Field) (why : Refusal) → fields_from f s at before ≡ refused why → RefusalNumber why
  list-number f at before why e = subst IfRefused e (if-refused f at before)

  -- the answer 0 is that of a list
  zero-list : (r : FieldListRead) → r ≡ read_field_list s → (field_list_answer r).number ≡ 0 → (fs : List Field) × (read_field_list s ≡ list fs)
  zero-list (list fs) e z = (fs, sym e)
  zero-list (refused why) e z =
      ⊎_elim (λ d. absurd (omega arith)) (λ d. absurd (omega arith)) (list-number (length s) 0 [] why (sym e))

  pub checked : (field_list_answer (read_field_list s)).number ≡ 0 → (fs : List Field) × (read_field_list s ≡ list fs)
  checked z = zero-list (read_field_list s) refl z

  -- ---- a list that was read whole, walked again: fs are the fields from the place on

  module _ (f at : ℕ) (fs : List Field) (e : fields_from f s at [] ≡ list fs) where
    pub walk-done : length s ≤ at → fs ≡ []
    walk-done h =
        let x : list [] ≡ list fs = sym (fields-done s at [] f h) ∙ e in
        cc

    module _ (h : at < length s) (l : length s ≤ at + f) (r : Read FieldPlace) (d : r ≡ read_field s at) where
      -- no field of it is refused
      pub walk_refused : (why : Refusal) → r ≡ Err why → ⊥
      walk_refused why k =
          let x : refused why ≡ list fs = sym (fields-refused s at [] h r d f (omega arith) why k) ∙ e in
          let z : ◌≡◌ {A = ℕ} 0 1 = cc in
          omega arith

      pub walk_more : (p : FieldPlace) (next : ℕ) → r ≡ Ok (p, next)
          → (rest : List Field) × (fs ≡ field_of s p ∷ rest) × (fields_from (f - 1) s next [] ≡ list rest)
      walk_more p next k = go (fields_from (f - 1) s next []) refl
        where
          x : List Field
          x = field_of s p ∷ []

          whole : after x (fields_from (f - 1) s next []) ≡ list fs
          whole = sym (before-apart (f - 1) next x []) ∙ sym (fields-more s at [] h r d f (omega arith) p next k) ∙ e

          go : (q : FieldListRead) → q ≡ fields_from (f - 1) s next []
              → (rest : List Field) × (fs ≡ field_of s p ∷ rest) × (fields_from (f - 1) s next [] ≡ list rest)
          go (list rest) g =
              let y : list (field_of s p ∷ rest) ≡ list fs = ap (after (field_of s p ∷ [])) g ∙ whole in
              let z : field_of s p ∷ rest ≡ fs = cc in
              (rest, sym z, sym g)
          go (refused why) g =
              let y : refused why ≡ list fs = ap (after (field_of s p ∷ [])) g ∙ whole in
              let z : ◌≡◌ {A = ℕ} 0 1 = cc in
              absurd (omega arith)
