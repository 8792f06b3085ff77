-- What is told of a list under a name, step by step: one value more, one field more, and what is looked for.
use mathlib.Core.Path.{◌≡◌, refl, sym, ap, subst, ◌∙◌}
use mathlib.Core.Bool.{Bool, true, false}
use mathlib.Core.List.{List, [], ◌∷◌, ◌++◌}
use Prim.Native.Nat.{ℕ}
use Rattle.std.specs.Prelude.{Ok, Err}
use Rattle.memory.specs.Choice.{pick}
use Rattle.memory.specs.Compare.{same}
use Rattle.fields.specs.Form.{Field}
use Rattle.fields.specs.Reading.{read_field_list, text_of, field_of, InText}
use Rattle.fields.specs.declared.read.TextPlace.{TextPlace}
use Rattle.fields.specs.declared.read.FieldPlace.{FieldPlace}
use Rattle.reports.specs.Report.{Checked, values_of, exactly_once, present}
use Rattle.reports.specs.Said.{Times, Times.never, Times.once, Times.often, times, times_told, fields_in, SaidInside, with_value, with_field}
use Rattle.reports.specs.declared.report.Why.{Why}
use Rattle.reports.specs.declared.report.Why.TheVariants.{Missing, MoreThanOnce}
use Rattle.reports.specs.declared.said.Said.{Said}
use Rattle.reports.specs.declared.said.Said.TheVariants.{Nothing, Once, More}

-- what the list s has under the name
abbrev pub values : List ℕ → List ℕ → List (List ℕ)
values name s = values_of name (fields_in (read_field_list s))

pub moved : (s : List ℕ) {x y : Said} → x ≡ y → SaidInside s x → SaidInside s y
moved s e i = subst (SaidInside s) e i

-- ---- one value more

one_more : Times → List ℕ → Times
one_more never v = once v
one_more (once first) v = often
one_more often v = often

times_more : (vs : List (List ℕ)) (v : List ℕ) → times (vs ++ (v ∷ [])) ≡ one_more (times vs) v
unfolding one_more
times_more [] v = refl
times_more (w ∷ []) v = refl
times_more (w ∷ x ∷ xs) v = refl

told_more : (s : List ℕ) (before : Said) (p : TextPlace) → times_told s (with_value before p) ≡ one_more (times_told s before) (text_of s p)
unfolding one_more
told_more s Nothing p = refl
told_more s (Once first) p = refl
told_more s More p = refl

-- ---- one field more

values-more : (name : List ℕ) (fs : List Field) (f : Field)
    → values_of name (fs ++ (f ∷ [])) ≡ pick (same f.name name) (values_of name fs ++ (f.value ∷ [])) (values_of name fs)
unfolding values_of
values-more name [] f = refl
values-more name (g ∷ gs) f = go (same g.name name) (same f.name name) (values-more name gs f)
  where
    go : (a b : Bool) {xs : List (List ℕ)} → xs ≡ pick b (values_of name gs ++ (f.value ∷ [])) (values_of name gs)
        → pick a (g.value ∷ xs) xs
        ≡ pick b (pick a (g.value ∷ values_of name gs) (values_of name gs) ++ (f.value ∷ [])) (pick a (g.value ∷ values_of name gs) (values_of name gs))
    go true true e = rw e
    go true false e = rw e
    go false true e = rw e
    go false false e = rw e

module _ (name s : List ℕ) (p : FieldPlace) (so_far next : Said) (e : next ≡ with_field name s so_far p) where
  pub said-next : (before : List Field) → times_told s so_far ≡ times (values_of name before)
      → times_told s next ≡ times (values_of name (before ++ (field_of s p ∷ [])))
  said-next before h = rw (e, values-more name before (field_of s p)) (go (same (text_of s p.name) name))
    where
      go : (b : Bool) → times_told s (pick b (with_value so_far p.value) so_far)
          ≡ times (pick b (values_of name before ++ (text_of s p.value ∷ [])) (values_of name before))
      go true =
          told_more s so_far p.value ∙ ap (λ (t : Times). one_more t (text_of s p.value)) h
          ∙ sym (times_more (values_of name before) (text_of s p.value))
      go false = h

  pub inside-next : SaidInside s so_far → InText s p.value → SaidInside s next
  inside-next h i = subst (SaidInside s) (sym e) (go (same (text_of s p.name) name))
    where
      added : (before : Said) → SaidInside s (with_value before p.value)
      added Nothing = i
      added (Once first) = tt
      added More = tt

      go : (b : Bool) → SaidInside s (pick b (with_value so_far p.value) so_far)
      go true = added so_far
      go false = h

-- ---- what is looked for under the name

looked : {X : Type 0} → Times → (List ℕ → Checked X) → Checked X
looked never look = Err Missing
looked (once v) look = look v
looked often look = Err MoreThanOnce

looked-once : {X : Type 0} (vs : List (List ℕ)) (look : List ℕ → Checked X) → looked (times vs) look ≡ exactly_once vs look
unfolding looked exactly_once
looked-once [] look = refl
looked-once (v ∷ []) look = refl
looked-once (v ∷ w ∷ ws) look = refl

-- what is looked at is the one value; where there is none, or more, that is told of it
pub kept-err : {X : Type 0} (vs : List (List ℕ)) (look : List ℕ → Checked X) (why : Why) → Err why ≡ exactly_once vs Ok → Err why ≡ exactly_once vs look
unfolding exactly_once
kept-err [] look why e = cc
kept-err (v ∷ []) look why e = cc
kept-err (v ∷ w ∷ ws) look why e = cc

pub kept-ok : {X : Type 0} (vs : List (List ℕ)) (look : List ℕ → Checked X) (v : List ℕ) → Ok v ≡ exactly_once vs Ok → look v ≡ exactly_once vs look
unfolding exactly_once
kept-ok [] look v e = cc
kept-ok (w ∷ []) look v e = cc
kept-ok (w ∷ x ∷ xs) look v e = cc

module _ (s : List ℕ) (vs : List (List ℕ)) (r : Said) (e : times_told s r ≡ times vs) where
  found : {X : Type 0} (look : List ℕ → Checked X) (known : Said) → r ≡ known → looked (times_told s known) look ≡ exactly_once vs look
  found look known d = ap (λ (k : Said). looked (times_told s k) look) (sym d) ∙ ap (λ (t : Times). looked t look) e ∙ looked-once vs look

  pub told-nothing : {X : Type 0} (look : List ℕ → Checked X) → r ≡ Nothing → Err Missing ≡ exactly_once vs look
  unfolding looked
  told-nothing look d = found look Nothing d

  pub told-often : {X : Type 0} (look : List ℕ → Checked X) → r ≡ More → Err MoreThanOnce ≡ exactly_once vs look
  unfolding looked
  told-often look d = found look More d

  pub told-once : {X : Type 0} (look : List ℕ → Checked X) (p : TextPlace) → r ≡ Once p → look (text_of s p) ≡ exactly_once vs look
  unfolding looked
  told-once look p d = found look (Once p) d

  -- is the name there at all?
  some : Times → Bool
  some never = false
  some (once v) = true
  some often = true

  some-present : (xs : List (List ℕ)) → some (times xs) ≡ present xs
  unfolding some
  some-present [] = refl
  some-present (v ∷ []) = refl
  some-present (v ∷ w ∷ ws) = refl

  there : (known : Said) → r ≡ known → some (times_told s known) ≡ present vs
  there known d = ap (λ (k : Said). some (times_told s k)) (sym d) ∙ ap some e ∙ some-present vs

  pub absent : r ≡ Nothing → false ≡ present vs
  unfolding some
  absent d = there Nothing d

  pub there-once : (p : TextPlace) → r ≡ Once p → true ≡ present vs
  unfolding some
  there-once p d = there (Once p) d

  pub there-often : r ≡ More → true ≡ present vs
  unfolding some
  there-often d = there More d
