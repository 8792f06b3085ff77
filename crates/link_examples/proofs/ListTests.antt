-- Tests over lists that compute, and what they say.
-- By induction over the list.
use mathlib.Core.Path.{◌≡◌, refl, ap, sym, ◌∙◌}
use mathlib.Core.Logic.{⊎_elim}
use Prim.Native.Nat.{ℕ, zero, suc}
use native.Mathlib.Omega.{arith}
use mathlib.Core.Bool.{Bool, true, false, ◌&&◌, ◌||◌}
use mathlib.Core.Option.{Option, none, some}
use mathlib.Core.List.Memᴰ
use mathlib.Core.List.{List, [], ◌∷◌, Memᴰ}
use Rattle.memory.proofs.Order.{not-both}
use Rattle.model.specs.Events.{at}
use Rattle.model_laws.proofs.Marks.{and_both, or-either}

-- ---- tests over lists
module _ {X : Type 0} where
  -- one of the list passes
  abbrev pub any : (X → Bool) → List X → Bool
  any test [] = false
  any test (x ∷ l) = test x || any test l

  -- every one passes, with its place
  abbrev pub all_at : (ℕ → X → Bool) → List X → Bool
  all_at test [] = true
  all_at test (x ∷ l) = test 0 x && all_at (λ n. test (suc n)) l

  -- there is one, and it passes
  abbrev pub passes : (X → Bool) → Option X → Bool
  passes test none = false
  passes test (some x) = test x

-- ---- what the tests over lists say
or_left : (a b : Bool) → a ≡ true → a || b ≡ true
or_left a b e = ap (λ (t : Bool). t || b) e

or_right : (a b : Bool) → b ≡ true → a || b ≡ true
or_right true b e = refl
or_right false b e = e

module _ {X : Type 0} where
  pub passes-some : (test : X → Bool) (o : Option X) → passes test o ≡ true → (x : X) × (o ≡ some x) × (test x ≡ true)
  passes-some test none e = not-both false e refl
  passes-some test (some x) e = (x, refl, e)

  pub any-member : (test : X → Bool) (l : List X) → any test l ≡ true → (x : X) × Memᴰ x l × (test x ≡ true)
  any-member test [] e = not-both false e refl
  any-member test (x ∷ l) e = ⊎_elim (λ t. (x, Memᴰ.head refl, t))
      (λ t. let r = any-member test l t in (r.0, Memᴰ.tail r.1, r.2)) (or-either (test x) (any test l) e)

  pub member-any : (test : X → Bool) (l : List X) (x : X) → Memᴰ x l → test x ≡ true → any test l ≡ true
  member-any test [] x m t = absurd (Memᴰ.not-nil m)
  member-any test (y ∷ l) x m t =
      ⊎_elim (λ p. or_left (test y) (any test l) (sym (ap test p) ∙ t))
      (λ k. or_right (test y) (any test l) (member-any test l x k t)) (Memᴰ.cases_cons m)

  pub all_at-place : (test : ℕ → X → Bool) (l : List X) → all_at test l ≡ true → (n : ℕ) (x : X) → at n l ≡ some x → test n x ≡ true
  unfolding at
  all_at-place test [] e n x p = let z : ◌≡◌ {A = ℕ} 0 1 = cc in absurd (omega arith)
  all_at-place test (y ∷ l) e zero x p =
      let q : y ≡ x = cc in
      ap (test 0) (sym q) ∙ (and_both (test 0 y) (all_at (λ n. test (suc n)) l) e).0
  all_at-place test (y ∷ l) e (suc n) x p =
      all_at-place (λ k. test (suc k)) l (and_both (test 0 y) (all_at (λ k. test (suc k)) l) e).1 n x p
