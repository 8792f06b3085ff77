-- A change of the entry with an index, where indexes ascend: the entry at its place alone is changed. By induction over what is before it.
use Prim.Native.Nat.{ℕ, suc, ◌≤◌, ◌<◌}
use mathlib.Core.Path.{◌≡◌, refl, ap, ap₂}
use native.Mathlib.Omega.{arith}
use mathlib.Core.List.{List, [], ◌∷◌, ◌++◌, map}
use Rattle.model.specs.Table.{Ascending}

module _ {X : Type 0} (index : X → ℕ) where
  low-at : (x : X) (ys : List X) (lo : ℕ) (xs : List X) → Ascending index lo (xs ++ x ∷ ys) → lo ≤ index x
  low-at x ys lo [] a = a.0
  low-at x ys lo (y ∷ xs) a =
      let b = low-at x ys (suc (index y)) xs a.1 in
      let c = a.0 in
      omega arith

  -- a change of what has index i alone
  module _ (g : X → X) (i : ℕ) (other : (x : X) → (index x ≡ i → ⊥) → g x ≡ x) where
    above-stays : (lo : ℕ) (l : List X) → i < lo → Ascending index lo l → map g l ≡ l
    above-stays lo [] h a = refl
    above-stays lo (x ∷ l) h a =
        let b = a.0 in
        ap₂ (λ (y : X) (r : List X). y ∷ r) (other x (λ e. omega arith)) (above-stays (suc (index x)) l (omega arith) a.1)

    pub change-at : (lo : ℕ) (xs : List X) (x : X) (ys : List X) → index x ≡ i → Ascending index lo (xs ++ x ∷ ys)
        → map g (xs ++ x ∷ ys) ≡ xs ++ g x ∷ ys
    change-at lo [] x ys e a = ap (λ (l : List X). g x ∷ l) (above-stays (suc (index x)) ys (omega arith) a.1)
    change-at lo (y ∷ xs) x ys e a =
        let b = low-at x ys (suc (index y)) xs a.1 in
        ap₂ (λ (z : X) (r : List X). z ∷ r) (other y (λ d. omega arith)) (change-at (suc (index y)) xs x ys e a.1)
