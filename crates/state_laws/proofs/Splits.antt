-- A list split at a place: what is before it, the element there, and what is after it. By induction over the place.
use Prim.Native.Nat.{ℕ, zero, suc, ◌<◌}
use mathlib.Core.Path.{◌≡◌, refl, ap}
use native.Mathlib.Omega.{arith}
use mathlib.Core.List.{List, [], ◌∷◌, ◌++◌}
use lib.ListN.{length}

pub record Parted {X : Type 0} (pos : ℕ) (l : List X) : Type 0 where
  pub xs : List X
  pub x : X
  pub ys : List X
  pub is : l ≡ xs ++ x ∷ ys
  pub at : length xs ≡ pos

pub parted : {X : Type 0} (pos : ℕ) (l : List X) → pos < length l → Parted pos l
parted pos [] h = absurd (omega arith)
parted zero (x ∷ l) h = record { xs = []; x = x; ys = l; is = refl; at = refl }
parted {X} (suc pos) (y ∷ l) h =
    let p = parted pos l (omega arith) in
    record { xs = y ∷ p.xs; x = p.x; ys = p.ys; is = ap (λ (r : List X). y ∷ r) p.is; at = ap suc p.at }
