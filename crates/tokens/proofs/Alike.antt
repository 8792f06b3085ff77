-- The comparison of slices is that of `memory`.
use mathlib.Core.Bool.{Bool, true, false, ◌&&◌}
use Rattle.std.proofs.Common.{◌≡◌, ℕ, List, [], ◌∷◌, nat_eq, refl}
use lib.Pointwise.{pointwise}
use Rattle.memory.specs.Choice.{pick}
use Rattle.memory.specs.Compare.{same as alike}

both : (b c : Bool) → (b && c) ≡ pick b c false
both true c = refl
both false c = refl

pub pointwise-alike : (a b : List ℕ) → pointwise nat_eq a b ≡ alike a b
unfolding alike
pointwise-alike [] [] = refl
pointwise-alike [] (y ∷ ys) = refl
pointwise-alike (x ∷ xs) [] = refl
pointwise-alike (x ∷ xs) (y ∷ ys) = rw (pointwise-alike xs ys) (both (nat_eq x y) (alike xs ys))
