-- What happened in one list and then in another: what follows for an index, and the sums of sizes. By induction over the first list.
use mathlib.Core.Path.{◌≡◌, refl}
use Prim.Native.Nat.{ℕ, ◌+◌}
use native.Mathlib.Omega.{arith}
use mathlib.Core.List.{List, [], ◌∷◌, ◌++◌}
use Rattle.model.specs.Happened.{Happened, after, Contents, contents_by, sum_of}

pub after-append : {A : Type 0} (by : A → Happened → A) (a : A) (xs ys : List Happened) → after by a (xs ++ ys) ≡ after by (after by a xs) ys
unfolding after
after-append by a [] ys = refl
after-append by a (x ∷ xs) ys = after-append by (by a x) xs ys

pub sum-append : (by : Contents → Happened → ℕ) (t : Contents) (xs ys : List Happened)
    → sum_of by t (xs ++ ys) ≡ sum_of by t xs + sum_of by (after contents_by t xs) ys
unfolding after sum_of
sum-append by t [] ys = omega arith
sum-append by t (x ∷ xs) ys = omega (arith, sum-append by (contents_by t x) xs ys)
