-- Comparing bytes.
use Rattle.std.specs.Prelude.{ℕ, zero, suc, ◌+◌, Bool, true, false, List, [], ◌∷◌, get_or, eqb}
use Rattle.memory.specs.Choice.{pick}

-- are the n elements of a from the place i on those of b from the place j on?
unfoldable pub same_at : ℕ → List ℕ → ℕ → List ℕ → ℕ → Bool
same_at zero a i b j = true
same_at (suc n) a i b j = pick (eqb (get_or a i 0) (get_or b j 0)) (same_at n a (i + 1) b (j + 1)) false

-- are the two lists the same, element by element?
unfoldable pub same : List ℕ → List ℕ → Bool
same [] [] = true
same [] (y ∷ ys) = false
same (x ∷ xs) [] = false
same (x ∷ xs) (y ∷ ys) = pick (eqb x y) (same xs ys) false

-- are the n elements of l from the place at on all 0?
unfoldable pub zeros_at : ℕ → List ℕ → ℕ → Bool
zeros_at zero l at = true
zeros_at (suc n) l at = pick (eqb (get_or l at 0) 0) (zeros_at n l (at + 1)) false
