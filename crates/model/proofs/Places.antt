-- Fewer than 128 entries are held where a further one keeps the limit: each counts at least 32. Said once, of any list that has a sum.
use Prim.Native.Nat.{ℕ, ◌+◌, ◌*◌, ◌≤◌, ◌<◌}
use native.Mathlib.Omega.{arith}
use mathlib.Core.List.{List, [], ◌∷◌}
use lib.ListN.{length}
use Rattle.statics.specs.Table.{Entry}
use Rattle.model.specs.Table.{size, total}

module _ {X : Type 0} (index : X → ℕ) (entry : X → Entry) where
  pub heads : (l : List X) → 32 * length l ≤ total index (λ x. size (entry x)) l
  unfolding total size
  heads [] = omega arith
  heads (x ∷ l) = let r = heads l in omega arith

  pub place-left : (l : List X) (e : Entry) (limit : ℕ) → limit ≤ 4096 → total index (λ x. size (entry x)) l + size e ≤ limit → length l < 128
  unfolding size
  place-left l e limit low fits = let h = heads l in omega arith
