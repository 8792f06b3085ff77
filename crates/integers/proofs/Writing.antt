-- The equations of `int_wire` and `group_wire`, one for each way through them, and how much is left after a group.
-- By the tests along that way; only these laws unfold the two definitions.
use mathlib.Core.Path.{◌≡◌, refl}
use Prim.Native.Nat.{ℕ, zero, suc, ◌+◌, ◌-◌, ◌/◌, ◌%◌, ◌^◌, ◌≤◌, ◌<◌}
use native.Mathlib.Nat.{not-suc-le-zero, zero-lt-suc}
use native.Mathlib.Numerals.{sub-one}
use native.Mathlib.Omega.{arith}
use mathlib.Core.List.{List, [], ◌∷◌}
use lib.ListN.{length}
use lib.Dec.{ltb}
use mathlib.Core.Bool.{Bool, true, false}
use Rattle.memory.specs.Choice.{pick}
use borrow.Author.Tests.{lt-ltb, le-ltb}
use Rattle.integers.specs.Integer.{group_wire, int_wire}

pub last-group : (n r : ℕ) → r < 128 → group_wire n r ≡ r ∷ []
unfolding group_wire
last-group zero r h = refl
last-group (suc n) r h = simp (lt-ltb r 128 h)

pub next-group : (n r : ℕ) → 0 < n → 128 ≤ r → group_wire n r ≡ (r % 128 + 128) ∷ group_wire (n - 1) (r / 128)
unfolding group_wire
next-group zero r p h = absurd (not-suc-le-zero p)
next-group (suc n) r p h = simp (le-ltb r 128 h, sub-one)

-- what is left of r after a group fits in one group less
pub groups-remain : (n r : ℕ) → 128 ≤ r → r < 128 ^ suc n → 0 < n
groups-remain zero r h k = omega arith
groups-remain (suc n) r h k = omega arith

pub rest-fits : (n r : ℕ) → 128 ≤ r → r < 128 ^ suc n → r / 128 < 128 ^ suc (n - 1)
rest-fits zero r h k = omega arith
rest-fits (suc n) r h k = rw sub-one (omega arith)

pick_pos : (b : Bool) (x y : ℕ) (xs ys : List ℕ) → 0 < length (pick b (x ∷ xs) (y ∷ ys))
pick_pos true x y xs ys = zero-lt-suc (length xs)
pick_pos false x y xs ys = zero-lt-suc (length ys)

pub groups-pos : (n r : ℕ) → 0 < length (group_wire n r)
unfolding group_wire
groups-pos zero r = zero-lt-suc 0
groups-pos (suc n) r = pick_pos (ltb r 128) _ _ _ _

module _ (k top v f : ℕ) (g : f ≡ 2 ^ k) where
  pub int-in-prefix : v < f - 1 → int_wire k top v ≡ (top + v) ∷ []
  unfolding int_wire
  int-in-prefix h = simp (← g, lt-ltb v (f - 1) h)

  pub int-past-prefix : f - 1 ≤ v → int_wire k top v ≡ (top + (f - 1)) ∷ group_wire 3 (v - (f - 1))
  unfolding int_wire
  int-past-prefix h = simp (← g, le-ltb v (f - 1) h)
