-- The equations of `groups_size` and `int_size`, one for each way through them.
-- By the tests along that way; only these laws unfold the two definitions.
use mathlib.Core.Path.{◌≡◌}
use Prim.Native.Nat.{ℕ, ◌+◌, ◌-◌, ◌^◌, ◌≤◌, ◌<◌}
use native.Mathlib.Omega.{arith}
use borrow.Author.Tests.{lt-ltb, le-ltb}
use Rattle.sizes.specs.Sizes.{groups_size, int_size}

module _ (v : ℕ) where
  pub groups-one : v < 128 → groups_size v ≡ 1
  unfolding groups_size
  groups-one h = simp (lt-ltb v 128 h)

  pub groups-two : 128 ≤ v → v < 16384 → groups_size v ≡ 2
  unfolding groups_size
  groups-two h k = simp (le-ltb v 128 h, lt-ltb v 16384 k)

  pub groups-three : 16384 ≤ v → v < 2097152 → groups_size v ≡ 3
  unfolding groups_size
  groups-three h k = simp (le-ltb v 128 (omega arith), le-ltb v 16384 h, lt-ltb v 2097152 k)

  pub groups-four : 2097152 ≤ v → groups_size v ≡ 4
  unfolding groups_size
  groups-four h = simp (le-ltb v 128 (omega arith), le-ltb v 16384 (omega arith), le-ltb v 2097152 h)

module _ (k v ones : ℕ) (e : ones ≡ 2 ^ k - 1) where
  pub int-prefix : v < ones → int_size k v ≡ 1
  unfolding int_size
  int-prefix h = simp (← e, lt-ltb v ones h)

  pub int-groups : ones ≤ v → int_size k v ≡ 1 + groups_size (v - ones)
  unfolding int_size
  int-groups h = simp (← e, le-ltb v ones h)
