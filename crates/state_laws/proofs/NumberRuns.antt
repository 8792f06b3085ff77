-- Numbers that stand one after the other, at a place and so many bytes on: each is read, what follows it stands after its bytes, and both make the run.
use Prim.Native.Nat.{ℕ, ◌+◌, ◌^◌, ◌≤◌, ◌<◌}
use mathlib.Core.Path.{◌≡◌, subst}
use native.Mathlib.Omega.{arith}
use mathlib.Core.List.{List, ◌++◌}
use lib.ListN.{length}
use Rattle.memory.specs.Bytes.{Has, Small}
use Rattle.memory.specs.Numbers.{number, number_bytes}
use Rattle.memory.proofs.Numbers.{length-number_bytes, number_back, bytes_back}
use Rattle.memory.proofs.Places.{has_left, has_right, has_join}

-- the bytes of a number that is read
pub number-bytes : (m : List ℕ) (at n v : ℕ) → Small m → at + n ≤ length m → number n m at ≡ v → Has m at (number_bytes n v)
number-bytes m at n v small b e = subst (λ (x : ℕ). Has m at (number_bytes n x)) e (bytes_back n m at small b)

module _ (m : List ℕ) (at k n v : ℕ) (r : List ℕ) where
  pub number_read : v < 256 ^ n → Has m (at + k) (number_bytes n v ++ r) → number n m (at + k) ≡ v
  number_read b h = number_back n m (at + k) v b (has_left m (at + k) (number_bytes n v) r h)

  pub number-next : Has m (at + k) (number_bytes n v ++ r) → Has m (at + (k + n)) r
  number-next h =
      let e : at + k + length (number_bytes n v) ≡ at + (k + n) = omega (arith, length-number_bytes n v) in
      rw e at (has_right m (at + k) (number_bytes n v) r h)

  pub number-join : Has m (at + k) (number_bytes n v) → Has m (at + (k + n)) r → Has m (at + k) (number_bytes n v ++ r)
  number-join p q =
      let e : at + (k + n) ≡ at + k + length (number_bytes n v) = omega (arith, length-number_bytes n v) in
      has_join m (at + k) (number_bytes n v) r p (rw e at q)
