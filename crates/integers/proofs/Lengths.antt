-- The bytes of an integer: from one to five, all of them bytes, and the first keeps the bits above its prefix.
-- By cases along the equations of `int_wire` and `group_wire`.
use mathlib.Core.Path.{◌≡◌, refl, ap}
use Prim.Native.Nat.{ℕ, zero, suc, ◌+◌, ◌-◌, ◌*◌, ◌/◌, ◌%◌, ◌^◌, ◌≤◌, ◌<◌}
use native.Mathlib.Nat.{div-eq_of_lt-le}
use native.Mathlib.Numerals.{sub-one}
use native.Mathlib.Omega.{arith}
use mathlib.Core.List.{List, [], ◌∷◌}
use lib.ListN.{length, get_or}
use lib.Pow.{pow_pos}
use Rattle.memory.specs.Bytes.{Has, Small}
use Rattle.memory.proofs.Order.{split}
use Rattle.integers.specs.Integer.{largest, int_wire, group_wire}
use Rattle.integers.proofs.Writing.{last-group, next-group, int-in-prefix, int-past-prefix}

-- at most as many groups as there may be, and as the rest takes
groups-length : (n r : ℕ) → length (group_wire n r) ≤ suc n
unfolding group_wire
groups-length zero r = omega arith
groups-length (suc n) r =
    split r 128
    (λ h. omega (arith, ap length (last-group (suc n) r h)))
    (λ h. omega (arith, ap length (rw sub-one at (next-group (suc n) r (omega arith) h)), groups-length n (r / 128)))

pub group-length : (n m r : ℕ) → r < 128 ^ suc m → length (group_wire n r) ≤ suc m
group-length n zero r h = omega (arith, ap length (last-group n r h))
group-length zero (suc m) r h = omega (arith, groups-length 0 r)
group-length (suc n) (suc m) r h =
    split r 128
    (λ l. omega (arith, ap length (last-group (suc n) r l)))
    (λ l. omega (arith, ap length (rw sub-one at (next-group (suc n) r (omega arith) l)), group-length n m (r / 128) (omega arith)))

module _ (k top v : ℕ) where
  -- one byte for a value below the full prefix
  pub int-one : v < 2 ^ k - 1 → length (int_wire k top v) ≡ 1
  int-one h = ap length (int-in-prefix k top v (2 ^ k) refl h)

  -- else at most m + 1 groups behind the prefix
  pub int-within : (m : ℕ) → v < 2 ^ k - 1 + 128 ^ suc m → length (int_wire k top v) ≤ m + 2
  int-within m h =
      split v (2 ^ k - 1)
      (λ l. omega (arith, int-one l))
      (λ l. omega (arith, ap length (int-past-prefix k top v (2 ^ k) refl l), group-length 3 m (v - (2 ^ k - 1)) (omega arith)))

  pub int-length : (1 ≤ length (int_wire k top v)) × (length (int_wire k top v) ≤ 5)
  int-length =
      split v (2 ^ k - 1)
      (λ h. let e = int-one h in (omega arith, omega arith))
      (λ h.
      let e = ap length (int-past-prefix k top v (2 ^ k) refl h) in
      let g = groups-length 3 (v - (2 ^ k - 1)) in
      (omega arith, omega arith))

small-nil : Small []
small-nil zero = omega arith
small-nil (suc i) = omega arith

small-cons : (x : ℕ) (xs : List ℕ) → x < 256 → Small xs → Small (x ∷ xs)
small-cons x xs h k zero = h
small-cons x xs h k (suc i) = k i

groups-small : (n r : ℕ) → r < 128 ^ suc n → Small (group_wire n r)
groups-small zero r h = rw (last-group 0 r h) (small-cons r [] (omega arith) small-nil)
groups-small (suc n) r h =
    split r 128
    (λ l. rw (last-group (suc n) r l) (small-cons r [] (omega arith) small-nil))
    (λ l. rw (next-group (suc n) r (omega arith) l, sub-one)
    (small-cons (r % 128 + 128) (group_wire n (r / 128)) (omega arith) (groups-small n (r / 128) (omega arith))))

pub int-bytes-small : (k top v : ℕ) → top + 2 ^ k ≤ 256 → v ≤ largest → Small (int_wire k top v)
int-bytes-small k top v h l =
    let p = pow_pos k in
    split v (2 ^ k - 1)
    (λ d. rw (int-in-prefix k top v (2 ^ k) refl d) (small-cons (top + v) [] (omega arith) small-nil))
    (λ d. rw (int-past-prefix k top v (2 ^ k) refl d)
    (small-cons (top + (2 ^ k - 1)) (group_wire 3 (v - (2 ^ k - 1))) (omega arith) (groups-small 3 (v - (2 ^ k - 1)) (omega arith))))

-- the first byte has the bits `top` above a prefix of k bits
pub first_byte : (s : List ℕ) (k at top v : ℕ) → Has s at (int_wire k top v)
    → (at < length s) × (top ≤ get_or s at 0) × (get_or s at 0 < top + 2 ^ k)
first_byte s k at top v p =
    let z = pow_pos k in
    split v (2 ^ k - 1)
    (λ d. let q : Has s at ((top + v) ∷ []) = rw (int-in-prefix k top v (2 ^ k) refl d) at p in
    (q.0, omega (arith, q.1), omega (arith, q.1)))
    (λ d. let q : Has s at ((top + (2 ^ k - 1)) ∷ group_wire 3 (v - (2 ^ k - 1))) = rw (int-past-prefix k top v (2 ^ k) refl d) at p in
    (q.0, omega (arith, q.1), omega (arith, q.1)))

pub first-div : (s : List ℕ) (k at t v : ℕ) → Has s at (int_wire k (t * 2 ^ k) v) → get_or s at 0 / 2 ^ k ≡ t
first-div s k at t v p =
    let b = first_byte s k at (t * 2 ^ k) v p in
    div-eq_of_lt-le (2 ^ k) b.1 (omega (arith, b.2))
