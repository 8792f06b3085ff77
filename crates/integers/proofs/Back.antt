-- Reading gives back the number that was written, for every prefix width.
-- By induction over the groups: those of r, of weight w, add r * w to the value.
use mathlib.Core.Path.{◌≡◌, refl, sym, ap, ap₂, ◌∙◌}
use Prim.Native.Nat.{ℕ, zero, suc, ◌+◌, ◌-◌, ◌*◌, ◌/◌, ◌%◌, ◌^◌, ◌≤◌, ◌<◌}
use native.Mathlib.Omega.{arith}
use native.Mathlib.Numerals.{sub-one}
use native.Mathlib.Nat.{div-add-mod', mul-add-mod_self_right, mod-eq_of_lt}
use mathlib.Core.List.{List, [], ◌∷◌}
use lib.ListN.{length}
use lib.Pow.{pow_pos}
use Rattle.memory.specs.Bytes.{Has}
use Rattle.integers.specs.Integer.{value, read_int, groups, largest, int_wire, group_wire}
use Rattle.memory.proofs.Order.{split}
use Rattle.integers.proofs.Groups.{finished-value, groups-last, groups-more, read_int-small, read_int-groups}
use Rattle.integers.proofs.Writing.{last-group, next-group, int-in-prefix, int-past-prefix}

pub value-eq : {v v' n n' : ℕ} → v ≡ v' → n ≡ n' → value v n ≡ value v' n'
value-eq e d = ap₂ value e d

-- the last group, which is not zero or is the only one
back_last : (s : List ℕ) (n at r v w : ℕ) → r < 128 → v + r * w ≤ largest → (1 < w → 0 < r) → Has s at (group_wire n r)
    → groups (suc n) s at v w ≡ value (v + r * w) (at + length (group_wire n r))
back_last s n at r v w h k z p =
    let e = last-group n r h in
    let q : Has s at (r ∷ []) = rw e at p in
    let m : r % 128 ≡ r = omega arith in
    rw m at (groups-last s at v w (suc n) (omega arith) q.0 r (sym q.1) h)
    ∙ finished-value r w (v + r * w) (at + 1) k z
    ∙ value-eq refl (omega (arith, ap length e))

-- a group before others, from what the others give
back_more : (s : List ℕ) (n at r v w : ℕ) → 128 ≤ r → v + r * w ≤ largest → Has s at (group_wire (suc n) r)
    → ((at v w : ℕ) → v + r / 128 * w ≤ largest → (1 < w → 0 < r / 128) → Has s at (group_wire n (r / 128))
    → groups (suc n) s at v w ≡ value (v + r / 128 * w) (at + length (group_wire n (r / 128))))
    → groups (suc (suc n)) s at v w ≡ value (v + r * w) (at + length (group_wire (suc n) r))
back_more s n at r v w h k p ih =
    let e : group_wire (suc n) r ≡ (r % 128 + 128) ∷ group_wire n (r / 128) = rw sub-one at (next-group (suc n) r (omega arith) h) in
    let q : Has s at ((r % 128 + 128) ∷ group_wire n (r / 128)) = rw e at p in
    let m : (r % 128 + 128) % 128 ≡ r % 128 = omega arith in
    let sum : v + r % 128 * w + r / 128 * (w * 128) ≡ v + r * w = omega (arith, ap (λ (x : ℕ). x * w) (div-add-mod' r 128)) in
    rw (m, sub-one) at (groups-more s at v w (suc (suc n)) (omega arith) q.0 (r % 128 + 128) (sym q.1) (omega arith))
    ∙ ih (at + 1) (v + r % 128 * w) (w * 128) (omega arith) (λ l. omega arith) q.2
    ∙ value-eq sum (omega (arith, ap length e))

pub groups-back : (s : List ℕ) (n at r v w : ℕ) → r < 128 ^ suc n → v + r * w ≤ largest → (1 < w → 0 < r) → Has s at (group_wire n r)
    → groups (suc n) s at v w ≡ value (v + r * w) (at + length (group_wire n r))
groups-back s zero at r v w h k z p = back_last s zero at r v w h k z p
groups-back s (suc n) at r v w h k z p =
    split r 128 (λ l. back_last s (suc n) at r v w l k z p)
    (λ l. back_more s n at r v w l k p (λ at' v' w' k' z' p'. groups-back s n at' (r / 128) v' w' (omega arith) k' z' p'))

-- For every prefix width k, and every value up to the largest: where the bytes of v stand, v is read, with the place after them.
pub int-back : (s : List ℕ) (k at t v : ℕ) → v ≤ largest → Has s at (int_wire k (t * 2 ^ k) v)
    → read_int k s at ≡ value v (at + length (int_wire k (t * 2 ^ k) v))
int-back s k at t v h p = split v (2 ^ k - 1) small large
  where
    low : (x : ℕ) → x < 2 ^ k → (t * 2 ^ k + x) % 2 ^ k ≡ x
    low x l = mul-add-mod_self_right t (2 ^ k) x ∙ mod-eq_of_lt l

    small : v < 2 ^ k - 1 → read_int k s at ≡ value v (at + length (int_wire k (t * 2 ^ k) v))
    small l =
        let e = int-in-prefix k (t * 2 ^ k) v (2 ^ k) refl l in
        let q : Has s at ((t * 2 ^ k + v) ∷ []) = rw e at p in
        let m = low v (omega arith) in
        read_int-small k s at q.0 (t * 2 ^ k + v) (2 ^ k) (sym q.1) refl (rw m l)
        ∙ value-eq m (omega (arith, ap length e))

    large : 2 ^ k - 1 ≤ v → read_int k s at ≡ value v (at + length (int_wire k (t * 2 ^ k) v))
    large l =
        let x : ℕ = 2 ^ k - 1 in
        let e = int-past-prefix k (t * 2 ^ k) v (2 ^ k) refl l in
        let q : Has s at ((t * 2 ^ k + x) ∷ group_wire 3 (v - x)) = rw e at p in
        let m = low x (omega (arith, pow_pos k)) in
        rw m at (read_int-groups k s at q.0 (t * 2 ^ k + x) (2 ^ k) (sym q.1) refl (rw m (omega arith)))
        ∙ groups-back s 3 (at + 1) (v - x) x 1 (omega arith) (omega arith) (λ d. omega arith) q.2
        ∙ value-eq (omega arith) (omega (arith, ap length e))
