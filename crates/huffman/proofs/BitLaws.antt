-- Bits of numbers: split, joined, and read back. By induction over their count; the arithmetic of powers of two is the library's.
use mathlib.Core.Path.{◌≡◌, refl, sym, ap, ap₂, subst, ◌∙◌}
use mathlib.Core.Bool.{Bool, true, false}
use Prim.Native.Nat.{ℕ, zero, suc, ◌+◌, ◌*◌, ◌/◌, ◌%◌, ◌^◌, ◌≤◌, ◌<◌}
use native.Mathlib.Omega.{arith}
use native.Mathlib.Nat.{zero-add, suc-add, add_comm, pow-suc, mod-one, zero-mul, one-mul, mod-eq_of_lt, div-eq_of_lt}
use native.Mathlib.Numerals.{add-one}
use mathlib.Core.List.{List, [], ◌∷◌, ◌++◌, append_assoc}
use lib.ListN.{length, take, drop, length-append, length-take, length-drop, take-append-drop}
use lib.Pow.{pow_mono, shr-shr, high, low, field, mod-mod-pow, mod-pow-add}
use lib.Seq.{length-take-le, take-append_seam, take-append-le, take_at, drop_at, take-add}
use lib.Dec.{eqb}
use Rattle.memory.specs.Choice.{pick}
use Rattle.memory.specs.Bytes.{Small}
use Rattle.memory.proofs.Overlay.{small-cons}
use Rattle.huffman.specs.Bits.{bits_of, value_of, bits, bytes_of, begins}

pub nope {ℓ} : {X : Type ℓ} → false ≡ true → X
nope e = let z : ◌≡◌ {A = ℕ} 0 1 = cc in absurd (omega arith)

pub length-bits_of : (n v : ℕ) → length (bits_of n v) ≡ n
unfolding bits_of
length-bits_of zero v = refl
length-bits_of (suc n) v = ap suc (length-bits_of n v)

-- the higher bits, then the lower
pub bits-split : (n m v : ℕ) → bits_of (n + m) v ≡ bits_of n (v / 2 ^ m) ++ bits_of m v
unfolding bits_of
bits-split zero m v = ap (λ (k : ℕ). bits_of k v) (zero-add m)
bits-split (suc n) m v =
    let e : v / 2 ^ (n + m) ≡ v / 2 ^ m / 2 ^ n = ap (λ (k : ℕ). v / 2 ^ k) (add_comm n m) ∙ sym (shr-shr v m n) in
    rw (suc-add n m, e, bits-split n m v)

-- bits above the n lowest do not count
pub bits-mod : (n m v : ℕ) → bits_of n (v % 2 ^ (m + n)) ≡ bits_of n v
unfolding bits_of
bits-mod zero m v = refl
bits-mod (suc n) m v =
    let k : m + suc n ≡ suc m + n = omega arith in
    let e : v % 2 ^ (m + suc n) / 2 ^ n % 2 ≡ v / 2 ^ n % 2 =
    ap (λ (j : ℕ). v % 2 ^ j / 2 ^ n % 2) k ∙ ap (λ (x : ℕ). x % 2) (field v (suc m) n)
    ∙ ap (λ (x : ℕ). v / 2 ^ n % x % 2) (ap (λ (j : ℕ). 2 ^ j) (sym (add-one m))) ∙ mod-mod-pow (v / 2 ^ n) m 1 in
    ap₂ (λ (x : ℕ) (r : List Bool). eqb x 1 ∷ r) e (ap (λ (j : ℕ). bits_of n (v % 2 ^ j)) k ∙ bits-mod n (suc m) v)

pub bits-same : (n v w : ℕ) → v % 2 ^ n ≡ w % 2 ^ n → bits_of n v ≡ bits_of n w
bits-same n v w e =
    let at : (x : ℕ) → bits_of n (x % 2 ^ n) ≡ bits_of n x = λ x. rw (zero-add n) at (bits-mod n 0 x) in
    sym (at v) ∙ ap (bits_of n) e ∙ at w

-- a number above the m bits of another
pub bits-join : (n m v w : ℕ) → w < 2 ^ m → bits_of (n + m) (v * 2 ^ m + w) ≡ bits_of n v ++ bits_of m w
bits-join n m v w h =
    bits-split n m (v * 2 ^ m + w)
    ∙ ap₂ (λ (x : ℕ) (r : List Bool). bits_of n x ++ r) (high v m h)
    (bits-same m (v * 2 ^ m + w) w (low v m h ∙ sym (low 0 m h ∙ refl) ∙ ap (λ (x : ℕ). x % 2 ^ m) (omega arith)))

-- ---- the number that bits say

bit_is : (b p : ℕ) → b < 2 → pick (eqb b 1) p 0 ≡ b * p
bit_is zero p h = sym (zero-mul p)
bit_is (suc zero) p h = sym (one-mul p)
bit_is (suc (suc b)) p h = absurd (omega arith)

pub value-bits : (n v : ℕ) → value_of (bits_of n v) ≡ v % 2 ^ n
unfolding bits_of value_of
value-bits zero v = sym (mod-one v)
value-bits (suc n) v =
    let k : suc n ≡ 1 + n = omega arith in
    rw (length-bits_of n v, value-bits n v, bit_is (v / 2 ^ n % 2) (2 ^ n) (omega arith), k) (sym (mod-pow-add v 1 n))

pub value-lt : (r : List Bool) → value_of r < 2 ^ length r
unfolding value_of
value-lt [] = omega arith
value-lt (true ∷ r) = omega (arith, value-lt r, pow-suc 2 (length r))
value-lt (false ∷ r) = omega (arith, value-lt r, pow-suc 2 (length r))

pub bits-value : (r : List Bool) → bits_of (length r) (value_of r) ≡ r
unfolding bits_of value_of
bits-value [] = refl
bits-value (true ∷ r) =
    let h = value-lt r in
    let e : 2 ^ length r + value_of r ≡ 1 * 2 ^ length r + value_of r = omega arith in
    let d : (2 ^ length r + value_of r) / 2 ^ length r ≡ 1 = ap (λ (x : ℕ). x / 2 ^ length r) e ∙ high 1 (length r) h in
    let t : bits_of (length r) (2 ^ length r + value_of r) ≡ r =
    bits-same (length r) (2 ^ length r + value_of r) (value_of r) (ap (λ (x : ℕ). x % 2 ^ length r) e ∙ low 1 (length r) h ∙ sym (mod-eq_of_lt h))
    ∙ bits-value r in
    ap₂ (λ (x : ℕ) (l : List Bool). eqb (x % 2) 1 ∷ l) d t
bits-value (false ∷ r) =
    let h = value-lt r in
    let e : 0 + value_of r ≡ value_of r = omega arith in
    let d : value_of r / 2 ^ length r ≡ 0 = div-eq_of_lt h in
    rw e (ap₂ (λ (x : ℕ) (l : List Bool). eqb (x % 2) 1 ∷ l) d (bits-value r))

-- ---- bytes

pub length-bits : (b : List ℕ) → length (bits b) ≡ 8 * length b
unfolding bits
length-bits [] = refl
length-bits (x ∷ b) = omega (arith, length-append (bits_of 8 x) (bits b), length-bits_of 8 x, length-bits b)

pub bits-append : (a b : List ℕ) → bits (a ++ b) ≡ bits a ++ bits b
unfolding bits
bits-append [] b = refl
bits-append (x ∷ a) b = ap (λ (r : List Bool). bits_of 8 x ++ r) (bits-append a b) ∙ sym (append_assoc (bits_of 8 x) (bits a) (bits b))

pub length-bytes_of : (n : ℕ) (r : List Bool) → length (bytes_of n r) ≡ n
unfolding bytes_of
length-bytes_of zero r = refl
length-bytes_of (suc n) r = ap suc (length-bytes_of n (drop 8 r))

-- a byte that stands first
pub bytes_of-cons : (n x : ℕ) (r : List Bool) → bytes_of (suc n) (bits_of 8 x ++ r) ≡ x % 256 ∷ bytes_of n r
unfolding bytes_of
bytes_of-cons n x r =
    let e = length-bits_of 8 x in
    ap₂ (λ (l m : List Bool). value_of l ∷ bytes_of n m) (take_at (bits_of 8 x) r 8 e) (drop_at (bits_of 8 x) r 8 e)
    ∙ ap (λ (y : ℕ). y ∷ bytes_of n r) (value-bits 8 x)

-- bytes whose bits stand first
pub bytes_bits : (b : List ℕ) (r : List Bool) → Small b → bytes_of (length b) (bits b ++ r) ≡ b
unfolding bits
bytes_bits [] r s = unfold bytes_of in refl
bytes_bits (x ∷ b) r s =
    let h : x % 256 ≡ x = mod-eq_of_lt (s 0) in
    ap (bytes_of (suc (length b))) (append_assoc (bits_of 8 x) (bits b) r) ∙ bytes_of-cons (length b) x (bits b ++ r)
    ∙ ap₂ (λ (y : ℕ) (l : List ℕ). y ∷ l) h (bytes_bits b r (λ k. s (suc k)))

-- the bits of bytes that bits say
pub bits-bytes : (n : ℕ) (r : List Bool) → 8 * n ≤ length r → bits (bytes_of n r) ≡ take (8 * n) r
unfolding bits bytes_of
bits-bytes zero r h = refl
bits-bytes (suc n) r h =
    let e : length (take 8 r) ≡ 8 = length-take-le 8 r (omega arith) in
    let k : 8 * suc n ≡ 8 + 8 * n = omega arith in
    let d : bits_of 8 (value_of (take 8 r)) ≡ take 8 r = subst (λ (m : ℕ). bits_of m (value_of (take 8 r)) ≡ take 8 r) e (bits-value (take 8 r)) in
    ap₂ (λ (a b : List Bool). a ++ b) d (bits-bytes n (drop 8 r) (omega (arith, length-drop 8 r)))
    ∙ sym (take-add 8 (8 * n) r) ∙ ap (λ (m : ℕ). take m r) (sym k)

-- what bits say are bytes
pub small-bytes_of : (n : ℕ) (r : List Bool) → Small (bytes_of n r)
unfolding bytes_of
small-bytes_of zero r k = omega arith
small-bytes_of (suc n) r k =
    let e : 2 ^ length (take 8 r) ≤ 2 ^ 8 = pow_mono {i = length (take 8 r)} {j = 8} (omega (arith, length-take 8 r)) in
    small-cons (value_of (take 8 r)) (bytes_of n (drop 8 r)) (omega (arith, value-lt (take 8 r))) (small-bytes_of n (drop 8 r)) k

-- ---- beginnings

pub begins-front : (p t : List Bool) → begins p (p ++ t) ≡ true
unfolding begins
begins-front [] t = refl
begins-front (true ∷ p) t = begins-front p t
begins-front (false ∷ p) t = begins-front p t

pub begins-rest : (p r : List Bool) → begins p r ≡ true → r ≡ p ++ drop (length p) r
unfolding begins
begins-rest [] r e = refl
begins-rest (b ∷ p) [] e = nope e
begins-rest (true ∷ p) (true ∷ r) e = ap (λ (l : List Bool). true ∷ l) (begins-rest p r e)
begins-rest (true ∷ p) (false ∷ r) e = nope e
begins-rest (false ∷ p) (true ∷ r) e = nope e
begins-rest (false ∷ p) (false ∷ r) e = ap (λ (l : List Bool). false ∷ l) (begins-rest p r e)

-- of two lists that begin one, the shorter begins the longer
pub begins-shorter : (p a q b : List Bool) → p ++ a ≡ q ++ b → length p ≤ length q → q ≡ p ++ drop (length p) q
begins-shorter p a q b e h =
    let t : take (length p) q ≡ p =
    sym (take-append-le (length p) q b h) ∙ ap (take (length p)) (sym e) ∙ take-append_seam p a in
    sym (take-append-drop (length p) q) ∙ ap (λ (l : List Bool). l ++ drop (length p) q) t
