-- Numbers of n bytes: split into lower and higher bytes, read back, and kept beside stores. By induction over the byte count.
use mathlib.Core.Path.{◌≡◌, refl, sym, ap, ap₂, ◌∙◌}
use Prim.Native.Nat.{ℕ, zero, suc, ◌+◌, ◌*◌, ◌/◌, ◌%◌, ◌^◌, ◌≤◌, ◌<◌}
use native.Mathlib.Omega.{arith}
use native.Mathlib.Nat.{add-zero, zero-add, suc-add, pow-zero, pow-succ', pow-suc, div-div-eq-div-mul, div-one, one-le-pow}
use mathlib.Core.List.{List, [], ◌∷◌, ◌++◌}
use lib.Arith.{mod-mul}
use lib.ListN.{length, get_or, get_or-append}
use Rattle.std.specs.Int.{w16, w32, w64, to_le_bytes}
use Rattle.memory.specs.Bytes.{part, overlay, Has, Small}
use Rattle.memory.specs.Numbers.{number, number_bytes}
use Rattle.memory.proofs.Overlay.{overlay-before, overlay-after, overlay-append, small-cons}
use Rattle.memory.proofs.Places.{has-overlay, has_part, get_d_part}

-- ---- the bytes of a number

pub length-number_bytes : (n v : ℕ) → length (number_bytes n v) ≡ n
unfolding number_bytes
length-number_bytes zero v = refl
length-number_bytes (suc n) v = ap suc (length-number_bytes n (v / 256))

pub small-number_bytes : (n v : ℕ) → Small (number_bytes n v)
unfolding number_bytes
small-number_bytes zero v k = omega arith
small-number_bytes (suc n) v k = small-cons (v % 256) (number_bytes n (v / 256)) (omega arith) (small-number_bytes n (v / 256)) k

-- the lower bytes, then the higher
pub bytes-split : (n m v : ℕ) → number_bytes (n + m) v ≡ number_bytes n v ++ number_bytes m (v / 256 ^ n)
unfolding number_bytes
bytes-split zero m v = ap₂ number_bytes (zero-add m) (sym (div-one v))
bytes-split (suc n) m v =
    let e : v / 256 / 256 ^ n ≡ v / 256 ^ suc n = div-div-eq-div-mul v 256 (256 ^ n) ∙ ap (λ (x : ℕ). v / x) (sym (pow-succ' 256 n)) in
    rw (suc-add n m) (ap (λ (r : List ℕ). v % 256 ∷ r) (bytes-split n m (v / 256) ∙ ap (λ (x : ℕ). number_bytes n (v / 256) ++ number_bytes m x) e))

-- bytes past the n lowest do not count
pub bytes-mod : (n v : ℕ) → number_bytes n (v % 256 ^ n) ≡ number_bytes n v
unfolding number_bytes
bytes-mod zero v = refl
bytes-mod (suc n) v =
    let e : v % 256 ^ suc n ≡ (v / 256 % 256 ^ n) * 256 + v % 256 =
    ap (λ (x : ℕ). v % x) (pow-suc 256 n) ∙ mod-mul v (one-le-pow n 256 (omega arith)) (omega arith) in
    let lo : v % 256 ^ suc n % 256 ≡ v % 256 = omega arith in
    let hi : v % 256 ^ suc n / 256 ≡ v / 256 % 256 ^ n = omega arith in
    ap₂ (λ (x : ℕ) (r : List ℕ). x ∷ r) lo (ap (number_bytes n) hi ∙ bytes-mod n (v / 256))

-- the lower bytes stored, and then the higher
pub put-split : (l : List ℕ) (at n m v : ℕ)
    → overlay (overlay l at (number_bytes n (v % 256 ^ n))) (at + n) (number_bytes m (v / 256 ^ n)) ≡ overlay l at (number_bytes (n + m) v)
put-split l at n m v =
    let lo : List ℕ = number_bytes n v in
    let hi : List ℕ = number_bytes m (v / 256 ^ n) in
    ap (λ (r : List ℕ). overlay (overlay l at r) (at + n) hi) (bytes-mod n v)
    ∙ ap (λ (k : ℕ). overlay (overlay l at lo) (at + k) hi) (sym (length-number_bytes n v))
    ∙ sym (ap (overlay l at) (bytes-split n m v) ∙ overlay-append l at lo hi)

pub put-join : (l lo hi : List ℕ) (at n m v : ℕ) → lo ≡ overlay l at (number_bytes n (v % 256 ^ n))
    → hi ≡ overlay lo (at + n) (number_bytes m (v / 256 ^ n)) → hi ≡ overlay l at (number_bytes (n + m) v)
put-join l lo hi at n m v d e = e ∙ ap (λ (r : List ℕ). overlay r (at + n) (number_bytes m (v / 256 ^ n))) d ∙ put-split l at n m v

-- ---- the number in bytes

pub number-split : (n m : ℕ) (l : List ℕ) (at : ℕ) → number (n + m) l at ≡ number n l at + 256 ^ n * number m l (at + n)
unfolding number
number-split zero m l at = rw (zero-add m, add-zero at, pow-zero 256) (omega arith)
number-split (suc n) m l at =
    let e : at + 1 + n ≡ at + suc n = omega arith in
    let ih : number (n + m) l (at + 1) ≡ number n l (at + 1) + 256 ^ n * number m l (at + suc n) = rw e at (number-split n m l (at + 1)) in
    rw (suc-add n m, ih, pow-succ' 256 n) (omega arith)

pub number_bound : (n : ℕ) (l : List ℕ) (at : ℕ) → Small l → number n l at < 256 ^ n
unfolding number
number_bound zero l at s = omega arith
number_bound (suc n) l at s = omega (arith, s at, number_bound n l (at + 1) s, pow-succ' 256 n)

-- what was written is read
pub number_back : (n : ℕ) (l : List ℕ) (at v : ℕ) → v < 256 ^ n → Has l at (number_bytes n v) → number n l at ≡ v
unfolding number number_bytes
number_back zero l at v h p = omega arith
number_back (suc n) l at v h p =
    let b : v / 256 < 256 ^ n = omega (arith, pow-succ' 256 n) in
    omega (arith, p.1, number_back n l (at + 1) (v / 256) b p.2)

pub number_put : (n : ℕ) (l : List ℕ) (at v : ℕ) → v < 256 ^ n → at + n ≤ length l → number n (overlay l at (number_bytes n v)) at ≡ v
number_put n l at v h b =
    number_back n (overlay l at (number_bytes n v)) at v h (has-overlay l at (number_bytes n v) (rw (length-number_bytes n v) b))

-- what is read is what was written
pub bytes_back : (n : ℕ) (l : List ℕ) (at : ℕ) → Small l → at + n ≤ length l → Has l at (number_bytes n (number n l at))
unfolding number number_bytes
bytes_back zero l at s h = tt
bytes_back (suc n) l at s h =
    let b = s at in
    let hi : (get_or l at 0 + 256 * number n l (at + 1)) / 256 ≡ number n l (at + 1) = omega arith in
    (omega arith, omega arith, rw hi (bytes_back n l (at + 1) s (omega arith)))

pub number-part : (n : ℕ) (l : List ℕ) (at : ℕ) → Small l → at + n ≤ length l → part l at n ≡ number_bytes n (number n l at)
number-part n l at s h =
    ap (part l at) (sym (length-number_bytes n (number n l at))) ∙ has_part l at (number_bytes n (number n l at)) (bytes_back n l at s h)

-- ---- the same bytes, the same number

pub number_same : (n : ℕ) (a : List ℕ) (i : ℕ) (b : List ℕ) (j : ℕ)
    → ((k : ℕ) → k < n → get_or a (i + k) 0 ≡ get_or b (j + k) 0) → number n a i ≡ number n b j
unfolding number
number_same zero a i b j f = refl
number_same (suc n) a i b j f =
    let x : get_or a i 0 ≡ get_or b j 0 = rw (add-zero i, add-zero j) at (f 0 (omega arith)) in
    let y : number n a (i + 1) ≡ number n b (j + 1) = number_same n a (i + 1) b (j + 1) (λ k h.
    let d : i + suc k ≡ i + 1 + k = omega arith in let e : j + suc k ≡ j + 1 + k = omega arith in rw (d, e) at (f (suc k) (omega arith))) in
    omega arith

-- a store beside a number keeps it
pub number-below : (n : ℕ) (l : List ℕ) (at j : ℕ) (ys : List ℕ) → at + n ≤ j → number n (overlay l j ys) at ≡ number n l at
number-below n l at j ys h = number_same n (overlay l j ys) at l at (λ k b. overlay-before l j ys (at + k) (omega arith))

pub number-above : (n : ℕ) (l : List ℕ) (at j : ℕ) (ys : List ℕ) → j + length ys ≤ at → number n (overlay l j ys) at ≡ number n l at
number-above n l at j ys h = number_same n (overlay l j ys) at l at (λ k b. overlay-after l j ys (at + k) (omega arith))

-- more after the list changes nothing
pub number_append : (n : ℕ) (s t : List ℕ) (at : ℕ) → at + n ≤ length s → number n (s ++ t) at ≡ number n s at
number_append n s t at h = number_same n (s ++ t) at s at (λ k b. get_or-append s t 0 (at + k) (omega arith))

-- equal numbers of bytes are equal bytes, and the other way round
module _ (n : ℕ) (a : List ℕ) (i : ℕ) (b : List ℕ) (j : ℕ) (ha : i + n ≤ length a) (hb : j + n ≤ length b) where
  pub number-eq : Small a → Small b → number n a i ≡ number n b j → part a i n ≡ part b j n
  number-eq s t e = number-part n a i s ha ∙ ap (number_bytes n) e ∙ sym (number-part n b j t hb)

  pub eq_number : part a i n ≡ part b j n → number n a i ≡ number n b j
  eq_number e = number_same n a i b j (λ k h. sym (get_d_part a i n k h) ∙ ap (λ (l : List ℕ). get_or l k 0) e ∙ get_d_part b j n k h)

-- ---- the library's writing of a number's bytes

pub le_bytes-number_1 : (v : ℕ) → v < 256 → v ∷ [] ≡ number_bytes 1 v
unfolding number_bytes
le_bytes-number_1 v h = ap (λ (x : ℕ). x ∷ []) (omega arith)

pub le_bytes-number_2 : (v : ℕ) → to_le_bytes w16 v ≡ number_bytes 2 v
unfolding number_bytes
le_bytes-number_2 v = refl

pub le_bytes-number_4 : (v : ℕ) → to_le_bytes w32 v ≡ number_bytes 4 v
unfolding number_bytes
le_bytes-number_4 v = simp div-div-eq-div-mul

pub le_bytes-number_8 : (v : ℕ) → to_le_bytes w64 v ≡ number_bytes 8 v
unfolding number_bytes
le_bytes-number_8 v = simp div-div-eq-div-mul
