-- Bits put behind the bits of a number of 64, and words and bytes taken off their front.
use mathlib.Core.Path.{◌≡◌, sym, ap, ap₂, subst, ◌∙◌}
use mathlib.Core.Bool.{Bool}
use Prim.Native.Nat.{ℕ, suc, ◌+◌, ◌-◌, ◌*◌, ◌/◌, ◌%◌, ◌^◌, ◌≤◌, ◌<◌}
use native.Mathlib.Omega.{arith}
use native.Mathlib.Nat.{mod-lt, div-one}
use mathlib.Core.List.{List, [], ◌∷◌, ◌++◌, append_assoc, append-nil}
use lib.Arith.{digits_lt}
use lib.Pow.{pow-add, mod-pow-add, shl-shr, low, pow_pos}
use Rattle.huffman.specs.Bits.{bits_of, bytes_of, Pushed}
use Rattle.huffman.proofs.BitLaws.{bits-split, bits-mod, bits-join, bytes_of-cons}

-- a shift keeps the lower bits
pub shifted : (u k : ℕ) → k ≤ 64 → (u * 2 ^ k) % 2 ^ 64 ≡ (u % 2 ^ (64 - k)) * 2 ^ k
shifted u k h =
    let e : (64 - k) + k ≡ 64 = omega arith in
    let d : u * 2 ^ k ≡ u * 2 ^ k + 0 = omega arith in
    let z : u * 2 ^ k % 2 ^ k ≡ 0 = ap (λ (x : ℕ). x % 2 ^ k) d ∙ low u k (pow_pos k) in
    subst (λ (m : ℕ). (u * 2 ^ k) % 2 ^ m ≡ (u % 2 ^ (64 - k)) * 2 ^ k) e
    (mod-pow-add (u * 2 ^ k) (64 - k) k ∙ ap₂ (λ (x y : ℕ). (x % 2 ^ (64 - k)) * 2 ^ k + y) (shl-shr u k) z ∙ omega arith)

pub push-fits : (u k v : ℕ) → k ≤ 64 → v < 2 ^ k → (u * 2 ^ k) % 2 ^ 64 + v < 2 ^ 64
push-fits u k v h b =
    let d : (64 - k) + k ≡ 64 = omega arith in
    let e : 2 ^ (64 - k) * 2 ^ k ≡ 2 ^ 64 = sym (pow-add 2 (64 - k) k) ∙ ap (λ (m : ℕ). 2 ^ m) d in
    subst (λ (x : ℕ). (u * 2 ^ k) % 2 ^ 64 + v < x) e
    (rw (shifted u k h) (digits_lt {q = u % 2 ^ (64 - k)} {m = 2 ^ (64 - k)} (mod-lt u (pow_pos (64 - k))) b))

pub pushed : (u k v : ℕ) → k ≤ 64 → v < 2 ^ k → Pushed u k v ((u * 2 ^ k) % 2 ^ 64 + v)
unfolding Pushed
pushed u k v h b n l =
    let e : (64 - k - n) + n ≡ 64 - k = omega arith in
    rw (shifted u k h)
    (bits-join n k (u % 2 ^ (64 - k)) v b
    ∙ ap (λ (r : List Bool). r ++ bits_of k v) (subst (λ (m : ℕ). bits_of n (u % 2 ^ m) ≡ bits_of n u) e (bits-mod n (64 - k - n) u)))

-- ---- off the front

-- a byte
pub byte-off : (m n u : ℕ) (r : List Bool) → bytes_of (suc m) (bits_of (8 + n) u ++ r) ≡ u / 2 ^ n % 256 ∷ bytes_of m (bits_of n u ++ r)
byte-off m n u r =
    ap (bytes_of (suc m)) (ap (λ (l : List Bool). l ++ r) (bits-split 8 n u) ∙ append_assoc (bits_of 8 (u / 2 ^ n)) (bits_of n u) r)
    ∙ bytes_of-cons m (u / 2 ^ n) (bits_of n u ++ r)

-- the four bytes of 32 bits
words : (m v : ℕ) (r : List Bool) → bytes_of (suc (suc (suc (suc m)))) (bits_of 32 v ++ r)
    ≡ v / 16777216 % 256 ∷ v / 65536 % 256 ∷ v / 256 % 256 ∷ v % 256 ∷ bytes_of m r
unfolding bits_of
words m v r =
    byte-off (suc (suc (suc m))) 24 v r
    ∙ ap (λ (l : List ℕ). v / 16777216 % 256 ∷ l) (byte-off (suc (suc m)) 16 v r)
    ∙ ap (λ (l : List ℕ). v / 16777216 % 256 ∷ v / 65536 % 256 ∷ l) (byte-off (suc m) 8 v r)
    ∙ ap (λ (l : List ℕ). v / 16777216 % 256 ∷ v / 65536 % 256 ∷ v / 256 % 256 ∷ l) (byte-off m 0 v r)
    ∙ ap (λ (x : ℕ). v / 16777216 % 256 ∷ v / 65536 % 256 ∷ v / 256 % 256 ∷ x % 256 ∷ bytes_of m r) (div-one v)

pub word_bytes : (v : ℕ) → bytes_of 4 (bits_of 32 v) ≡ v / 16777216 % 256 ∷ v / 65536 % 256 ∷ v / 256 % 256 ∷ v % 256 ∷ []
unfolding bytes_of
word_bytes v = ap (bytes_of 4) (sym (append-nil (bits_of 32 v))) ∙ words 0 v []

-- a word
pub word-off : (m n u : ℕ) (r : List Bool)
    → bytes_of (4 + m) (bits_of (32 + n) u ++ r) ≡ bytes_of 4 (bits_of 32 (u / 2 ^ n)) ++ bytes_of m (bits_of n u ++ r)
word-off m n u r =
    let e : 4 + m ≡ suc (suc (suc (suc m))) = omega arith in
    ap (λ (k : ℕ). bytes_of k (bits_of (32 + n) u ++ r)) e
    ∙ ap (bytes_of (suc (suc (suc (suc m))))) (ap (λ (l : List Bool). l ++ r) (bits-split 32 n u) ∙ append_assoc (bits_of 32 (u / 2 ^ n)) (bits_of n u) r)
    ∙ words m (u / 2 ^ n) (bits_of n u ++ r)
    ∙ ap (λ (l : List ℕ). l ++ bytes_of m (bits_of n u ++ r)) (sym (word_bytes (u / 2 ^ n)))
