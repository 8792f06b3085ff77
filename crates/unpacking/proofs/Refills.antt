-- Bytes put behind the bits that wait: the same bits wait.
use mathlib.Core.Path.{◌≡◌, sym, ap, ◌∙◌}
use mathlib.Core.Bool.{Bool}
use Prim.Native.Nat.{ℕ, ◌+◌, ◌-◌, ◌*◌, ◌%◌, ◌^◌, ◌<◌}
use native.Mathlib.Omega.{arith}
use mathlib.Core.List.{List, [], ◌∷◌, ◌++◌, append_assoc, append-nil}
use lib.ListN.{length, get_or, drop}
use lib.Seq.{drop-cons}
use native.Mathlib.Numerals.{add-one}
use Rattle.std.specs.Int.{from_be_bytes, w32}
use lib.Pow.{shl_exact}
use Rattle.memory.specs.Bytes.{Small}
use Rattle.huffman.specs.Bits.{bits_of, bits}
use Rattle.huffman.proofs.BitLaws.{bits-join}
use Rattle.unpacking.specs.Waiting.{highest, bits_then}
use Rattle.unpacking.proofs.Highest.{highest-join, zeros-join, wide-join}

-- the n highest bits of w wait, with zeros below them
pub record Sound (w n : ℕ) : Type 0 where
  pub few : n < 64
  pub wide : w < 2 ^ 64
  pub zeros : w % 2 ^ (64 - n) ≡ 0

-- ---- the bytes behind

pub byte_next : (s : List ℕ) (i : ℕ) → i < length s → bits (drop i s) ≡ bits_of 8 (get_or s i 0) ++ bits (drop (i + 1) s)
unfolding bits
byte_next s i h = ap bits (drop-cons s i 0 h) ∙ ap (λ (k : ℕ). bits_of 8 (get_or s i 0) ++ bits (drop k s)) (sym (add-one i))

-- four bytes as one number
word-bits : (a b c d : ℕ) → b < 256 → c < 256 → d < 256
    → bits_of 32 (16777216 * a + 65536 * b + 256 * c + d) ≡ bits_of 8 a ++ (bits_of 8 b ++ (bits_of 8 c ++ bits_of 8 d))
word-bits a b c d hb hc hd =
    let e : 16777216 * a + 65536 * b + 256 * c + d ≡ ((a * 256 + b) * 256 + c) * 256 + d = omega arith in
    ap (bits_of 32) e ∙ bits-join 24 8 ((a * 256 + b) * 256 + c) d hd
    ∙ ap (λ (r : List Bool). r ++ bits_of 8 d) (bits-join 16 8 (a * 256 + b) c hc ∙ ap (λ (r : List Bool). r ++ bits_of 8 c) (bits-join 8 8 a b hb))
    ∙ append_assoc (bits_of 8 a ++ bits_of 8 b) (bits_of 8 c) (bits_of 8 d)
    ∙ append_assoc (bits_of 8 a) (bits_of 8 b) (bits_of 8 c ++ bits_of 8 d)

pub word_next : (s : List ℕ) → length s ≡ 4 → Small s → bits_of 32 (from_be_bytes w32 s) ≡ bits s
unfolding bits
word_next (a ∷ b ∷ c ∷ d ∷ []) h small =
    let e : from_be_bytes w32 (a ∷ b ∷ c ∷ d ∷ []) ≡ 16777216 * a + 65536 * b + 256 * c + d = omega arith in
    ap (bits_of 32) e ∙ word-bits a b c d (small 1) (small 2) (small 3)
    ∙ ap (λ (r : List Bool). bits_of 8 a ++ (bits_of 8 b ++ (bits_of 8 c ++ r))) (sym (append-nil (bits_of 8 d)))
word_next [] h small = absurd (omega arith)
word_next (a ∷ []) h small = absurd (omega arith)
word_next (a ∷ b ∷ []) h small = absurd (omega arith)
word_next (a ∷ b ∷ c ∷ []) h small = absurd (omega arith)
word_next (a ∷ b ∷ c ∷ d ∷ e ∷ rest) h small = absurd (omega arith)

-- ---- put behind the bits in w

module _ {w n : ℕ} (p : Sound w n) (m v k : ℕ) (h : n + m < 64) (e : k ≡ 64 - (n + m)) (b : v < 2 ^ m) where
  stored : (v * 2 ^ k) % 2 ^ 64 ≡ v * 2 ^ (64 - (n + m))
  stored = shl_exact m k 64 b (omega arith) ∙ ap (λ (j : ℕ). v * 2 ^ j) e

  pub join-fits : w + (v * 2 ^ k) % 2 ^ 64 < 2 ^ 64
  join-fits = rw stored (wide-join n m w v (omega arith) p.zeros b p.wide)

  pub join-sound : Sound (w + (v * 2 ^ k) % 2 ^ 64) (n + m)
  join-sound = record {
    few = h;
    wide = join-fits;
    zeros = rw stored (zeros-join n m w v (omega arith) p.zeros b);
  }

  pub join-waiting : (rest next : List ℕ) → bits rest ≡ bits_of m v ++ bits next
      → bits_then (w + (v * 2 ^ k) % 2 ^ 64) (n + m) next ≡ bits_then w n rest
  unfolding bits_then
  join-waiting rest next d =
      ap (λ (x : ℕ). highest (n + m) (w + x) ++ bits next) stored
      ∙ ap (λ (r : List Bool). r ++ bits next) (highest-join n m w v (omega arith) p.zeros b)
      ∙ append_assoc (highest n w) (bits_of m v) (bits next) ∙ ap (λ (r : List Bool). highest n w ++ r) (sym d)
