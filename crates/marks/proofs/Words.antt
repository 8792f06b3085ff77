-- Words of marks in memory: what they are made of is what is marked there, and the other way round. Word after word, each by its bits.
use mathlib.Core.Path.{◌≡◌, refl, sym, ap, ap₂, ◌∙◌}
use Prim.Native.Nat.{ℕ, zero, suc, ◌+◌, ◌*◌, ◌/◌, ◌%◌, ◌≤◌, ◌<◌}
use native.Mathlib.Omega.{arith}
use native.Mathlib.Nat.{add-zero}
use mathlib.Core.Bool.{Bool}
use mathlib.Core.List.{List, ◌++◌}
use lib.ListN.{length, length-append}
use Rattle.memory.specs.Bytes.{Has, Small}
use Rattle.memory.specs.Numbers.{number, number_bytes}
use Rattle.memory.proofs.Numbers.{length-number_bytes, number_bound, number_back, bytes_back}
use Rattle.memory.proofs.Places.{has_left, has_right, has_join}
use Rattle.marks.specs.Marks.{bit, word_place, is_set, word_of, words_bytes}
use Rattle.marks.proofs.Bits.{bit_word, word_lt, word-bits, word_same}

pub words-length : (g : ℕ → Bool) (s n : ℕ) → length (words_bytes g s n) ≡ 8 * n
unfolding words_bytes
words-length g s zero = refl
words-length g s (suc n) =
    let w = word_of g s 64 in
    omega (arith, length-append (number_bytes 8 w) (words_bytes g (s + 64) n), length-number_bytes 8 w, words-length g (s + 64) n)

-- ---- marks that agree make the same words

pub words-agree : (g f : ℕ → Bool) (s n : ℕ) → ((k : ℕ) → k < 64 * n → g (s + k) ≡ f (s + k)) → words_bytes g s n ≡ words_bytes f s n
unfolding words_bytes
words-agree g f s zero e = refl
words-agree g f s (suc n) e =
    ap₂ (λ (w : ℕ) (r : List ℕ). number_bytes 8 w ++ r) (word_same g f s 64 (λ k h. e k (omega arith)))
    (words-agree g f (s + 64) n (λ k h. let d : s + (64 + k) ≡ s + 64 + k = omega arith in rw d at (e (64 + k) (omega arith))))

pub words_same : (g f : ℕ → Bool) → ((s : ℕ) → s < 4096 → g s ≡ f s) → words_bytes g 0 64 ≡ words_bytes f 0 64
words_same g f e = words-agree g f 0 64 (λ k h. e (0 + k) (omega arith))

-- ---- words that stand in memory

module _ (m : List ℕ) (g : ℕ → Bool) where
  -- each of them
  pub words-word : (a s n k : ℕ) → k < n → Has m a (words_bytes g s n) → number 8 m (a + 8 * k) ≡ word_of g (s + 64 * k) 64
  unfolding words_bytes
  words-word a s zero k h p = absurd (omega arith)
  words-word a s (suc n) zero h p =
      let w = word_of g s 64 in
      rw (add-zero a, add-zero s) (number_back 8 m a w (word_lt g s 64) (has_left m a (number_bytes 8 w) (words_bytes g (s + 64) n) p))
  words-word a s (suc n) (suc k) h p =
      let w = word_of g s 64 in
      let i : a + 8 * suc k ≡ a + 8 + 8 * k = omega arith in
      let j : s + 64 * suc k ≡ s + 64 + 64 * k = omega arith in
      let q = has_right m a (number_bytes 8 w) (words_bytes g (s + 64) n) p in
      rw (i, j) (words-word (a + 8) (s + 64) n k (omega arith) (rw (length-number_bytes 8 w) at q))

  -- what is marked is what they are made of
  pub words-read : (at : ℕ) → Has m at (words_bytes g 0 64) → (s : ℕ) → s < 4096 → is_set m at s ≡ g s
  unfolding is_set word_place
  words-read at p s h =
      let e : 0 + 64 * (s / 64) + s % 64 ≡ s = omega arith in
      ap (λ (x : ℕ). bit x (s % 64)) (words-word at 0 64 (s / 64) (omega arith) p)
      ∙ bit_word g (0 + 64 * (s / 64)) 64 (s % 64) (omega arith) ∙ ap g e

-- ---- memory as words

module _ (m : List ℕ) (at : ℕ) (small : Small m) where
  -- the word at the place of its first stream
  word_read : (s : ℕ) → s % 64 ≡ 0 → number 8 m (word_place at s) ≡ word_of (is_set m at) s 64
  unfolding is_set word_place
  word_read s h =
      let x = number 8 m (at + 8 * (s / 64)) in
      sym (word-bits (is_set m at) s 64 x (λ k l.
      let d : s / 64 ≡ (s + k) / 64 = omega arith in
      let e : k ≡ (s + k) % 64 = omega arith in
      ap₂ (λ (i j : ℕ). bit (number 8 m (at + 8 * i)) j) d e) (number_bound 8 m (at + 8 * (s / 64)) small))

  -- the same, at the place that the loops go by
  pub word_at : (s : ℕ) → s % 64 ≡ 0 → number 8 m (at + s / 8) ≡ word_of (is_set m at) s 64
  unfolding word_place
  word_at s h =
      let e : at + s / 8 ≡ word_place at s = omega arith in
      ap (number 8 m) e ∙ word_read s h

  words-from : (s n : ℕ) → s % 64 ≡ 0 → word_place at s + 8 * n ≤ length m → Has m (word_place at s) (words_bytes (is_set m at) s n)
  unfolding words_bytes word_place
  words-from s zero h b = tt
  words-from s (suc n) h b =
      let w = word_of (is_set m at) s 64 in
      let e : word_place at s + length (number_bytes 8 w) ≡ word_place at (s + 64) = omega (arith, length-number_bytes 8 w) in
      has_join m (word_place at s) (number_bytes 8 w) (words_bytes (is_set m at) (s + 64) n)
      (rw (word_read s h) at (bytes_back 8 m (word_place at s) small (omega arith)))
      (rw e (words-from (s + 64) n (omega arith) (omega arith)))

  pub words-has : at + 512 ≤ length m → Has m at (words_bytes (is_set m at) 0 64)
  unfolding word_place
  words-has b = rw (add-zero at) at (words-from 0 64 refl (omega arith))
