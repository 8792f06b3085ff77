-- One turn of the loops over words, and their ends: a word is stored or read, and the laws of words say what that means for the streams.
use mathlib.Core.Path.{◌≡◌, refl, sym, ap, ◌∙◌}
use Prim.Native.Nat.{ℕ, suc, ◌+◌, ◌*◌, ◌-◌, ◌^◌, ◌/◌, ◌%◌, ◌≤◌, ◌<◌}
use native.Mathlib.Omega.{arith}
use native.Mathlib.Nat.{add-zero, zero-add}
use mathlib.Core.Bool.{Bool, true}
use mathlib.Core.List.{List}
use lib.ListN.{length}
use lib.Count.{ones, count_trailing_zeros}
use Rattle.memory.specs.Bytes.{overlay, Small}
use Rattle.memory.specs.Numbers.{number, number_bytes}
use Rattle.memory.proofs.Numbers.{length-number_bytes}
use Rattle.memory.proofs.Overlay.{overlay-append}
use Rattle.marks.specs.Marks.{is_set, word_of, words_bytes, count_from, lowest_from}
use Rattle.marks.proofs.Bits.{word_mod, word_ones}
use Rattle.marks.proofs.Counting.{count_word, count-split, lowest-word, lowest-past, lowest-found, lowest-none, word_none, word_some}
use Rattle.marks.proofs.Words.{word_at}

-- ---- every stream marked, word after word: what is left to store makes of memory what the whole makes of it at first

module _ (m : List ℕ) (at : ℕ) where
  pub all_first : (g : ℕ → Bool) → overlay m at (words_bytes g 0 64) ≡ overlay m (at + 8 * 0) (words_bytes g (64 * 0) (64 - 0))
  all_first g = rw (add-zero at) refl

  pub all_more : (w : ℕ) → w < 64
      → overlay m (at + 8 * w) (words_bytes (λ t. true) (64 * w) (64 - w))
      ≡ overlay (overlay m (at + 8 * w) (number_bytes 8 18446744073709551615)) (at + 8 * (w + 1)) (words_bytes (λ t. true) (64 * (w + 1)) (64 - (w + 1)))
  unfolding words_bytes
  all_more w h =
      let ones = number_bytes 8 (word_of (λ t. true) (64 * w) 64) in
      let after = words_bytes (λ t. true) (64 * w + 64) (64 - (w + 1)) in
      let i : at + 8 * w + length ones ≡ at + 8 * (w + 1) = omega (arith, length-number_bytes 8 (word_of (λ t. true) (64 * w) 64)) in
      let j : 64 * w + 64 ≡ 64 * (w + 1) = omega arith in
      let k : 64 - w ≡ suc (64 - (w + 1)) = omega arith in
      ap (λ (n : ℕ). overlay m (at + 8 * w) (words_bytes (λ t. true) (64 * w) n)) k
      ∙ overlay-append m (at + 8 * w) ones after
      ∙ (λ q. overlay (overlay m (at + 8 * w) (number_bytes 8 (word_ones (64 * w) q))) (i q) (words_bytes (λ t. true) (j q) (64 - (w + 1))))

  pub all_done : (g : ℕ → Bool) (w : ℕ) → 64 ≤ w → overlay m (at + 8 * w) (words_bytes g (64 * w) (64 - w)) ≡ m
  unfolding words_bytes
  all_done g w h =
      let e : 64 - w ≡ 0 = omega arith in
      ap (λ (n : ℕ). overlay m (at + 8 * w) (words_bytes g (64 * w) n)) e

-- ---- counting, and the lowest

-- no stream below s is marked, and the run ends before s
pub lowest-end : (g : ℕ → Bool) (s end : ℕ) → lowest_from g 0 s ≡ s → end ≤ s → lowest_from g 0 end ≡ end
lowest-end g s end e h = lowest-none g 0 s end (omega arith) ∙ zero-add end

module _ (m : List ℕ) (at : ℕ) (small : Small m) (s : ℕ) (start : s % 64 ≡ 0) (w : ℕ) (read : w ≡ number 8 m (at + s / 8)) where
  word : w ≡ word_of (is_set m at) s 64
  word = read ∙ word_at m at small s start

  -- the streams below s, and n more
  more : (n x : ℕ) → x ≡ word_of (is_set m at) s n → count_from (is_set m at) 0 s + ones x ≡ count_from (is_set m at) 0 (s + n)
  more n x e =
      let g = is_set m at in
      ap (λ (y : ℕ). count_from g 0 s + y) (ap ones e ∙ count_word g s n ∙ ap (λ (a : ℕ). count_from g a n) (sym (zero-add s)))
      ∙ sym (count-split g 0 s n)

  pub count_turn : count_from (is_set m at) 0 s + ones w ≡ count_from (is_set m at) 0 (s + 64)
  count_turn = more 64 w word

  pub count-last : (end : ℕ) → s ≤ end → end ≤ s + 64 → count_from (is_set m at) 0 s + ones (w % 2 ^ (end - s)) ≡ count_from (is_set m at) 0 end
  count-last end l h =
      let e : s + (end - s) ≡ end = omega arith in
      rw e at (more (end - s) (w % 2 ^ (end - s)) (ap (λ (x : ℕ). x % 2 ^ (end - s)) word ∙ word_mod (is_set m at) s 64 (end - s) (omega arith)))

  -- where no stream below s is marked
  module _ (none : lowest_from (is_set m at) 0 s ≡ s) where
    -- the lowest of the word is the lowest of all up to its end
    lowest-all : lowest_from (is_set m at) 0 (s + 64) ≡ lowest_from (is_set m at) s 64
    lowest-all =
        let g = is_set m at in
        lowest-past g 0 s 64 (none ∙ sym (zero-add s)) ∙ ap (λ (a : ℕ). lowest_from g a 64) (zero-add s)

    at_one : lowest_from (is_set m at) 0 (s + 64) ≡ s + count_trailing_zeros 64 w
    at_one = lowest-all ∙ sym (lowest-word (is_set m at) s 64) ∙ ap (λ (x : ℕ). s + count_trailing_zeros 64 x) (sym word)

    pub lowest-turn : w ≡ 0 → lowest_from (is_set m at) 0 (s + 64) ≡ s + 64
    lowest-turn e = lowest-all ∙ word_none (is_set m at) s 64 (sym word ∙ e)

    pub lowest-within : (end : ℕ) → (w ≡ 0 → ⊥) → s + count_trailing_zeros 64 w < end → s + count_trailing_zeros 64 w ≡ lowest_from (is_set m at) 0 end
    lowest-within end some h =
        let g = is_set m at in
        let l : lowest_from g s 64 < s + 64 = word_some g s 64 (λ z. some (word ∙ z)) in
        let a = lowest-all in
        let b = at_one in
        sym (lowest-found g 0 (s + 64) end (omega arith) (omega arith) ∙ b)

    pub lowest-beyond : (end : ℕ) → end ≤ s + count_trailing_zeros 64 w → end ≡ lowest_from (is_set m at) 0 end
    lowest-beyond end h =
        let b = at_one in
        sym (lowest-none (is_set m at) 0 (s + 64) end (omega arith) ∙ zero-add end)
