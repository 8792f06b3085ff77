-- A mark taken away: the words are those of the other marks. One word is stored, and the words before and after it stand already.
use mathlib.Core.Path.{◌≡◌, refl, sym, ap, subst, ◌∙◌}
use Prim.Native.Nat.{ℕ, zero, suc, ◌+◌, ◌*◌, ◌-◌, ◌^◌, ◌/◌, ◌%◌, ◌≤◌, ◌<◌}
use native.Mathlib.Omega.{arith}
use native.Mathlib.Nat.{add-zero}
use mathlib.Core.Bool.{Bool, true, false}
use mathlib.Core.List.{List, ◌++◌}
use borrow.Author.Tests.{eq-eqb, ne_eqb, eqb-true}
use lib.Dec.{eqb}
use lib.ListN.{length}
use Rattle.memory.specs.Bytes.{overlay, Has, Small}
use Rattle.memory.specs.Choice.{pick}
use Rattle.memory.specs.Numbers.{number, number_bytes}
use Rattle.memory.proofs.Numbers.{length-number_bytes, small-number_bytes}
use Rattle.memory.proofs.Order.{either, pick-both, pick_true, pick-false}
use Rattle.memory.proofs.Overlay.{length-overlay, overlay-append, overlay-same, small-overlay}
use Rattle.memory.proofs.Places.{has_left, has_right, has_above}
use Rattle.marks.specs.Marks.{word_place, is_set, cleared, word_of, words_bytes}
use Rattle.marks.proofs.Bits.{word_same, word-less}
use Rattle.marks.proofs.Words.{words-agree, words_same, words-word, words-read}

-- ---- the two ways

module _ (m : List ℕ) (at s : ℕ) where
  pub cleared-none : is_set m at s ≡ false → cleared m at s ≡ m
  unfolding cleared
  cleared-none e = pick-false (is_set m at s) (overlay m (word_place at s) (number_bytes 8 (number 8 m (word_place at s) - 2 ^ (s % 64)))) m e

  pub cleared-one : is_set m at s ≡ true
      → cleared m at s ≡ overlay m (word_place at s) (number_bytes 8 (number 8 m (word_place at s) - 2 ^ (s % 64)))
  unfolding cleared
  cleared-one e = pick_true (is_set m at s) (overlay m (word_place at s) (number_bytes 8 (number 8 m (word_place at s) - 2 ^ (s % 64)))) m e

  pub length-cleared : length (cleared m at s) ≡ length m
  length-cleared = either (is_set m at s)
      (λ e. ap length (cleared-one e) ∙ length-overlay m (word_place at s) (number_bytes 8 (number 8 m (word_place at s) - 2 ^ (s % 64))))
      (λ e. ap length (cleared-none e))

  pub small-cleared : Small m → Small (cleared m at s)
  small-cleared small =
      let x = number 8 m (word_place at s) - 2 ^ (s % 64) in
      either (is_set m at s)
      (λ e. subst Small (sym (cleared-one e)) (small-overlay m (word_place at s) (number_bytes 8 x) small (small-number_bytes 8 x)))
      (λ e. subst Small (sym (cleared-none e)) small)

-- ---- the words that are left

-- marks that agree but for the stream x: storing the word of x makes the words of the one out of those of the other
module _ (g f : ℕ → Bool) (x : ℕ) (others : (t : ℕ) → (x ≡ t → ⊥) → g t ≡ f t) (m : List ℕ) where
  words-put : (a s n k : ℕ) → k < n → s + 64 * k ≤ x → x < s + 64 * k + 64 → Has m a (words_bytes g s n)
      → overlay m (a + 8 * k) (number_bytes 8 (word_of f (s + 64 * k) 64)) ≡ overlay m a (words_bytes f s n)
  unfolding words_bytes
  words-put a s zero k h lo hi p = absurd (omega arith)
  words-put a s (suc n) zero h lo hi p =
      let w = number_bytes 8 (word_of g s 64) in
      let v = number_bytes 8 (word_of f s 64) in
      let after = words_bytes f (s + 64) n in
      let e : length w ≡ length v = length-number_bytes 8 (word_of g s 64) ∙ sym (length-number_bytes 8 (word_of f s 64)) in
      let d : words_bytes g (s + 64) n ≡ after = words-agree g f (s + 64) n (λ k j. others (s + 64 + k) (λ q. omega arith)) in
      let q : Has m (a + length v) after = rw (e, d) at (has_right m a w (words_bytes g (s + 64) n) p) in
      rw (add-zero a, add-zero s)
      (sym (overlay-append m a v after ∙ overlay-same (overlay m a v) (a + length v) after (has_above m (a + length v) after a v (omega arith) q)))
  words-put a s (suc n) (suc k) h lo hi p =
      let v = number_bytes 8 (word_of f s 64) in
      let after = words_bytes f (s + 64) n in
      let i : a + 8 * suc k ≡ a + 8 + 8 * k = omega arith in
      let j : s + 64 * suc k ≡ s + 64 + 64 * k = omega arith in
      let d : word_of g s 64 ≡ word_of f s 64 = word_same g f s 64 (λ k j. others (s + k) (λ q. omega arith)) in
      let q : Has m a (v ++ words_bytes g (s + 64) n) = rw d at p in
      let first : overlay m a v ≡ m = overlay-same m a v (has_left m a v (words_bytes g (s + 64) n) q) in
      let e : length v ≡ 8 = length-number_bytes 8 (word_of f s 64) in
      let later : Has m (a + 8) (words_bytes g (s + 64) n) = rw e at (has_right m a v (words_bytes g (s + 64) n) q) in
      rw (i, j) (words-put (a + 8) (s + 64) n k (omega arith) (omega arith) (omega arith) later
      ∙ sym (overlay-append m a v after ∙ ap (λ (l : List ℕ). overlay l (a + length v) after) first ∙ ap (λ (b : ℕ). overlay m (a + b) after) e))

-- the marks without a stream
module _ (g : ℕ → Bool) (s : ℕ) where
  abbrev without : ℕ → Bool
  without t = pick (eqb s t) false (g t)

  gone : without s ≡ false
  gone = ap (λ (q : Bool). pick q false (g s)) (eq-eqb s s refl)

  others : (t : ℕ) → (s ≡ t → ⊥) → g t ≡ without t
  others t n = sym (pick-false (eqb s t) false (g t) (ne_eqb s t n))

  -- if it is not marked, nothing changes
  unmarked : g s ≡ false → (t : ℕ) → without t ≡ g t
  unmarked e t =
      pick-both (λ (r : Bool). r ≡ g t) (eqb s t) false (g t) (λ q. sym (ap g (sym (eqb-true s t q)) ∙ e)) (λ q. refl)

pub cleared-words : (m : List ℕ) (at : ℕ) (g : ℕ → Bool) → Has m at (words_bytes g 0 64) → (s : ℕ) → s < 4096
    → cleared m at s ≡ overlay m at (words_bytes (λ t. pick (eqb s t) false (g t)) 0 64)
unfolding word_place
cleared-words m at g p s h = either (is_set m at s)
    (λ e.
    let lo : ℕ = 0 + 64 * (s / 64) in
    let k : s - lo ≡ s % 64 = omega arith in
    let read : number 8 m (word_place at s) ≡ word_of g lo 64 = words-word m g at 0 64 (s / 64) (omega arith) p in
    let less : word_of g lo 64 ≡ word_of (without g s) lo 64 + 2 ^ (s - lo) =
    word-less g (without g s) s (sym (words-read m g at p s h) ∙ e) (gone g s) (others g s) lo 64 (omega arith) (omega arith) in
    let w : number 8 m (word_place at s) - 2 ^ (s % 64) ≡ word_of (without g s) lo 64 = rw (← k) (omega arith) in
    cleared-one m at s e ∙ ap (λ (x : ℕ). overlay m (word_place at s) (number_bytes 8 x)) w
    ∙ words-put g (without g s) s (others g s) m at 0 64 (s / 64) (omega arith) (omega arith) (omega arith) p)
    (λ e.
    let same : words_bytes (without g s) 0 64 ≡ words_bytes g 0 64 =
    words_same (without g s) g (λ t b. unmarked g s (sym (words-read m g at p s h) ∙ e) t) in
    cleared-none m at s e ∙ sym (ap (overlay m at) same ∙ overlay-same m at (words_bytes g 0 64) p))
