-- How many streams of a run are marked, and the lowest of them: of a word, of two runs, and of marks that agree. By induction over the streams.
use mathlib.Core.Path.{◌≡◌, refl, sym, ap, ap₂, ◌∙◌}
use Prim.Native.Nat.{ℕ, zero, suc, ◌+◌, ◌≤◌, ◌<◌}
use native.Mathlib.Omega.{arith}
use native.Mathlib.Nat.{add-zero, zero-add, suc-add}
use mathlib.Core.Bool.{Bool, true, false}
use lib.Count.{ones, ones_step, under, count_trailing_zeros, trailing_of_zero}
use Rattle.memory.specs.Choice.{pick}
use Rattle.memory.proofs.Order.{either, pick-both, pick_true, pick-false}
use Rattle.marks.specs.Marks.{word_of, count_from, lowest_from}
use Rattle.marks.proofs.Bits.{digit, digit-le, word_low, word-high, rest}

ones_none : ones 0 ≡ 0
unfolding ones
ones_none = refl

-- the zeros below a digit, counted from s on
under-digit : (b : Bool) (s t r : ℕ) → s + 1 + t ≡ r → s + under (digit b) t ≡ pick b s r
under-digit true s t r e = add-zero s
under-digit false s t r e = omega arith

module _ (g : ℕ → Bool) where
  -- ---- how many are marked

  -- the ones of a word
  pub count_word : (s n : ℕ) → ones (word_of g s n) ≡ count_from g s n
  unfolding word_of count_from
  count_word s zero = ones_none
  count_word s (suc n) =
      ones_step (word_of g s (suc n)) ∙ ap₂ (λ (x y : ℕ). x + ones y) (word_low g s n) (word-high g s n)
      ∙ ap (λ (x : ℕ). digit (g s) + x) (count_word (s + 1) n)

  pub count-le : (s n : ℕ) → count_from g s n ≤ n
  unfolding count_from
  count-le s zero = omega arith
  count-le s (suc n) = omega (arith, digit-le (g s), count-le (s + 1) n)

  -- one run after the other
  pub count-split : (s n m : ℕ) → count_from g s (n + m) ≡ count_from g s n + count_from g (s + n) m
  unfolding count_from
  count-split s zero m = rw (zero-add m, add-zero s) (sym (zero-add (count_from g s m)))
  count-split s (suc n) m =
      let e : s + 1 + n ≡ s + suc n = omega arith in
      let ih : count_from g (s + 1) (n + m) ≡ count_from g (s + 1) n + count_from g (s + suc n) m = rw e at (count-split (s + 1) n m) in
      rw (suc-add n m) (omega arith)

  -- ---- the lowest

  -- the zeros below the lowest one of a word
  pub lowest-word : (s n : ℕ) → s + count_trailing_zeros n (word_of g s n) ≡ lowest_from g s n
  unfolding count_trailing_zeros lowest_from
  lowest-word s zero = add-zero s
  lowest-word s (suc n) =
      ap₂ (λ (x y : ℕ). s + under x (count_trailing_zeros n y)) (word_low g s n) (word-high g s n)
      ∙ under-digit (g s) s (count_trailing_zeros n (word_of g (s + 1) n)) (lowest_from g (s + 1) n) (lowest-word (s + 1) n)

  pub lowest-le : (s n : ℕ) → lowest_from g s n ≤ s + n
  unfolding lowest_from
  lowest-le s zero = omega arith
  lowest-le s (suc n) =
      pick-both (λ (r : ℕ). r ≤ s + suc n) (g s) s (lowest_from g (s + 1) n) (λ e. omega arith) (λ e. omega (arith, lowest-le (s + 1) n))

  lowest-ge : (s n : ℕ) → s ≤ lowest_from g s n
  unfolding lowest_from
  lowest-ge s zero = omega arith
  lowest-ge s (suc n) =
      pick-both (λ (r : ℕ). s ≤ r) (g s) s (lowest_from g (s + 1) n) (λ e. omega arith) (λ e. omega (arith, lowest-ge (s + 1) n))

  -- the first of the run is marked, or the lowest is that of the others
  lowest-here : (s n : ℕ) → g s ≡ true → lowest_from g s (suc n) ≡ s
  unfolding lowest_from
  lowest-here s n e = pick_true (g s) s (lowest_from g (s + 1) n) e

  lowest-next : (s n : ℕ) → g s ≡ false → lowest_from g s (suc n) ≡ lowest_from g (s + 1) n
  unfolding lowest_from
  lowest-next s n e = pick-false (g s) s (lowest_from g (s + 1) n) e

  -- a run with no marked stream is passed over
  pub lowest-past : (s n m : ℕ) → lowest_from g s n ≡ s + n → lowest_from g s (n + m) ≡ lowest_from g (s + n) m
  lowest-past s zero m h = rw (zero-add m, add-zero s) refl
  lowest-past s (suc n) m h =
      let e : s + 1 + n ≡ s + suc n = omega arith in
      rw (suc-add n m) (either (g s)
      (λ t. absurd (omega (arith, lowest-here s n t)))
      (λ t. lowest-next s (n + m) t ∙ lowest-past (s + 1) n m (omega (arith, lowest-next s n t)) ∙ ap (λ (x : ℕ). lowest_from g x m) e))

  -- the lowest of a run is that of every run in which it lies
  pub lowest-found : (s n k : ℕ) → lowest_from g s n < s + n → lowest_from g s n < s + k → lowest_from g s k ≡ lowest_from g s n
  lowest-found s n zero h l = absurd (omega (arith, lowest-ge s n))
  lowest-found s zero (suc k) h l = absurd (omega (arith, lowest-ge s 0))
  lowest-found s (suc n) (suc k) h l = either (g s)
      (λ t. lowest-here s k t ∙ sym (lowest-here s n t))
      (λ t. let e = lowest-next s n t in lowest-next s k t ∙ lowest-found (s + 1) n k (omega arith) (omega arith) ∙ sym e)

  -- and a run that ends below it has no marked stream
  pub lowest-none : (s n k : ℕ) → s + k ≤ lowest_from g s n → lowest_from g s k ≡ s + k
  lowest-none s n zero h = omega (arith, lowest-le s 0, lowest-ge s 0)
  lowest-none s zero (suc k) h = absurd (omega (arith, lowest-le s 0))
  lowest-none s (suc n) (suc k) h = either (g s)
      (λ t. absurd (omega (arith, lowest-here s n t)))
      (λ t. let e = lowest-next s n t in lowest-next s k t ∙ lowest-none (s + 1) n k (omega arith) ∙ omega arith)

  -- a word of zeros has no marked stream, any other word has one
  pub word_none : (s n : ℕ) → word_of g s n ≡ 0 → lowest_from g s n ≡ s + n
  word_none s n e = sym (lowest-word s n) ∙ ap (λ (x : ℕ). s + count_trailing_zeros n x) e ∙ ap (λ (x : ℕ). s + x) (trailing_of_zero n)

  pub word_some : (s n : ℕ) → (word_of g s n ≡ 0 → ⊥) → lowest_from g s n < s + n
  unfolding word_of
  word_some s zero h = absurd (h refl)
  word_some s (suc n) h = either (g s)
      (λ t. omega (arith, lowest-here s n t))
      (λ t. omega (arith, lowest-next s n t, word_some (s + 1) n (λ e. h (omega (arith, pick-false {X = ℕ} (g s) 1 0 t)))))

-- ---- marks that agree

module _ (g f : ℕ → Bool) where
  pub count_same : (s n : ℕ) → ((t : ℕ) → t < n → g (s + t) ≡ f (s + t)) → count_from g s n ≡ count_from f s n
  unfolding count_from
  count_same s zero e = refl
  count_same s (suc n) e =
      ap₂ (λ (b : Bool) (c : ℕ). digit b + c) (rw (add-zero s) at (e 0 (omega arith))) (count_same (s + 1) n (rest g f s n e))

  pub lowest-same : (s n : ℕ) → ((t : ℕ) → t < n → g (s + t) ≡ f (s + t)) → lowest_from g s n ≡ lowest_from f s n
  unfolding lowest_from
  lowest-same s zero e = refl
  lowest-same s (suc n) e =
      ap₂ (λ (b : Bool) (r : ℕ). pick b s r) (rw (add-zero s) at (e 0 (omega arith))) (lowest-same (s + 1) n (rest g f s n e))
