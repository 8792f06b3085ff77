-- A word, its lowest bit first: its bits are the marks that it was made of, and every word is the word of its bits.
-- By induction over the number of bits: the lowest bit is the remainder by two, and half of the word holds the others.
use mathlib.Core.Path.{◌≡◌, refl, sym, ap, ap₂, ◌∙◌}
use Prim.Native.Nat.{ℕ, zero, suc, ◌+◌, ◌*◌, ◌-◌, ◌^◌, ◌/◌, ◌%◌, ◌≤◌, ◌<◌}
use native.Mathlib.Omega.{arith}
use native.Mathlib.Nat.{add-zero, pow-suc, pow-succ', div-div-eq-div-mul, div-one, mod-one, le-div_iff_mul-le}
use mathlib.Core.Bool.{Bool, true, false}
use borrow.Author.Tests.{eqb-true, eqb-false}
use lib.Arith.{mod-mul}
use lib.Dec.{eqb}
use lib.Pow.{pow_pos}
use Rattle.memory.specs.Choice.{pick}
use Rattle.memory.proofs.Order.{split, either, pick_true, pick-false}
use Rattle.marks.specs.Marks.{bit, word_of}

-- ---- one bit

-- a bit as a number
abbrev pub digit : Bool → ℕ
digit b = pick b 1 0

pub digit-le : (b : Bool) → digit b ≤ 1
digit-le true = omega arith
digit-le false = omega arith

digit-eqb : (b : Bool) → eqb (digit b) 1 ≡ b
digit-eqb true = refl
digit-eqb false = refl

bit-zero : (x : ℕ) → bit x 0 ≡ eqb (x % 2) 1
unfolding bit
bit-zero x = ap (λ (y : ℕ). eqb (y % 2) 1) (div-one x)

bit-suc : (x k : ℕ) → bit x (suc k) ≡ bit (x / 2) k
unfolding bit
bit-suc x k =
    ap (λ (y : ℕ). eqb (y % 2) 1) (ap (λ (y : ℕ). x / y) (pow-succ' 2 k) ∙ sym (div-div-eq-div-mul x 2 (2 ^ k)))

bit-digit : (x : ℕ) → digit (bit x 0) ≡ x % 2
bit-digit x =
    let e = bit-zero x in
    either (eqb (x % 2) 1)
    (λ h. pick_true (bit x 0) 1 0 (e ∙ h) ∙ sym (eqb-true (x % 2) 1 h))
    (λ h. let n = eqb-false (x % 2) 1 h in pick-false (bit x 0) 1 0 (e ∙ h) ∙ omega arith)

-- a bit that is set can be taken away
pub bit_le : (x k : ℕ) → bit x k ≡ true → 2 ^ k ≤ x
unfolding bit
bit_le x k h =
    let e : x / 2 ^ k % 2 ≡ 1 = eqb-true (x / 2 ^ k % 2) 1 h in
    let l : 1 * 2 ^ k ≤ x = (le-div_iff_mul-le {k = 2 ^ k} {x = 1} {y = x} (pow_pos k)).0 (omega arith) in
    omega arith

-- ---- the word of marks

module _ (g : ℕ → Bool) where
  pub word_low : (s n : ℕ) → word_of g s (suc n) % 2 ≡ digit (g s)
  unfolding word_of
  word_low s n = let l = digit-le (g s) in omega arith

  pub word-high : (s n : ℕ) → word_of g s (suc n) / 2 ≡ word_of g (s + 1) n
  unfolding word_of
  word-high s n = let l = digit-le (g s) in omega arith

  pub bit_word : (s n k : ℕ) → k < n → bit (word_of g s n) k ≡ g (s + k)
  bit_word s zero k h = absurd (omega arith)
  bit_word s (suc n) zero h =
      bit-zero (word_of g s (suc n)) ∙ ap (λ (x : ℕ). eqb x 1) (word_low s n) ∙ digit-eqb (g s) ∙ ap g (sym (add-zero s))
  bit_word s (suc n) (suc k) h =
      let e : s + 1 + k ≡ s + suc k = omega arith in
      bit-suc (word_of g s (suc n)) k ∙ ap (λ (x : ℕ). bit x k) (word-high s n) ∙ bit_word (s + 1) n k (omega arith) ∙ ap g e

  pub word_lt : (s n : ℕ) → word_of g s n < 2 ^ n
  unfolding word_of
  word_lt s zero = omega arith
  word_lt s (suc n) = omega (arith, digit-le (g s), word_lt (s + 1) n)

  -- the word of the bits of x is x
  pub word-bits : (s n x : ℕ) → ((k : ℕ) → k < n → bit x k ≡ g (s + k)) → x < 2 ^ n → word_of g s n ≡ x
  unfolding word_of
  word-bits s zero x f h = omega arith
  word-bits s (suc n) x f h =
      let low : digit (g s) ≡ x % 2 = ap digit (ap g (sym (add-zero s)) ∙ sym (f 0 (omega arith))) ∙ bit-digit x in
      let high : word_of g (s + 1) n ≡ x / 2 = word-bits (s + 1) n (x / 2) (λ k l.
      let e : s + suc k ≡ s + 1 + k = omega arith in sym (bit-suc x k) ∙ f (suc k) (omega arith) ∙ ap g e) (omega arith) in
      omega arith

  -- the k lowest bits
  pub word_mod : (s n k : ℕ) → k ≤ n → word_of g s n % 2 ^ k ≡ word_of g s k
  unfolding word_of
  word_mod s n zero h = mod-one (word_of g s n)
  word_mod s zero (suc k) h = absurd (omega arith)
  word_mod s (suc n) (suc k) h =
      let w = word_of g s (suc n) in
      ap (λ (x : ℕ). w % x) (pow-suc 2 k) ∙ mod-mul w (pow_pos k) (omega arith)
      ∙ ap₂ (λ (x y : ℕ). x * 2 + y) (ap (λ (x : ℕ). x % 2 ^ k) (word-high s n) ∙ word_mod (s + 1) n k (omega arith)) (word_low s n)
      ∙ omega arith

-- every stream marked: all ones
word-all : (s n : ℕ) → word_of (λ t. true) s n + 1 ≡ 2 ^ n
unfolding word_of
word-all s zero = refl
word-all s (suc n) = omega (arith, word-all (s + 1) n)

pub word_ones : (s : ℕ) → word_of (λ t. true) s 64 ≡ 18446744073709551615
word_ones s = omega (arith, word-all s 64)

-- ---- marks that agree

module _ (g f : ℕ → Bool) where
  -- where they agree on a run, they do on the rest of it
  pub rest : (s n : ℕ) → ((k : ℕ) → k < suc n → g (s + k) ≡ f (s + k)) → (k : ℕ) → k < n → g (s + 1 + k) ≡ f (s + 1 + k)
  rest s n e k h = let d : s + suc k ≡ s + 1 + k = omega arith in rw d at (e (suc k) (omega arith))

  pub word_same : (s n : ℕ) → ((k : ℕ) → k < n → g (s + k) ≡ f (s + k)) → word_of g s n ≡ word_of f s n
  unfolding word_of
  word_same s zero e = refl
  word_same s (suc n) e =
      ap₂ (λ (b : Bool) (w : ℕ). digit b + 2 * w) (rw (add-zero s) at (e 0 (omega arith))) (word_same (s + 1) n (rest s n e))

-- marks that differ in the stream x alone: the word that has it is larger by its bit
module _ (g f : ℕ → Bool) (x : ℕ) (marked : g x ≡ true) (gone : f x ≡ false) (others : (t : ℕ) → (x ≡ t → ⊥) → g t ≡ f t) where
  pub word-less : (s n : ℕ) → s ≤ x → x < s + n → word_of g s n ≡ word_of f s n + 2 ^ (x - s)
  unfolding word_of
  word-less s zero l h = absurd (omega arith)
  word-less s (suc n) l h = split s x
      (λ b.
      let e : x - s ≡ suc (x - (s + 1)) = omega arith in
      let low : digit (g s) ≡ digit (f s) = ap digit (others s (λ d. omega arith)) in
      let high : word_of g (s + 1) n ≡ word_of f (s + 1) n + 2 ^ (x - (s + 1)) = word-less (s + 1) n (omega arith) (omega arith) in
      rw e (omega arith))
      (λ b.
      let e : s ≡ x = omega arith in
      let d : x - s ≡ 0 = omega arith in
      let has : digit (g s) ≡ 1 = ap (λ (t : ℕ). digit (g t)) e ∙ ap digit marked in
      let none : digit (f s) ≡ 0 = ap (λ (t : ℕ). digit (f t)) e ∙ ap digit gone in
      let high : word_of g (s + 1) n ≡ word_of f (s + 1) n = word_same g f (s + 1) n (λ k j. others (s + 1 + k) (λ q. omega arith)) in
      rw d (omega arith))
