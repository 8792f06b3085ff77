-- Comparing bytes: the test is true exactly where the parts are equal, and the turns of comparing by words and by bytes.
-- By induction over the count, and over the lists.
use mathlib.Core.Path.{◌≡◌, refl, sym, ap, ap₂, ◌∙◌}
use Prim.Native.Nat.{ℕ, zero, suc, ◌+◌, ◌-◌, ◌≤◌, ◌<◌}
use native.Mathlib.Omega.{arith}
use native.Mathlib.Nat.{add-zero, zero-add, suc-add}
use mathlib.Core.Bool.{Bool, true, false}
use mathlib.Core.List.{List, [], ◌∷◌}
use lib.ListN.{length, get_or}
use lib.Dec.{eqb}
use lib.Pointwise.{pointwise}
use borrow.Author.Tests.{eqb-true, eq-eqb, ne_eqb}
use Rattle.memory.specs.Choice.{pick}
use Rattle.memory.specs.Bytes.{part, Small}
use Rattle.memory.specs.Numbers.{number}
use Rattle.memory.specs.Compare.{same_at, same}
use Rattle.memory.proofs.Order.{either, pick_true, pick-false, and-pick, not-both}
use Rattle.memory.proofs.Places.{part-cons}

-- ---- two lists

pub same_refl : (xs : List ℕ) → same xs xs ≡ true
unfolding same
same_refl [] = refl
same_refl (x ∷ xs) = pick_true (eqb x x) (same xs xs) false (eq-eqb x x refl) ∙ same_refl xs

pub eq-same : (xs ys : List ℕ) → xs ≡ ys → same xs ys ≡ true
eq-same xs ys e = ap (same xs) (sym e) ∙ same_refl xs

pub same-eq : (xs ys : List ℕ) → same xs ys ≡ true → xs ≡ ys
unfolding same
same-eq [] [] e = refl
same-eq [] (y ∷ ys) e = not-both false e refl
same-eq (x ∷ xs) [] e = not-both false e refl
same-eq (x ∷ xs) (y ∷ ys) e =
    either (eqb x y)
    (λ t. ap₂ (λ (v : ℕ) (vs : List ℕ). v ∷ vs) (eqb-true x y t) (same-eq xs ys (sym (pick_true (eqb x y) (same xs ys) false t) ∙ e)))
    (λ t. not-both false (sym (pick-false (eqb x y) (same xs ys) false t) ∙ e) refl)

pub same-differ : (xs ys : List ℕ) → same xs ys ≡ false → xs ≡ ys → ⊥
same-differ xs ys e d = not-both (same xs ys) (eq-same xs ys d) e

pub differ_same : (xs ys : List ℕ) → (xs ≡ ys → ⊥) → same xs ys ≡ false
differ_same xs ys f = either (same xs ys) (λ t. absurd (f (same-eq xs ys t))) (λ t. t)

-- lists of other lengths differ
pub length-same : (xs ys : List ℕ) → (length xs ≡ length ys → ⊥) → same xs ys ≡ false
length-same xs ys f = differ_same xs ys (λ e. f (ap length e))

-- the library's test
pointwise-same : (xs ys : List ℕ) → pointwise eqb xs ys ≡ same xs ys
unfolding same
pointwise-same [] [] = refl
pointwise-same [] (y ∷ ys) = refl
pointwise-same (x ∷ xs) [] = refl
pointwise-same (x ∷ xs) (y ∷ ys) = and-pick (eqb x y) (pointwise eqb xs ys) ∙ ap (λ (t : Bool). pick (eqb x y) t false) (pointwise-same xs ys)

-- ---- two parts

pub same_at-same : (n : ℕ) (a : List ℕ) (i : ℕ) (b : List ℕ) (j : ℕ) → i + n ≤ length a → j + n ≤ length b
    → same_at n a i b j ≡ same (part a i n) (part b j n)
unfolding same_at same
same_at-same zero a i b j h k = refl
same_at-same (suc n) a i b j h k =
    rw (part-cons a i n (omega arith), part-cons b j n (omega arith))
    (ap (λ (t : Bool). pick (eqb (get_or a i 0) (get_or b j 0)) t false) (same_at-same n a (i + 1) b (j + 1) (omega arith) (omega arith)))

module _ (n : ℕ) (a : List ℕ) (i : ℕ) (b : List ℕ) (j : ℕ) (ha : i + n ≤ length a) (hb : j + n ≤ length b) where
  -- by the library's test of two lists that are the parts
  pub pointwise-parts : (xs ys : List ℕ) → xs ≡ part a i n → ys ≡ part b j n → pointwise eqb xs ys ≡ same_at n a i b j
  pointwise-parts xs ys d e = ap₂ (pointwise eqb) d e ∙ pointwise-same (part a i n) (part b j n) ∙ sym (same_at-same n a i b j ha hb)

  pub same_at-eq : same_at n a i b j ≡ true → part a i n ≡ part b j n
  same_at-eq e = same-eq (part a i n) (part b j n) (sym (same_at-same n a i b j ha hb) ∙ e)

  pub eq-same_at : part a i n ≡ part b j n → same_at n a i b j ≡ true
  eq-same_at e = same_at-same n a i b j ha hb ∙ eq-same (part a i n) (part b j n) e

  pub same_at-differ : same_at n a i b j ≡ false → part a i n ≡ part b j n → ⊥
  same_at-differ e d = not-both (same_at n a i b j) (eq-same_at d) e

  pub differ-same_at : (part a i n ≡ part b j n → ⊥) → same_at n a i b j ≡ false
  differ-same_at f = either (same_at n a i b j) (λ t. absurd (f (same_at-eq t))) (λ t. t)

-- ---- the turns: n elements compared, then the rest

pub same_at-split : (n m : ℕ) (a : List ℕ) (i : ℕ) (b : List ℕ) (j : ℕ)
    → same_at (n + m) a i b j ≡ pick (same_at n a i b j) (same_at m a (i + n) b (j + n)) false
unfolding same_at
same_at-split zero m a i b j = rw (zero-add m, add-zero i, add-zero j) refl
same_at-split (suc n) m a i b j =
    let d : i + 1 + n ≡ i + suc n = omega arith in
    let e : j + 1 + n ≡ j + suc n = omega arith in
    rw (suc-add n m)
    (ap (λ (t : Bool). pick (eqb (get_or a i 0) (get_or b j 0)) t false) (rw (d, e) at (same_at-split n m a (i + 1) b (j + 1)))
    ∙ pick-pick (eqb (get_or a i 0) (get_or b j 0)) (same_at n a (i + 1) b (j + 1)) (same_at m a (i + suc n) b (j + suc n)))
  where
    pick-pick : (p q r : Bool) → pick p (pick q r false) false ≡ pick (pick p q false) r false
    pick-pick true q r = refl
    pick-pick false q r = refl

-- equal numbers of bytes, by the test
pub number-same_at : (n : ℕ) (a : List ℕ) (i : ℕ) (b : List ℕ) (j : ℕ) → Small a → Small b → number n a i ≡ number n b j → same_at n a i b j ≡ true
unfolding number same_at
number-same_at zero a i b j s t e = refl
number-same_at (suc n) a i b j s t e =
    let u = s i in
    let v = t j in
    let x : get_or a i 0 ≡ get_or b j 0 = omega arith in
    let y : number n a (i + 1) ≡ number n b (j + 1) = omega arith in
    pick_true (eqb (get_or a i 0) (get_or b j 0)) (same_at n a (i + 1) b (j + 1)) false (eq-eqb (get_or a i 0) (get_or b j 0) x)
    ∙ number-same_at n a (i + 1) b (j + 1) s t y

pub same_at-number : (n : ℕ) (a : List ℕ) (i : ℕ) (b : List ℕ) (j : ℕ) → same_at n a i b j ≡ true → number n a i ≡ number n b j
unfolding number same_at
same_at-number zero a i b j e = refl
same_at-number (suc n) a i b j e =
    either (eqb (get_or a i 0) (get_or b j 0))
    (λ t. let x = eqb-true (get_or a i 0) (get_or b j 0) t in
    let y = same_at-number n a (i + 1) b (j + 1) (sym (pick_true (eqb (get_or a i 0) (get_or b j 0)) (same_at n a (i + 1) b (j + 1)) false t) ∙ e) in
    omega arith)
    (λ t. not-both false (sym (pick-false (eqb (get_or a i 0) (get_or b j 0)) (same_at n a (i + 1) b (j + 1)) false t) ∙ e) refl)

-- k of the n elements are the same, and w more are compared
module _ (n k w : ℕ) (a : List ℕ) (i : ℕ) (b : List ℕ) (j : ℕ) (h : k + w ≤ n) where
  turn : same_at (n - k) a (i + k) b (j + k) ≡ pick (same_at w a (i + k) b (j + k)) (same_at (n - (k + w)) a (i + (k + w)) b (j + (k + w))) false
  turn =
      let e : n - k ≡ w + (n - (k + w)) = omega arith in
      let d : i + k + w ≡ i + (k + w) = omega arith in
      let f : j + k + w ≡ j + (k + w) = omega arith in
      ap (λ (x : ℕ). same_at x a (i + k) b (j + k)) e ∙ (rw (d, f) at (same_at-split w (n - (k + w)) a (i + k) b (j + k)))

  turn-same : same_at w a (i + k) b (j + k) ≡ true
      → same_at (n - k) a (i + k) b (j + k) ≡ same_at (n - (k + w)) a (i + (k + w)) b (j + (k + w))
  turn-same e = turn ∙ pick_true (same_at w a (i + k) b (j + k)) (same_at (n - (k + w)) a (i + (k + w)) b (j + (k + w))) false e

  turn-differ : same_at w a (i + k) b (j + k) ≡ false → same_at (n - k) a (i + k) b (j + k) ≡ false
  turn-differ e = turn ∙ pick-false (same_at w a (i + k) b (j + k)) (same_at (n - (k + w)) a (i + (k + w)) b (j + (k + w))) false e

  pub word-equal : Small a → Small b → number w a (i + k) ≡ number w b (j + k)
      → same_at (n - k) a (i + k) b (j + k) ≡ same_at (n - (k + w)) a (i + (k + w)) b (j + (k + w))
  word-equal s t e = turn-same (number-same_at w a (i + k) b (j + k) s t e)

  pub word-other : (number w a (i + k) ≡ number w b (j + k) → ⊥) → same_at (n - k) a (i + k) b (j + k) ≡ false
  word-other f = turn-differ (either (same_at w a (i + k) b (j + k)) (λ t. absurd (f (same_at-number w a (i + k) b (j + k) t))) (λ t. t))

module _ (n k : ℕ) (a : List ℕ) (i : ℕ) (b : List ℕ) (j : ℕ) (h : k < n) where
  pub byte-equal : get_or a (i + k) 0 ≡ get_or b (j + k) 0
      → same_at (n - k) a (i + k) b (j + k) ≡ same_at (n - (k + 1)) a (i + (k + 1)) b (j + (k + 1))
  unfolding same_at
  byte-equal e =
      turn-same n k 1 a i b j (omega arith)
      (pick_true (eqb (get_or a (i + k) 0) (get_or b (j + k) 0)) true false (eq-eqb (get_or a (i + k) 0) (get_or b (j + k) 0) e))

  pub byte-other : (get_or a (i + k) 0 ≡ get_or b (j + k) 0 → ⊥) → same_at (n - k) a (i + k) b (j + k) ≡ false
  unfolding same_at
  byte-other f =
      turn-differ n k 1 a i b j (omega arith)
      (pick-false (eqb (get_or a (i + k) 0) (get_or b (j + k) 0)) true false (ne_eqb (get_or a (i + k) 0) (get_or b (j + k) 0) f))

-- before the first turn, and after the last
pub turns-none : (n : ℕ) (a : List ℕ) (i : ℕ) (b : List ℕ) (j : ℕ) → same_at n a i b j ≡ same_at (n - 0) a (i + 0) b (j + 0)
turns-none n a i b j =
    let e : n - 0 ≡ n = omega arith in
    rw (e, add-zero i, add-zero j) refl

pub turns-done : (n k : ℕ) (a : List ℕ) (i : ℕ) (b : List ℕ) (j : ℕ) → n ≤ k → same_at (n - k) a (i + k) b (j + k) ≡ true
unfolding same_at
turns-done n k a i b j h =
    let e : n - k ≡ 0 = omega arith in
    ap (λ (x : ℕ). same_at x a (i + k) b (j + k)) e
