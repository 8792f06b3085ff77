-- At most 16 bytes compared by the words at their ends, which together are all of them. By the law of two words, with the width that the length gives.
use mathlib.Core.Path.{◌≡◌, refl, sym, ap, ap₂, ◌∙◌}
use mathlib.Core.Bool.{Bool, true, false, ◌&&◌}
use Prim.Native.Nat.{ℕ, ◌+◌, ◌-◌, ◌≤◌, ◌<◌}
use native.Mathlib.Nat.{zero-add}
use native.Mathlib.Omega.{arith}
use mathlib.Core.List.{List}
use lib.ListN.{length, get_or}
use lib.Dec.{eqb, leb}
use borrow.Author.Tests.{eqb-true, eq-eqb, leb-true, leb-false, le-leb, lt-leb}
use Rattle.std.proofs.lemmas.Bool.{agree_below, agree_below_at}
use Rattle.memory.specs.Choice.{pick}
use Rattle.memory.specs.Bytes.{part, Small}
use Rattle.memory.specs.Numbers.{number}
use Rattle.memory.specs.Compare.{same_at, same}
use Rattle.memory.proofs.Order.{either, pick-both, pick_true, pick-false, and-pick, not-both}
use Rattle.memory.proofs.Places.{part-all}
use Rattle.memory.proofs.Ends.{ends-first, ends_last, ends-both}
use Rattle.static_search.specs.Ends.{width_of, ends_of}
use Rattle.static_search.specs.declared.ends.Ends.{Ends}
use Rattle.static_search.proofs.Testing.{same-part}

-- ---- the width of the words

module _ (n : ℕ) where
  pub width-eight : 8 ≤ n → width_of n ≡ 8
  unfolding width_of
  width-eight h = pick_true (leb 8 n) 8 (pick (leb 4 n) 4 (pick (leb 2 n) 2 n)) (le-leb 8 n h)

  below-eight : n < 8 → width_of n ≡ pick (leb 4 n) 4 (pick (leb 2 n) 2 n)
  unfolding width_of
  below-eight h = pick-false (leb 8 n) 8 (pick (leb 4 n) 4 (pick (leb 2 n) 2 n)) (lt-leb 8 n h)

  pub width_four : n < 8 → 4 ≤ n → width_of n ≡ 4
  width_four h k = below-eight h ∙ pick_true (leb 4 n) 4 (pick (leb 2 n) 2 n) (le-leb 4 n k)

  below-four : n < 4 → width_of n ≡ pick (leb 2 n) 2 n
  below-four h = below-eight (omega arith) ∙ pick-false (leb 4 n) 4 (pick (leb 2 n) 2 n) (lt-leb 4 n h)

  pub width_two : n < 4 → 2 ≤ n → width_of n ≡ 2
  width_two h k = below-four h ∙ pick_true (leb 2 n) 2 n (le-leb 2 n k)

  pub width_few : n < 2 → width_of n ≡ n
  width_few h = below-four (omega arith) ∙ pick-false (leb 2 n) 2 n (lt-leb 2 n h)

-- words of w bytes stand within n bytes, and two of them take up to 16
abbrev Covers : ℕ → ℕ → Type 0
Covers n w = (w ≤ n) × (n ≤ 16 → n ≤ w + w)

width-covers : (n : ℕ) → Covers n (width_of n)
unfolding width_of
width-covers n =
    pick-both (Covers n) (leb 8 n) 8 (pick (leb 4 n) 4 (pick (leb 2 n) 2 n))
    (λ t. (leb-true 8 n t, λ h. omega arith))
    (λ f. let a = leb-false 8 n f in
    pick-both (Covers n) (leb 4 n) 4 (pick (leb 2 n) 2 n)
    (λ t. (leb-true 4 n t, λ h. omega arith))
    (λ g. let b = leb-false 4 n g in
    pick-both (Covers n) (leb 2 n) 2 n
    (λ t. (leb-true 2 n t, λ h. omega arith))
    (λ k. (omega arith, λ h. omega arith))))

-- ---- the ends by their words

abbrev ends : ℕ → ℕ → Ends
ends first last = record { first = first; last = last }

-- a table of ends says these of each number below n, by computing
pub table-says : (table : List (ℕ × ℕ)) (says : ℕ → Ends) (n : ℕ)
    → agree_below (λ k. eqb (get_or table k (0, 0)).0 (says k).first) (λ _. true) n ≡ true
    → agree_below (λ k. eqb (get_or table k (0, 0)).1 (says k).last) (λ _. true) n ≡ true
    → (k : ℕ) → k < n → ends (get_or table k (0, 0)).0 (get_or table k (0, 0)).1 ≡ says k
table-says table says n first last k h =
    ap₂ ends
    (eqb-true (get_or table k (0, 0)).0 (says k).first (agree_below_at (λ k. eqb (get_or table k (0, 0)).0 (says k).first) (λ _. true) n k first h))
    (eqb-true (get_or table k (0, 0)).1 (says k).last (agree_below_at (λ k. eqb (get_or table k (0, 0)).1 (says k).last) (λ _. true) n k last h))

pub ends-are : (b : List ℕ) (w : ℕ) {first last : ℕ} → width_of (length b) ≡ w → first ≡ number w b 0 → last ≡ number w b (length b - w)
    → ends first last ≡ ends_of b
unfolding ends_of
ends-are b w e x y = ap₂ ends (x ∙ ap (λ (k : ℕ). number k b 0) (sym e)) (y ∙ ap (λ (k : ℕ). number k b (length b - k)) (sym e))

number-one : (b : List ℕ) (at : ℕ) → get_or b at 0 ≡ number 1 b at
unfolding number
number-one b at = omega arith

pub ends-one : (b : List ℕ) → length b ≡ 1 → ends (get_or b 0 0) (get_or b 0 0) ≡ ends_of b
ends-one b e =
    let z : 0 ≡ length b - 1 = omega arith in
    ends-are b 1 (width_few (length b) (omega arith) ∙ e) (number-one b 0) (number-one b 0 ∙ ap (number 1 b) z)

pub ends-none : (b : List ℕ) → length b ≡ 0 → ends 0 0 ≡ ends_of b
unfolding number
ends-none b e = ends-are b 0 (width_few (length b) (omega arith) ∙ e) refl refl

-- ---- comparing

-- do both ends agree, as the derived test has it?
abbrev pub agree : Ends → Ends → Bool
agree x y = eqb x.first y.first && eqb x.last y.last

-- two tests, of which each can fail
two-tests : (x y u v : ℕ) (r : Bool) → ((x ≡ y → ⊥) → r ≡ false) → ((u ≡ v → ⊥) → r ≡ false) → (x ≡ y → u ≡ v → r ≡ true)
    → pick (eqb x y) (eqb u v) false ≡ r
two-tests x y u v r first last both =
    either (eqb x y)
    (λ f. pick_true (eqb x y) (eqb u v) false f
    ∙ either (eqb u v) (λ g. g ∙ sym (both (eqb-true x y f) (eqb-true u v g))) (λ g. g ∙ sym (last (λ e. not-both (eqb u v) (eq-eqb u v e) g))))
    (λ f. pick-false (eqb x y) (eqb u v) false f ∙ sym (first (λ e. not-both (eqb x y) (eq-eqb x y e) f)))

module _ (a b : List ℕ) (s : Small a) (t : Small b) where
  by-words : (n w : ℕ) → w ≤ n → n ≤ w + w
      → pick (eqb (number w a 0) (number w b 0)) (eqb (number w a (n - w)) (number w b (n - w))) false ≡ same_at n a 0 b 0
  by-words n w lo hi =
      let at : number w a (0 + (n - w)) ≡ number w a (n - w) = ap (number w a) (zero-add (n - w)) in
      two-tests (number w a 0) (number w b 0) (number w a (n - w)) (number w b (n - w)) (same_at n a 0 b 0)
      (ends-first n w a 0 b lo)
      (λ f. ends_last n w a 0 b lo (λ e. f (sym at ∙ e)))
      (λ e d. ends-both n w a 0 b lo hi s t e (at ∙ d))

  module _ (l : length a ≡ length b) (h : length b ≤ 16) where
    ends-decide : agree (ends_of a) (ends_of b) ≡ same a b
    unfolding ends_of
    ends-decide =
        let v : ℕ = width_of (length a) in
        let w : ℕ = width_of (length b) in
        let c = width-covers (length b) in
        and-pick (eqb (number v a 0) (number w b 0)) (eqb (number v a (length a - v)) (number w b (length b - w)))
        ∙ ap (λ (n : ℕ). pick (eqb (number (width_of n) a 0) (number w b 0)) (eqb (number (width_of n) a (n - width_of n)) (number w b (length b - w))) false) l
        ∙ by-words (length b) w c.0 (c.1 h)
        ∙ same-part a 0 (length b) a b (ap (part a 0) (sym l) ∙ part-all a) (omega arith) refl

    -- the same, of ends that a function has
    pub ends-same : {x y : Ends} → x ≡ ends_of a → y ≡ ends_of b → agree x y ≡ same a b
    ends-same e d = ap₂ agree e d ∙ ends-decide
