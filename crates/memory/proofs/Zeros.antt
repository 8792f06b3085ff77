-- Comparing bytes with zeros: the test is true exactly where zeros stand, and the test by words of eight, and then by the bytes that are left.
-- Past its end every element of a list is 0, so the test is the one against the empty list.
use mathlib.Core.Path.{◌≡◌, refl, sym, ap, ap₂, ◌∙◌}
use Prim.Native.Nat.{ℕ, zero, suc, ◌+◌, ◌-◌, ◌*◌, ◌≤◌}
use native.Mathlib.Omega.{arith}
use native.Mathlib.Nat.{add-zero}
use mathlib.Core.Bool.{Bool, true, false, ◌&&◌}
use mathlib.Core.List.{List, [], ◌∷◌}
use lib.ListN.{length, get_or, take, drop, replicate}
use lib.Seq.{get_or-drop, get_or-take}
use lib.Dec.{eqb}
use borrow.Author.Tests.{eqb-true, eq-eqb}
use Rattle.std.specs.List.{list_all}
use Rattle.memory.specs.Choice.{pick}
use Rattle.memory.specs.Bytes.{part, Small, Has}
use Rattle.memory.specs.Numbers.{number}
use Rattle.memory.specs.Compare.{same_at, zeros_at}
use Rattle.memory.proofs.Order.{either, pick_true, pick-false, and-pick, not-both}
use Rattle.memory.proofs.Places.{length_part}
use Rattle.memory.proofs.Sameness.{same_at-split, number-same_at, same_at-number}

-- ---- what stands there

pub zeros-has : (n : ℕ) (l : List ℕ) (at : ℕ) → at + n ≤ length l → zeros_at n l at ≡ true → Has l at (replicate n 0)
unfolding zeros_at
zeros-has zero l at h e = tt
zeros-has (suc n) l at h e =
    either (eqb (get_or l at 0) 0)
    (λ t. (
      omega arith,
      eqb-true (get_or l at 0) 0 t,
      zeros-has n l (at + 1) (omega arith) (sym (pick_true (eqb (get_or l at 0) 0) (zeros_at n l (at + 1)) false t) ∙ e),
    ))
    (λ t. not-both false (sym (pick-false (eqb (get_or l at 0) 0) (zeros_at n l (at + 1)) false t) ∙ e) refl)

pub has-zeros : (n : ℕ) (l : List ℕ) (at : ℕ) → Has l at (replicate n 0) → zeros_at n l at ≡ true
unfolding zeros_at
has-zeros zero l at h = refl
has-zeros (suc n) l at h =
    pick_true (eqb (get_or l at 0) 0) (zeros_at n l (at + 1)) false (eq-eqb (get_or l at 0) 0 h.1) ∙ has-zeros n l (at + 1) h.2

-- ---- words of eight, and then the bytes that are left

zeros-same : (n : ℕ) (l : List ℕ) (at j : ℕ) → zeros_at n l at ≡ same_at n l at [] j
unfolding zeros_at same_at
zeros-same zero l at j = refl
zeros-same (suc n) l at j = ap (λ (t : Bool). pick (eqb (get_or l at 0) 0) t false) (zeros-same n l (at + 1) (j + 1))

number-none : (n j : ℕ) → number n [] j ≡ 0
unfolding number
number-none zero j = refl
number-none (suc n) j = omega (arith, number-none n (j + 1))

zeros-split : (n m : ℕ) (l : List ℕ) (at : ℕ) → zeros_at (n + m) l at ≡ pick (zeros_at n l at) (zeros_at m l (at + n)) false
zeros-split n m l at =
    zeros-same (n + m) l at 0
    ∙ same_at-split n m l at [] 0
    ∙ sym (ap₂ (λ (p q : Bool). pick p q false) (zeros-same n l at 0) (zeros-same m l (at + n) (0 + n)))

-- from a place on, and in a part
zeros-drop : (n i : ℕ) (l : List ℕ) (j : ℕ) → zeros_at n (drop i l) j ≡ zeros_at n l (i + j)
unfolding zeros_at
zeros-drop zero i l j = refl
zeros-drop (suc n) i l j =
    let e : i + (j + 1) ≡ i + j + 1 = omega arith in
    ap₂ (λ (v : ℕ) (t : Bool). pick (eqb v 0) t false) (get_or-drop i l j 0) (zeros-drop n i l (j + 1) ∙ ap (zeros_at n l) e)

zeros-take : (n m : ℕ) (l : List ℕ) (j : ℕ) → j + n ≤ m → zeros_at n (take m l) j ≡ zeros_at n l j
unfolding zeros_at
zeros-take zero m l j h = refl
zeros-take (suc n) m l j h =
    ap₂ (λ (v : ℕ) (t : Bool). pick (eqb v 0) t false) (get_or-take m l j 0 (omega arith)) (zeros-take n m l (j + 1) (omega arith))

zeros-part : (n : ℕ) (l : List ℕ) (at : ℕ) → zeros_at n (part l at n) 0 ≡ zeros_at n l at
zeros-part n l at = zeros-take n n (drop at l) 0 (omega arith) ∙ zeros-drop n at l 0 ∙ ap (zeros_at n l) (add-zero at)

-- the library's test of a byte
abbrev pub zero_byte : ℕ → Bool
zero_byte v = eqb v 0

all-bytes : (xs : List ℕ) → list_all zero_byte xs ≡ zeros_at (length xs) xs 0
unfolding zeros_at
all-bytes [] = refl
all-bytes (x ∷ xs) =
    and-pick (eqb x 0) (list_all zero_byte xs)
    ∙ ap (λ (t : Bool). pick (eqb x 0) t false) (all-bytes xs ∙ zeros-drop (length xs) 1 (x ∷ xs) 0)

-- the bytes of a part, by that test
pub zeros-rest : (l : List ℕ) (at n : ℕ) → at + n ≤ length l → list_all zero_byte (part l at n) ≡ zeros_at n l at
zeros-rest l at n h =
    all-bytes (part l at n)
    ∙ ap (λ (k : ℕ). zeros_at k (part l at n) 0) (length_part l at n h)
    ∙ zeros-part n l at

module _ (l : List ℕ) (at : ℕ) (s : Small l) where
  -- a word is 0 exactly where its bytes are
  word-zeros : (i : ℕ) → number 8 l i ≡ 0 → zeros_at 8 l i ≡ true
  word-zeros i e = zeros-same 8 l i 0 ∙ number-same_at 8 l i [] 0 s (λ k. omega arith) (e ∙ sym (number-none 8 0))

  word-other : (i : ℕ) → (number 8 l i ≡ 0 → ⊥) → zeros_at 8 l i ≡ false
  word-other i f =
      zeros-same 8 l i 0
      ∙ either (same_at 8 l i [] 0) (λ t. absurd (f (same_at-number 8 l i [] 0 t ∙ number-none 8 0))) (λ u. u)

  word-test : (i : ℕ) → eqb (number 8 l i) 0 ≡ zeros_at 8 l i
  word-test i =
      either (eqb (number 8 l i) 0)
      (λ t. t ∙ sym (word-zeros i (eqb-true (number 8 l i) 0 t)))
      (λ f. f ∙ sym (word-other i (λ e. not-both (eqb (number 8 l i) 0) (eq-eqb (number 8 l i) 0 e) f)))

  -- k words, and the next
  pub next-word : (k : ℕ) → (zeros_at (8 * k) l at && eqb (number 8 l (at + 8 * k)) 0) ≡ zeros_at (8 * (k + 1)) l at
  next-word k =
      let n : 8 * k + 8 ≡ 8 * (k + 1) = omega arith in
      and-pick (zeros_at (8 * k) l at) (eqb (number 8 l (at + 8 * k)) 0)
      ∙ ap (λ (t : Bool). pick (zeros_at (8 * k) l at) t false) (word-test (at + 8 * k))
      ∙ sym (zeros-split (8 * k) 8 l at)
      ∙ ap (λ (n : ℕ). zeros_at n l at) n

  -- k words, and the bytes that are left
  module _ (k n : ℕ) (h : 8 * k ≤ n) where
    parted : zeros_at n l at ≡ pick (zeros_at (8 * k) l at) (zeros_at (n - 8 * k) l (at + 8 * k)) false
    parted =
        let e : n ≡ 8 * k + (n - 8 * k) = omega arith in
        ap (λ (n : ℕ). zeros_at n l at) e ∙ zeros-split (8 * k) (n - 8 * k) l at

    pub last-bytes : at + n ≤ length l → zeros_at (8 * k) l at ≡ true → list_all zero_byte (part l (at + 8 * k) (n - 8 * k)) ≡ zeros_at n l at
    last-bytes b t =
        zeros-rest l (at + 8 * k) (n - 8 * k) (omega arith)
        ∙ sym (parted ∙ pick_true (zeros_at (8 * k) l at) (zeros_at (n - 8 * k) l (at + 8 * k)) false t)

    pub not-words : zeros_at (8 * k) l at ≡ false → false ≡ zeros_at n l at
    not-words f = sym (parted ∙ pick-false (zeros_at (8 * k) l at) (zeros_at (n - 8 * k) l (at + 8 * k)) false f)
