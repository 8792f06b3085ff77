-- A run of bytes stored from the front in words, each of which may overlap the one before it.
use mathlib.Core.Path.{◌≡◌, refl, sym, ap, ◌∙◌}
use Prim.Native.Nat.{ℕ, ◌+◌, ◌-◌, ◌/◌, ◌≤◌, ◌<◌}
use native.Mathlib.Omega.{arith}
use native.Mathlib.Nat.{zero-add, add-zero}
use mathlib.Core.List.{List, [], ◌∷◌, ◌++◌}
use lib.ListN.{length, get_or, set}
use Rattle.memory.specs.Bytes.{part, overlay}
use Rattle.memory.proofs.Overlay.{overlay-append, overlay-overlay}
use Rattle.memory.proofs.Places.{length_part, part-cons, part_none, part-all, part-split}

-- what stands in front of a run may be stored before it
again : (l : List ℕ) (at : ℕ) (xs ys : List ℕ) → overlay (overlay l at xs) at (xs ++ ys) ≡ overlay l at (xs ++ ys)
again l at xs ys =
    overlay-append (overlay l at xs) at xs ys
    ∙ ap (λ (m : List ℕ). overlay m (at + length xs) ys) (overlay-overlay l at xs xs refl) ∙ sym (overlay-append l at xs ys)

module _ (l s : List ℕ) (at : ℕ) where
  next : (j k : ℕ) → j ≤ length s → overlay (overlay l at (part s 0 j)) (at + j) (part s j k) ≡ overlay l at (part s 0 (j + k))
  next j k h =
      let n : length (part s 0 j) ≡ j = length_part s 0 j (omega arith) in
      sym
      (ap (overlay l at) (part-split s 0 j k)
      ∙ overlay-append l at (part s 0 j) (part s (0 + j) k)
      ∙ ap (λ (p : ℕ). overlay (overlay l at (part s 0 j)) (at + p) (part s (0 + j) k)) n
      ∙ ap (λ (p : ℕ). overlay (overlay l at (part s 0 j)) (at + j) (part s p k)) (zero-add j))

  -- the first i bytes are stored, and now the k at the place j
  pub covers : (i j k : ℕ) → j ≤ i → i ≤ j + k → j + k ≤ length s
      → overlay (overlay l at (part s 0 i)) (at + j) (part s j k) ≡ overlay l at (part s 0 (j + k))
  covers i j k lo hi h =
      let L : List ℕ = overlay l at (part s 0 j) in
      let e : i ≡ j + (i - j) = omega arith in
      let d : k ≡ (i - j) + (k - (i - j)) = omega arith in
      let p : part s j k ≡ part s j (i - j) ++ part s (j + (i - j)) (k - (i - j)) =
      ap (part s j) d ∙ part-split s j (i - j) (k - (i - j))
      in
      let q : overlay l at (part s 0 i) ≡ overlay L (at + j) (part s j (i - j)) =
      ap (λ (n : ℕ). overlay l at (part s 0 n)) e ∙ sym (next j (i - j) (omega arith))
      in
      ap (λ (m : List ℕ). overlay m (at + j) (part s j k)) q
      ∙ ap (overlay (overlay L (at + j) (part s j (i - j))) (at + j)) p
      ∙ again L (at + j) (part s j (i - j)) (part s (j + (i - j)) (k - (i - j)))
      ∙ ap (overlay L (at + j)) (sym p)
      ∙ next j k (omega arith)

  -- nothing is stored at first, and all of it in the end
  pub covers-none : l ≡ overlay l at (part s 0 0)
  covers-none = sym (ap (overlay l at) (part_none s 0))

  pub covers-all : (n : ℕ) → n ≡ length s → overlay l at (part s 0 n) ≡ overlay l at s
  covers-all n e = ap (λ (k : ℕ). overlay l at (part s 0 k)) e ∙ ap (overlay l at) (part-all s)

  -- the last k bytes
  pub covers-last : (before out : List ℕ) (i k : ℕ) → length s - k ≤ i → i ≤ length s → k ≤ length s → before ≡ overlay l at (part s 0 i)
      → out ≡ overlay before (at + (length s - k)) (part s (length s - k) k) → out ≡ overlay l at s
  covers-last before out i k lo hi h d e =
      let j : ℕ = length s - k in
      e ∙ ap (λ (m : List ℕ). overlay m (at + j) (part s j k)) d
      ∙ covers i j k (omega arith) (omega arith) (omega arith) ∙ covers-all (j + k) (omega arith)

-- ---- short runs

pub no_bytes : (l s : List ℕ) (at : ℕ) → length s ≤ 0 → l ≡ overlay l at s
no_bytes l [] at h = refl
no_bytes l (v ∷ vs) at h = absurd (omega arith)

-- two words of k bytes: the first and the last
pub two-words : (l s first out : List ℕ) (at k : ℕ) → k ≤ length s → length s ≤ k + k → first ≡ overlay l (at + 0) (part s 0 k)
    → out ≡ overlay first (at + (length s - k)) (part s (length s - k) k) → out ≡ overlay l at s
two-words l s first out at k lo hi d e =
    covers-last l s at first out k k (omega arith) lo lo (d ∙ ap (λ (p : ℕ). overlay l p (part s 0 k)) (add-zero at)) e

byte : (l s : List ℕ) (at j : ℕ) → j < length s → set l at (get_or s j 0) ≡ overlay l at (part s j 1)
byte l s at j h = sym (ap (overlay l at) (part-cons s j 0 h ∙ ap (λ (r : List ℕ). get_or s j 0 ∷ r) (part_none s (j + 1))))

-- the first byte, the middle one and the last
pub three-bytes : (l s : List ℕ) (at middle last : ℕ) → 0 < length s → length s < 4 → middle ≡ length s / 2 → last ≡ length s - 1
    → set (set (set l at (get_or s 0 0)) (at + middle) (get_or s middle 0)) (at + last) (get_or s last 0) ≡ overlay l at s
three-bytes l s at middle last lo hi m e =
    ap (λ (o : List ℕ). set (set o (at + middle) (get_or s middle 0)) (at + last) (get_or s last 0)) (byte l s at 0 lo)
    ∙ ap (λ (o : List ℕ). set o (at + last) (get_or s last 0))
    (byte (overlay l at (part s 0 1)) s (at + middle) middle (omega arith) ∙ covers l s at 1 middle 1 (omega arith) (omega arith) (omega arith))
    ∙ byte (overlay l at (part s 0 (middle + 1))) s (at + last) last (omega arith)
    ∙ covers l s at (middle + 1) last 1 (omega arith) (omega arith) (omega arith)
    ∙ covers-all l s at (last + 1) (omega arith)
