-- The turns of moving bytes: a turn stores one byte more, and the byte that it reads has not been stored over.
use mathlib.Core.Path.{◌≡◌, sym, ap, ◌∙◌}
use Prim.Native.Nat.{ℕ, zero, suc, ◌+◌, ◌-◌, ◌≤◌, ◌<◌}
use native.Mathlib.Omega.{arith}
use mathlib.Core.List.{List, [], ◌∷◌}
use lib.ListN.{length, get_or, set}
use Rattle.memory.specs.Bytes.{part, overlay, moved}
use Rattle.memory.proofs.Overlay.{overlay-before, overlay-after, overlay-append, set-overlay}
use Rattle.memory.proofs.Places.{part-cons, part-snoc, length_part}

-- down: the first i bytes have been moved
module _ (m : List ℕ) (to from n i : ℕ) (lo : to ≤ from) (hi : from + n ≤ length m) where
  pub down-more : i < n → set (moved m to from i) (to + i) (get_or (moved m to from i) (from + i) 0) ≡ moved m to from (i + 1)
  down-more h =
      let p : List ℕ = part m from i in
      let e : length p ≡ i = length_part m from i (omega arith) in
      let v : get_or (overlay m to p) (from + i) 0 ≡ get_or m (from + i) 0 = overlay-after m to p (from + i) (omega arith) in
      ap (set (overlay m to p) (to + i)) v
      ∙ ap (λ (k : ℕ). set (overlay m to p) (to + k) (get_or m (from + i) 0)) (sym e)
      ∙ sym (overlay-append m to p (get_or m (from + i) 0 ∷ []))
      ∙ ap (overlay m to) (sym (part-snoc m from i (omega arith)))

-- up: the bytes from i on have been moved
pub up_none : (m : List ℕ) (to from n : ℕ) → m ≡ moved m (to + n) (from + n) (n - n)
up_none m to from n = let e : n - n ≡ zero = omega arith in ap (λ (k : ℕ). overlay m (to + n) (part m (from + n) k)) (sym e)

module _ (m : List ℕ) (to from n : ℕ) (lo : from ≤ to) (hi : to + n ≤ length m) where
  up_suc : (i : ℕ) → i < n
      → set (moved m (to + (i + 1)) (from + (i + 1)) (n - (i + 1))) (to + i) (get_or (moved m (to + (i + 1)) (from + (i + 1)) (n - (i + 1))) (from + i) 0)
      ≡ moved m (to + i) (from + i) (n - i)
  up_suc i l =
      let p : List ℕ = part m (from + (i + 1)) (n - (i + 1)) in
      let f : n - i ≡ suc (n - (i + 1)) = omega arith in
      let g : from + i + 1 ≡ from + (i + 1) = omega arith in
      let h : to + (i + 1) ≡ to + i + 1 = omega arith in
      ap (set (overlay m (to + (i + 1)) p) (to + i)) (overlay-before m (to + (i + 1)) p (from + i) (omega arith))
      ∙ sym (set-overlay m (to + (i + 1)) p (to + i) (get_or m (from + i) 0) (omega arith))
      ∙ ap (λ (k : ℕ). overlay (set m (to + i) (get_or m (from + i) 0)) k p) h
      ∙ sym (ap (overlay m (to + i)) (ap (part m (from + i)) f ∙ part-cons m (from + i) (n - (i + 1)) (omega arith)
      ∙ ap (λ (k : ℕ). get_or m (from + i) 0 ∷ part m k (n - (i + 1))) g))

  pub up_more : (i : ℕ) → 0 < i → i ≤ n
      → set (moved m (to + i) (from + i) (n - i)) (to + (i - 1)) (get_or (moved m (to + i) (from + i) (n - i)) (from + (i - 1)) 0)
      ≡ moved m (to + (i - 1)) (from + (i - 1)) (n - (i - 1))
  up_more i p l =
      let e : i - 1 + 1 ≡ i = omega arith in
      rw e at (up_suc (i - 1) (omega arith))

pub up_done : (m : List ℕ) (to from n i : ℕ) → i ≤ 0 → moved m (to + i) (from + i) (n - i) ≡ moved m to from n
up_done m to from n i h =
    let a : to + i ≡ to = omega arith in
    let b : from + i ≡ from = omega arith in
    let c : n - i ≡ n = omega arith in
    λ k. moved m (a k) (b k) (c k)
