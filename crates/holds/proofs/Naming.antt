-- The named streams that are marked, counted, and the lowest of them: those below the horizon, then the listed ones.
-- By induction over the streams from the horizon on: each listed stream is met once, since they ascend, and no other of these is named.
use mathlib.Core.Path.{◌≡◌, refl, sym, ap, ap₂, ◌∙◌}
use Prim.Native.Nat.{ℕ, zero, suc, ◌+◌, ◌-◌, ◌≤◌, ◌<◌}
use native.Mathlib.Omega.{arith}
use native.Mathlib.Nat.{zero-add}
use mathlib.Core.Bool.{Bool, true, false, ◌&&◌}
use mathlib.Core.List.{List, [], ◌∷◌}
use borrow.Author.Tests.{lt-ltb, le-ltb, eq-eqb, ne_eqb}
use Rattle.memory.specs.Choice.{pick}
use Rattle.memory.proofs.Order.{split, pick_true, pick-false}
use Rattle.marks.specs.Marks.{count_from, lowest_from}
use Rattle.marks.proofs.Counting.{count_same, count-split, lowest-same, lowest-past, lowest-found, lowest-le}
use Rattle.stream_lists.specs.StreamList.{StreamList, Fits, listed, names}
use Rattle.instructions.specs.Instruction.{FineList}
use Rattle.holds.specs.Hold.{listed_count, listed_lowest, named_marked}

-- ---- which streams are listed

-- the listed streams ascend from s on; s itself may be one
abbrev From : ℕ → List ℕ → Type 0
From s [] = Unit {0}
From s (x ∷ xs) = (s ≤ x) × (x ≤ 4095) × Fits x xs

-- from s on, f holds of the listed streams that g holds of, and of no other
abbrev Picks : (g f : ℕ → Bool) → ℕ → List ℕ → Type 0
Picks g f s xs = (t : ℕ) → s ≤ t → f t ≡ (listed xs t && g t)

from-fits : (last s : ℕ) (xs : List ℕ) → s ≤ last + 1 → Fits last xs → From s xs
from-fits last s [] h f = tt
from-fits last s (x ∷ xs) h f = (omega (arith, f.0), f.1, f.2)

listed-other : (x : ℕ) (xs : List ℕ) (s : ℕ) → (s ≡ x → ⊥) → listed (x ∷ xs) s ≡ listed xs s
unfolding listed
listed-other x xs s h = pick-false _ true (listed xs s) (ne_eqb s x h)

listed_here : (x : ℕ) (xs : List ℕ) (s : ℕ) → s ≡ x → listed (x ∷ xs) s ≡ true
unfolding listed
listed_here x xs s h = pick_true _ true (listed xs s) (eq-eqb s x h)

not_listed : (s : ℕ) (xs : List ℕ) → From (s + 1) xs → listed xs s ≡ false
unfolding listed
not_listed s [] f = refl
not_listed s (x ∷ xs) f =
    let l = f.0 in
    listed-other x xs s (λ e. omega arith) ∙ not_listed s xs (from-fits x (s + 1) xs (omega arith) f.2)

-- ---- a run over the streams, one after the other, in which those that are not marked do not count: it comes to a run over the listed ones

module _ (g : ℕ → Bool) (step : Bool → ℕ → ℕ → ℕ) (skip : (s r : ℕ) → step false s r ≡ r)
    (run : (ℕ → Bool) → ℕ → ℕ → ℕ) (turn : (f : ℕ → Bool) (s n : ℕ) → run f s (suc n) ≡ step (f s) s (run f (s + 1) n))
    (over : List ℕ → ℕ) (stop : (f : ℕ → Bool) → run f 4096 0 ≡ over [])
    (next : (x : ℕ) (xs : List ℕ) → over (x ∷ xs) ≡ step (g x) x (over xs)) where
  -- a stream that is not marked is passed over
  pass : (f : ℕ → Bool) (s n : ℕ) → f s ≡ false → run f s (suc n) ≡ run f (s + 1) n
  pass f s n h = turn f s n ∙ ap (λ (b : Bool). step b s (run f (s + 1) n)) h ∙ skip s (run f (s + 1) n)

  run-listed : (f : ℕ → Bool) (n s : ℕ) (xs : List ℕ) → Picks g f s xs → From s xs → s + n ≡ 4096 → run f s n ≡ over xs
  run-listed f zero s [] same from e = let d : s ≡ 4096 = omega arith in ap (λ (t : ℕ). run f t 0) d ∙ stop f
  run-listed f zero s (x ∷ xs) same from e = absurd (omega (arith, from.0, from.1))
  run-listed f (suc n) s [] same from e =
      pass f s n (same s (omega arith) ∙ ap (λ (b : Bool). b && g s) (not_listed s [] tt))
      ∙ run-listed f n (s + 1) [] (λ t h. same t (omega arith)) tt (omega arith)
  run-listed f (suc n) s (x ∷ xs) same from e = split s x
      (λ h.
      let later : From (s + 1) (x ∷ xs) = (omega arith, from.1, from.2) in
      pass f s n (same s (omega arith) ∙ ap (λ (b : Bool). b && g s) (not_listed s (x ∷ xs) later))
      ∙ run-listed f n (s + 1) (x ∷ xs) (λ t l. same t (omega arith)) later (omega arith))
      (λ h.
      let d : s ≡ x = omega (arith, from.0) in
      turn f s n
      ∙ ap₂ (λ (b : Bool) (r : ℕ). step b s r)
      (same s (omega arith) ∙ ap (λ (b : Bool). b && g s) (listed_here x xs s d))
      (run-listed f n (s + 1) xs
      (λ t l. same t (omega arith) ∙ ap (λ (b : Bool). b && g t) (listed-other x xs t (λ q. omega arith)))
      (from-fits x (s + 1) xs (omega arith) from.2) (omega arith))
      ∙ ap (λ (t : ℕ). step (g t) t (over xs)) d
      ∙ sym (next x xs))

-- ---- counting is such a run, and so is looking for the lowest

module _ (g : ℕ → Bool) where
  count-listed : (f : ℕ → Bool) (n s : ℕ) (xs : List ℕ) → Picks g f s xs → From s xs → s + n ≡ 4096 → count_from f s n ≡ listed_count g xs
  unfolding count_from listed_count
  count-listed =
      run-listed g (λ b s r. pick b 1 0 + r) (λ s r. zero-add r) count_from (λ f s n. refl) (listed_count g) (λ f. refl) (λ x xs. refl)

  lowest-listed : (f : ℕ → Bool) (n s : ℕ) (xs : List ℕ) → Picks g f s xs → From s xs → s + n ≡ 4096 → lowest_from f s n ≡ listed_lowest g xs
  unfolding lowest_from listed_lowest
  lowest-listed =
      run-listed g (λ b s r. pick b s r) (λ s r. refl) lowest_from (λ f s n. refl) (listed_lowest g) (λ f. refl) (λ x xs. refl)

-- ---- a list: below the horizon every stream is named, from it on the listed ones

module _ (g : ℕ → Bool) (l : StreamList) (fine : FineList l) where
  below : (s : ℕ) → s < l.horizon → named_marked g l s ≡ g s
  unfolding named_marked names
  below s h = ap (λ (b : Bool). pick b true (listed l.streams s) && g s) (lt-ltb s l.horizon h)

  above : Picks g (named_marked g l) l.horizon l.streams
  unfolding named_marked names
  above s h = ap (λ (b : Bool). pick b true (listed l.streams s) && g s) (le-ltb s l.horizon h)

  agree : (t : ℕ) → t < l.horizon → named_marked g l (0 + t) ≡ g (0 + t)
  agree t h = below (0 + t) (omega arith)

  ascending : From l.horizon l.streams
  ascending = from-fits l.horizon l.horizon l.streams (omega arith) fine.2

  -- how many are marked: those below the horizon and the listed ones
  pub named_count : count_from (named_marked g l) 0 4096 ≡ count_from g 0 l.horizon + listed_count g l.streams
  named_count =
      let h = l.horizon in
      let f = named_marked g l in
      let e : 4096 ≡ h + (4096 - h) = omega (arith, fine.0) in
      ap (count_from f 0) e ∙ count-split f 0 h (4096 - h)
      ∙ ap₂ (λ (x y : ℕ). x + y) (count_same f g 0 h agree)
      (ap (λ (s : ℕ). count_from f s (4096 - h)) (zero-add h) ∙ count-listed g f (4096 - h) h l.streams above ascending (sym e))

  same-below : lowest_from (named_marked g l) 0 l.horizon ≡ lowest_from g 0 l.horizon
  same-below = lowest-same (named_marked g l) g 0 l.horizon agree

  -- the lowest: one below the horizon, or else a listed one
  pub lowest-below : lowest_from g 0 l.horizon < l.horizon → lowest_from (named_marked g l) 0 4096 ≡ lowest_from g 0 l.horizon
  lowest-below h =
      let e = same-below in
      lowest-found (named_marked g l) 0 l.horizon 4096 (omega arith) (omega (arith, fine.0)) ∙ e

  pub lowest-above : l.horizon ≤ lowest_from g 0 l.horizon → lowest_from (named_marked g l) 0 4096 ≡ listed_lowest g l.streams
  lowest-above k =
      let h = l.horizon in
      let f = named_marked g l in
      let e : 4096 ≡ h + (4096 - h) = omega (arith, fine.0) in
      let d = same-below in
      ap (lowest_from f 0) e ∙ lowest-past f 0 h (4096 - h) (omega (arith, lowest-le g 0 h))
      ∙ ap (λ (s : ℕ). lowest_from f s (4096 - h)) (zero-add h) ∙ lowest-listed g f (4096 - h) h l.streams above ascending (sym e)
