-- There is no stream with an unfinished named part exactly where the delete is ready.
-- By induction over the count of streams: an open part stops the search at its stream or below, and nothing else stops it.
use mathlib.Core.Path.{◌≡◌, refl, sym, ap, ap₂, ◌∙◌}
use mathlib.Core.Logic.{⊎_elim}
use Prim.Native.Nat.{ℕ, zero, suc, ◌+◌, ◌≤◌, ◌<◌}
use native.Mathlib.Omega.{arith}
use mathlib.Core.Bool.{Bool, true, false, not, ◌||◌, or-true}
use Rattle.memory.proofs.Order.{split, either, pick-both, pick-false, not-both}
use Rattle.integers.specs.declared.number.StreamNumber.{StreamNumber}
use Rattle.model.specs.Parts.{Part, nontrailer, trailer, Marks, Delete, names_part, is_open, lowest_open, streams, is_ready}
use Rattle.model_laws.proofs.Marks.{OpenPart, ready_marked, ready-or}
use Rattle.holds.specs.Hold.{lowest_case}
use Rattle.std.specs.Prelude.{Option, Some, None, is_some}
use Rattle.holds.proofs.Telling.{stream-case, no-case}

not-once : (b : Bool) → not b ≡ false → b ≡ true
not-once true e = refl
not-once false e = sym e

not-twice : (b : Bool) → not b ≡ true → b ≡ false
not-twice true e = sym e
not-twice false e = refl

module _ (marks : Marks) (d : Delete) where
  abbrev open_at : ℕ → Bool
  open_at s = is_open marks d s nontrailer || is_open marks d s trailer

  -- ---- ready: no part is open, so no stream stops the search

  none_open : is_ready marks d ≡ true → (s : ℕ) (p : Part) → s < streams → is_open marks d s p ≡ false
  unfolding is_open
  none_open r s p h = either (names_part d s p) (λ n. rw (n, ready_marked marks d s p r h n)) (λ n. rw n)

  lowest-past : (n s : ℕ) → ((t : ℕ) (p : Part) → t < s + n → is_open marks d t p ≡ false) → lowest_open marks d s n ≡ s + n
  unfolding lowest_open
  lowest-past zero s f = omega arith
  lowest-past (suc n) s f =
      pick-false (open_at s) s (lowest_open marks d (s + 1) n)
      (ap₂ (λ (a b : Bool). a || b) (f s nontrailer (omega arith)) (f s trailer (omega arith)))
      ∙ omega (arith, lowest-past n (s + 1) (λ t p h. f t p (omega arith)))

  -- ---- not ready: some part is open

  open-at : (s : ℕ) (p : Part) → is_open marks d s p ≡ true → open_at s ≡ true
  open-at s nontrailer o = ap (λ (b : Bool). b || is_open marks d s trailer) o
  open-at s trailer o = ap (λ (b : Bool). is_open marks d s nontrailer || b) o ∙ or-true (is_open marks d s nontrailer)

  lowest-stops : (n s t : ℕ) (p : Part) → s ≤ t → t < s + n → is_open marks d t p ≡ true → lowest_open marks d s n ≤ t
  unfolding lowest_open
  lowest-stops zero s t p a b o = absurd (omega arith)
  lowest-stops (suc n) s t p a b o =
      pick-both (λ (r : ℕ). r ≤ t) (open_at s) s (lowest_open marks d (s + 1) n) (λ e. a)
      (λ e. split s t
      (λ h. lowest-stops n (s + 1) t p (omega arith) (omega arith) o)
      (λ h. let z : s ≡ t = omega arith in not-both (open_at s) (open-at s p (rw z o)) e))

  part-open : (o : OpenPart marks d streams) → is_open marks d o.stream o.part ≡ true
  unfolding is_open
  part-open o = rw (o.named, o.unmarked)

  -- ---- so the stream that is found, or that none is, says which

  abbrev Found : Option StreamNumber
  Found = lowest_case (lowest_open marks d 0 streams)

  ready-case : is_ready marks d ≡ true → Found ≡ None
  ready-case r = no-case (lowest_open marks d 0 streams) (lowest-past streams 0 (λ t p h. none_open r t p (omega arith)))

  held-case : is_ready marks d ≡ false → Found ≡ Some (record { value = lowest_open marks d 0 streams })
  held-case r =
      ⊎_elim (λ q. not-both (is_ready marks d) q r)
      (λ (o : OpenPart marks d streams).
      let low = o.low in
      let stop = lowest-stops streams 0 o.stream o.part (omega arith) (omega arith) (part-open o) in
      stream-case (record { value = lowest_open marks d 0 streams }) (lowest_open marks d 0 streams) refl (omega arith))
      (ready-or marks d)

  pub ready-none : (x : Option StreamNumber) (b : Bool) → x ≡ Found → is_some x ≡ not b → b ≡ is_ready marks d
  ready-none x b e i =
      either (is_ready marks d)
      (λ r. not-once b (sym i ∙ ap is_some (e ∙ ready-case r)) ∙ sym r)
      (λ r. not-twice b (sym i ∙ ap is_some (e ∙ held-case r)) ∙ sym r)
