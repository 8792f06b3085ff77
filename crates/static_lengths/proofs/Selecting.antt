-- Searches among some of the indexes. By induction over the number of indexes, for any test.
use mathlib.Core.Path.{◌≡◌, refl, sym, ap, ◌∙◌}
use mathlib.Core.Logic.{⊎_elim}
use mathlib.Core.Bool.{Bool, true, false}
use Prim.Native.Nat.{ℕ, zero, suc, ◌+◌, ◌≤◌, ◌<◌}
use native.Mathlib.Nat.{zero-add, add-zero, suc-add}
use native.Mathlib.Omega.{arith}
use mathlib.Core.List.{List, [], ◌∷◌, Memᴰ}
use lib.ListN.{length}
use Rattle.memory.specs.Choice.{pick}
use Rattle.memory.proofs.Order.{split, either, not-both}
use Rattle.static_search.specs.Search.{lowest_static}
use Rattle.static_search.specs.Compared.{indexes_from}
use Rattle.static_search.proofs.Finding.{lowest-next}
use Rattle.static_lengths.specs.Lengths.{before, all_static, first_of}
use Rattle.std.specs.Prelude.{Some, None}

abbrev Between : (ℕ → Bool) → ℕ → ℕ → ℕ → Type 0
Between f n i k = (i ≤ k) × (k < i + n) × (f k ≡ true)

module _ (f : ℕ → Bool) where
  all_here : (n i : ℕ) → f i ≡ true → all_static f (suc n) i ≡ i ∷ all_static f n (i + 1)
  unfolding all_static
  all_here n i t = ap (λ (b : Bool). before b i (all_static f n (i + 1))) t

  all-next : (n i : ℕ) → f i ≡ false → all_static f (suc n) i ≡ all_static f n (i + 1)
  unfolding all_static
  all-next n i t = ap (λ (b : Bool). before b i (all_static f n (i + 1))) t

  -- ---- what is among them
  pub all_in : (n i k : ℕ) → Memᴰ k (all_static f n i) → Between f n i k
  unfolding all_static
  all_in zero i k m = absurd (mathlib.Core.List.Memᴰ.not-nil m)
  all_in (suc n) i k m =
      either (f i)
      (λ t. ⊎_elim (λ (e : k ≡ i). (omega arith, omega arith, ap f e ∙ t)) (λ (d : Memᴰ k (all_static f n (i + 1))). wider (all_in n (i + 1) k d)) (mathlib.Core.List.Memᴰ.cases_cons (rw (all_here n i t) at m)))
      (λ t. wider (all_in n (i + 1) k (rw (all-next n i t) at m)))
    where
      wider : Between f n (i + 1) k → Between f (suc n) i k
      wider b = (omega arith, omega arith, b.2)

  pub in_all : (n i k : ℕ) → Between f n i k → Memᴰ k (all_static f n i)
  in_all zero i k b = absurd (omega (arith, b.0, b.1))
  in_all (suc n) i k b =
      split i k
      (λ h. let d = in_all n (i + 1) k (omega arith, omega arith, b.2) in
      either (f i) (λ t. rw (all_here n i t) (mathlib.Core.List.Memᴰ.tail d)) (λ t. rw (all-next n i t) d))
      (λ h. let e : k ≡ i = omega arith in rw (all_here n i (sym (ap f e) ∙ b.2)) (mathlib.Core.List.Memᴰ.head e))

  -- ---- the first of them

  module _ (g : ℕ → Bool) (only : (k : ℕ) → g k ≡ true → f k ≡ true) where
    pub first-all : (n i : ℕ) → lowest_static g n i ≡ first_of g (all_static f n i)
    unfolding lowest_static first_of all_static
    first-all zero i = refl
    first-all (suc n) i =
        either (f i)
        (λ t. ap (pick (g i) (Some (record { value = i }))) (first-all n (i + 1)) ∙ sym (ap (first_of g) (all_here n i t)))
        (λ t. lowest-next g n i (either (g i) (λ u. absurd (not-both (f i) (only i u) t)) (λ u. u))
        ∙ first-all n (i + 1) ∙ sym (ap (first_of g) (all-next n i t)))

-- ---- indexes one after another

pub from-length : (n i : ℕ) → length (indexes_from n i) ≡ n
unfolding indexes_from
from-length zero i = refl
from-length (suc n) i = ap suc (from-length n (i + 1))

pub from_in : (n i k : ℕ) → Memᴰ k (indexes_from n i) → (i ≤ k) × (k < i + n)
unfolding indexes_from
from_in zero i k m = absurd (mathlib.Core.List.Memᴰ.not-nil m)
from_in (suc n) i k m =
    ⊎_elim (λ (e : k ≡ i). (omega arith, omega arith))
    (λ (d : Memᴰ k (indexes_from n (i + 1))). let b = from_in n (i + 1) k d in (omega arith, omega arith)) (mathlib.Core.List.Memᴰ.cases_cons m)

module _ (g : ℕ → Bool) where
  pub first-from : (n i : ℕ) → lowest_static g n i ≡ first_of g (indexes_from n i)
  unfolding lowest_static first_of indexes_from
  first-from zero i = refl
  first-from (suc n) i = ap (pick (g i) (Some (record { value = i }))) (first-from n (i + 1))

  -- where nothing is found behind m indexes, these are enough
  pub enough : (m n i : ℕ) → lowest_static g n (i + m) ≡ None → lowest_static g (m + n) i ≡ lowest_static g m i
  unfolding lowest_static
  enough zero n i e = rw (zero-add n) (rw (add-zero i) at e)
  enough (suc m) n i e =
      let d : i + suc m ≡ i + 1 + m = omega arith in
      rw (suc-add m n) (ap (pick (g i) (Some (record { value = i }))) (enough m n (i + 1) (rw d at e)))
