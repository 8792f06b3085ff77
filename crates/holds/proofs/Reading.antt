-- The streams of a list in memory, read one after the other: their bounds, and the turns of the loops over them.
-- By induction over their count; a turn takes the first of the streams that are left.
use mathlib.Core.Path.{◌≡◌, refl, ap, ◌∙◌}
use Prim.Native.Nat.{ℕ, zero, suc, ◌+◌, ◌*◌, ◌-◌, ◌≤◌, ◌<◌}
use native.Mathlib.Omega.{arith}
use native.Mathlib.Nat.{add-zero, zero-add}
use mathlib.Core.Bool.{Bool, true, false}
use mathlib.Core.List.{List, [], ◌∷◌}
use lib.ListN.{length}
use Rattle.memory.specs.Choice.{pick}
use Rattle.memory.specs.Numbers.{number}
use Rattle.memory.proofs.Order.{pick_true, pick-false}
use Rattle.integers.specs.declared.number.StreamNumber.{StreamNumber}
use Rattle.stream_lists.specs.StreamList.{Fits}
use Rattle.state.specs.Layout.{nontrailer_list, trailer_list, listed_place, listed_count_at}
use Rattle.state.specs.DecoderState.{streams_at, list_at, delete_at}
use Rattle.holds.specs.Hold.{GoodDelete, Listed, Named, listed_count, listed_lowest}

module _ (m : List ℕ) where
  length-streams_at : (n at : ℕ) → length (streams_at n m at) ≡ n
  unfolding streams_at
  length-streams_at zero at = refl
  length-streams_at (suc n) at = ap suc (length-streams_at n (at + 2))

  streams-below : (last n at : ℕ) → Fits last (streams_at n m at) → (j : ℕ) → j < n → number 2 m (at + 2 * j) < 4096
  unfolding streams_at
  streams-below last zero at f j h = absurd (omega arith)
  streams-below last (suc n) at f zero h = rw (add-zero at) (omega (arith, f.1))
  streams-below last (suc n) at f (suc j) h =
      let e : at + 2 * suc j ≡ at + 2 + 2 * j = omega arith in
      rw e (streams-below (number 2 m at) n (at + 2) f.2 j (omega arith))

  -- the streams of a list
  pub list-streams : (marks at k place : ℕ) → k ≡ listed_count_at m at → place ≡ listed_place at → Named m marks at → Listed m marks k place
  unfolding list_at
  list-streams marks at k place e d n =
      let few : number 2 m (at + 2) ≤ 16 = omega (arith, length-streams_at (number 2 m (at + 2)) (at + 4), n.fine.1) in
      rw (e, d) (record {
        few = few;
        within = omega (arith, n.within);
        marked = n.marked;
        streams = streams-below (number 2 m at) (number 2 m (at + 2)) (at + 4) n.fine.2;
      })

  -- the lists of a delete, against any marks in the front
  pub nontrailer-list : (marks k at : ℕ) → marks ≤ 576 → at ≡ nontrailer_list k → GoodDelete m k → Named m marks at
  unfolding delete_at
  nontrailer-list marks k at h e d =
      let long = d.long in
      let few = d.few in
      record { low = omega arith; within = omega arith; marked = omega arith; fine = rw e d.nontrailer }

  pub trailer-list : (marks k at : ℕ) → marks ≤ 576 → at ≡ trailer_list k → GoodDelete m k → Named m marks at
  unfolding delete_at
  trailer-list marks k at h e d =
      let long = d.long in
      let few = d.few in
      record { low = omega arith; within = omega arith; marked = omega arith; fine = rw e d.trailer }

-- ---- what is left to read after i of the k streams from the place at on

module _ (m : List ℕ) (g : ℕ → Bool) (k at : ℕ) where
  first : streams_at (k - 0) m (at + 2 * 0) ≡ streams_at k m at
  first = let e : k - 0 ≡ k = omega arith in rw (e, add-zero at) refl

  pub count-first : 0 + listed_count g (streams_at (k - 0) m (at + 2 * 0)) ≡ listed_count g (streams_at k m at)
  count-first = zero-add _ ∙ ap (listed_count g) first

  pub lowest-first : listed_lowest g (streams_at (k - 0) m (at + 2 * 0)) ≡ listed_lowest g (streams_at k m at)
  lowest-first = ap (listed_lowest g) first

  module _ (i : ℕ) where
    done : k ≤ i → streams_at (k - i) m (at + 2 * i) ≡ []
    unfolding streams_at
    done h = let e : k - i ≡ 0 = omega arith in ap (λ (n : ℕ). streams_at n m (at + 2 * i)) e

    pub count-done : k ≤ i → listed_count g (streams_at (k - i) m (at + 2 * i)) ≡ 0
    unfolding listed_count
    count-done h = ap (listed_count g) (done h)

    pub lowest-done : k ≤ i → listed_lowest g (streams_at (k - i) m (at + 2 * i)) ≡ 4096
    unfolding listed_lowest
    lowest-done h = ap (listed_lowest g) (done h)

    module _ (x : StreamNumber) (read : x ≡ record { value = number 2 m (at + 2 * i) }) (h : i < k) where
      more : streams_at (k - i) m (at + 2 * i) ≡ x.value ∷ streams_at (k - (i + 1)) m (at + 2 * (i + 1))
      unfolding streams_at
      more =
          let e : k - i ≡ suc (k - (i + 1)) = omega arith in
          let d : at + 2 * i + 2 ≡ at + 2 * (i + 1) = omega arith in
          ap (λ (n : ℕ). streams_at n m (at + 2 * i)) e ∙ rw (d, read) refl

      pub count-more : listed_count g (streams_at (k - i) m (at + 2 * i)) ≡ pick (g x.value) 1 0 + listed_count g (streams_at (k - (i + 1)) m (at + 2 * (i + 1)))
      unfolding listed_count
      count-more = ap (listed_count g) more

      pub lowest-here : g x.value ≡ true → listed_lowest g (streams_at (k - i) m (at + 2 * i)) ≡ x.value
      unfolding listed_lowest
      lowest-here e = ap (listed_lowest g) more ∙ pick_true (g x.value) x.value _ e

      pub lowest-more : g x.value ≡ false → listed_lowest g (streams_at (k - i) m (at + 2 * i)) ≡ listed_lowest g (streams_at (k - (i + 1)) m (at + 2 * (i + 1)))
      unfolding listed_lowest
      lowest-more e = ap (listed_lowest g) more ∙ pick-false (g x.value) x.value _ e
