-- The lowest vacant index by bisection: a row that has its own index, 62 and its place, tells that all rows before it have theirs, since rows ascend from 62.
-- By induction over the rows passed.
use mathlib.Core.Path.{◌≡◌, refl, ap, ◌∙◌}
use Prim.Native.Nat.{ℕ, zero, suc, ◌+◌, ◌-◌, ◌≤◌, ◌<◌}
use native.Mathlib.Omega.{arith}
use native.Mathlib.Nat.{add-zero, zero-add, suc-add}
use mathlib.Core.List.{List}
use lib.Dec.{eqb}
use borrow.Author.Tests.{eq-eqb, ne_eqb}
use Rattle.memory.proofs.Order.{pick_true, pick-false}
use Rattle.state.specs.Layout.{count_of, index_at}
use Rattle.table_search.specs.Search.{Ordered, vacant_row}

-- the rows before row p have their own indexes, and row p has not, if there is one
abbrev pub AllOwn : List ℕ → ℕ → Type 0
AllOwn m p = (j : ℕ) → j < p → index_at m j ≡ 62 + j

abbrev pub NotOwn : List ℕ → ℕ → Type 0
NotOwn m p = p < count_of m → index_at m p ≡ 62 + p → ⊥

module _ (m : List ℕ) where
  -- d rows are passed
  passed : (d k i : ℕ) → ((j : ℕ) → j < i + d → index_at m j ≡ 62 + j) → vacant_row m (d + k) i ≡ vacant_row m k (i + d)
  unfolding vacant_row
  passed zero k i f = rw (zero-add k, add-zero i) refl
  passed (suc d) k i f =
      let e : i + 1 + d ≡ i + suc d = omega arith in
      rw (suc-add d k)
      (pick_true (eqb (index_at m i) (62 + i)) _ _ (eq-eqb (index_at m i) (62 + i) (f i (omega arith)))
      ∙ (rw e at (passed d k (i + 1) (λ j h. f j (omega arith)))))

  -- the row that decides, or none is left
  here : (k i : ℕ) → (0 < k → index_at m i ≡ 62 + i → ⊥) → vacant_row m k i ≡ i
  unfolding vacant_row
  here zero i f = refl
  here (suc k) i f = pick-false (eqb (index_at m i) (62 + i)) _ _ (ne_eqb (index_at m i) (62 + i) (f (omega arith)))

  pub vacant-at : (p : ℕ) → p ≤ count_of m → AllOwn m p → NotOwn m p → vacant_row m (count_of m) 0 ≡ p
  vacant-at p h own other =
      let e : count_of m ≡ p + (count_of m - p) = omega arith in
      ap (λ (k : ℕ). vacant_row m k 0) e
      ∙ (rw (zero-add p) at (passed p (count_of m - p) 0 (λ j l. own j (omega arith))))
      ∙ here (count_of m - p) p (λ k. other (omega arith))

module _ (m : List ℕ) (o : Ordered m) where
  -- the row d rows before it
  own-before : (d i : ℕ) → i + d < count_of m → index_at m (i + d) ≡ 62 + (i + d) → index_at m i ≡ 62 + i
  own-before zero i h e = rw (add-zero i) at e
  own-before (suc d) i h e =
      let r = o.rising (i + d) (i + suc d) (omega arith) h in
      let l = o.low (i + d) (omega arith) in
      own-before d i (omega arith) (omega arith)

  -- row i has its own index, so all to behind it have theirs
  pub all_own : (i : ℕ) → i < count_of m → index_at m i ≡ 62 + i → AllOwn m (i + 1)
  all_own i h e j l =
      let f : i ≡ j + (i - j) = omega arith in
      own-before (i - j) j (omega arith) (rw f at e)
