-- An entry found by its index: rows of lower indexes are passed, and the row after them decides.
-- By induction over the rows passed; rows ascend, so that one row tells of all below it.
use mathlib.Core.Path.{◌≡◌, refl, ap, ◌∙◌}
use Prim.Native.Nat.{ℕ, zero, suc, ◌+◌, ◌-◌, ◌≤◌, ◌<◌}
use native.Mathlib.Omega.{arith}
use native.Mathlib.Nat.{add-zero, zero-add, suc-add}
use mathlib.Core.List.{List}
use lib.Dec.{eqb, ltb}
use borrow.Author.Tests.{lt-ltb, le-ltb, eq-eqb, ne_eqb}
use Rattle.memory.proofs.Order.{split, pick_true, pick-false}
use Rattle.state.specs.Layout.{count_of, index_at}
use Rattle.table_search.specs.Search.{Ordered, find_from}
use Rattle.std.specs.Prelude.{Ok, Err}

module _ (m : List ℕ) (x : ℕ) where
  -- d rows are passed
  passed : (d k i : ℕ) → ((j : ℕ) → j < i + d → index_at m j < x) → find_from m x (d + k) i ≡ find_from m x k (i + d)
  unfolding find_from
  passed zero k i f = rw (zero-add k, add-zero i) refl
  passed (suc d) k i f =
      let e : i + 1 + d ≡ i + suc d = omega arith in
      rw (suc-add d k)
      (pick_true (ltb (index_at m i) x) _ _ (lt-ltb (index_at m i) x (f i (omega arith))) ∙ (rw e at (passed d k (i + 1) (λ j h. f j (omega arith)))))

  -- the row that decides, or none is left
  stands : (k i : ℕ) → index_at m i ≡ x → find_from m x (suc k) i ≡ Ok i
  unfolding find_from
  stands k i e =
      pick-false (ltb (index_at m i) x) _ _ (le-ltb (index_at m i) x (omega arith)) ∙ pick_true (eqb (index_at m i) x) _ _ (eq-eqb (index_at m i) x e)

  above : (k i : ℕ) → (0 < k → x < index_at m i) → find_from m x k i ≡ Err i
  unfolding find_from
  above zero i f = refl
  above (suc k) i f =
      let h : x < index_at m i = f (omega arith) in
      pick-false (ltb (index_at m i) x) _ _ (le-ltb (index_at m i) x (omega arith))
      ∙ pick-false (eqb (index_at m i) x) _ _ (ne_eqb (index_at m i) x (λ e. omega arith))

  -- p rows of n are passed
  passed-from : (n p : ℕ) → p ≤ n → ((j : ℕ) → j < p → index_at m j < x) → find_from m x n 0 ≡ find_from m x (n - p) p
  passed-from n p h f =
      let e : n ≡ p + (n - p) = omega arith in
      ap (λ (k : ℕ). find_from m x k 0) e ∙ (rw (zero-add p) at (passed p (n - p) 0 (λ j l. f j (omega arith))))

module _ (m : List ℕ) (o : Ordered m) (x : ℕ) where
  -- row p has the index
  pub find_at : (p : ℕ) → p < count_of m → index_at m p ≡ x → find_from m x (count_of m) 0 ≡ Ok p
  find_at p h e =
      let f : count_of m - p ≡ suc (count_of m - (p + 1)) = omega arith in
      passed-from m x (count_of m) p (omega arith) (λ j l. let r = o.rising j p l h in omega arith)
      ∙ ap (λ (k : ℕ). find_from m x k p) f
      ∙ stands m x (count_of m - (p + 1)) p e

  -- it would stand at place p: row p, if there is one, is above it, and row p - 1 below
  pub find-vacant : (p : ℕ) → p ≤ count_of m → (p < count_of m → x < index_at m p) → (0 < p → index_at m (p - 1) < x)
      → find_from m x (count_of m) 0 ≡ Err p
  find-vacant p h hi lo =
      passed-from m x (count_of m) p h
      (λ j l. let b = lo (omega arith) in
      split j (p - 1) (λ k. let r = o.rising j (p - 1) k (omega arith) in omega arith) (λ k. let e : j ≡ p - 1 = omega arith in rw e b))
      ∙ above m x (count_of m - p) p (λ k. hi (omega arith))
