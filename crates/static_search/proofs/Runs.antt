-- Entries with one name stand together: a computed test over the entries. So a search by name and value looks at the values of that run alone.
use mathlib.Core.Path.{◌≡◌, refl, sym, ap, subst, ◌∙◌}
use mathlib.Core.Bool.{Bool, true, false}
use Prim.Native.Nat.{ℕ, ◌+◌, ◌-◌, ◌≤◌, ◌<◌}
use native.Mathlib.Nat.{add-zero}
use native.Mathlib.Omega.{arith}
use mathlib.Core.List.{List}
use lib.Dec.{T, leb, leb→le}
use borrow.Author.Tests.{eq-eqb, le-leb, lt-leb}
use Rattle.memory.specs.Choice.{pick}
use Rattle.memory.specs.Compare.{same}
use Rattle.memory.proofs.Order.{pick_true, not-both}
use Rattle.integers.specs.declared.number.TableIndex.{TableIndex}
use Rattle.statics.specs.Table.{entries, entry_at, static_name, static_value}
use Rattle.static_search.specs.Search.{has_name, has_both, lowest_static, lowest_name, lowest_both, find_name, find_both}
use Rattle.static_search.specs.Hash.{last_of, has_value}
use Rattle.statics.proofs.Places.{both, both_left, both_right, below, below_at}
use Rattle.static_search.proofs.Finding.{is_at, skip, name-has, has_both_lem, start-at}
use Rattle.std.specs.Prelude.{Option, Some, None}

-- ---- the run of an entry

abbrev agree : Bool → Bool → Bool
agree true b = b
agree false true = false
agree false false = true

agree-eq : (a b : Bool) → T (agree a b) → a ≡ b
agree-eq true true t = refl
agree-eq true false t = absurd t
agree-eq false true t = absurd t
agree-eq false false t = refl

-- from the lowest entry i on, those up to the last of its run have its name, and no other
abbrev runs : ℕ → Bool
runs i = pick (is_at (find_name (static_name i)) i) (both (leb (last_of i) 61) (below (λ d. agree (has_name (i + d) (static_name i)) (leb (i + d) (last_of i))) (62 - i))) true

runs-all : T (below runs 62)
unfolding entries entry_at lowest_name lowest_static has_name same last_of
runs-all = tt

module _ (first : TableIndex) (lo : 1 ≤ first.value) (hi : first.value ≤ 61) (here : find_name (static_name first.value) ≡ Some first) where
  abbrev a : ℕ
  a = first.value

  abbrev name : List ℕ
  name = static_name a

  tested : T (both (leb (last_of a) 61) (below (λ d. agree (has_name (a + d) name) (leb (a + d) (last_of a))) (62 - a)))
  tested =
      let is : is_at (find_name name) a ≡ true = ap (λ (o : Option TableIndex). is_at o a) here ∙ eq-eqb a a refl in
      subst T (pick_true (is_at (find_name name) a) _ true is) (below_at runs 62 a runs-all (omega arith))

  pub last-high : last_of a ≤ 61
  last-high = leb→le (last_of a) 61 (both_left (leb (last_of a) 61) _ tested)

  pub named : (k : ℕ) → a ≤ k → k ≤ 61 → has_name k name ≡ leb k (last_of a)
  named k low high =
      let e : a + (k - a) ≡ k = omega arith in
      agree-eq _ _ (subst (λ (i : ℕ). T (agree (has_name i name) (leb i (last_of a)))) e (below_at _ (62 - a) (k - a) (both_right (leb (last_of a) 61) _ tested) (omega arith)))

  module _ (value : List ℕ) where
    -- an entry of the run has the name, so that the value decides
    pub value-decides : (k : ℕ) → a ≤ k → k ≤ last_of a → has_value k value ≡ has_both k name value
    unfolding has_both has_value
    value-decides k low high =
        sym (pick_true (has_name k name) (same (static_value k) value) false (named k low (omega (arith, last-high)) ∙ le-leb k (last_of a) high))

    -- behind the run no entry has the name
    pub run-over : (i : ℕ) → a ≤ i → last_of a < i → lowest_both (62 - i) i name value ≡ None
    unfolding lowest_both lowest_static
    run-over i low high =
        rw (add-zero (62 - i)) at
        (skip (λ k. has_both k name value) (62 - i) 0 i
        (λ k l h t. not-both (has_name k name) (name-has name k (has_both_lem name value k t).0) (named k (omega arith) (omega arith) ∙ lt-leb k (last_of a) (omega arith))))

    pub run-start : find_both name value ≡ lowest_both (62 - a) a name value
    run-start = sym (start-at name value first here)
