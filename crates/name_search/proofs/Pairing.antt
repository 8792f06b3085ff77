-- The searches by name and value and by name alone: a row with both has the name, so that none before the lowest with the name has both.
use mathlib.Core.Path.{◌≡◌, refl, sym, ap, ap₂, ◌∙◌}
use Prim.Native.Nat.{ℕ, zero, suc, ◌+◌, ◌-◌, ◌≤◌, ◌<◌}
use native.Mathlib.Omega.{arith}
use native.Mathlib.Nat.{zero-add}
use mathlib.Core.List.{List}
use lib.ListN.{length}
use Rattle.memory.specs.Bytes.{Small}
use Rattle.memory.proofs.Numbers.{number_bound}
use Rattle.memory.proofs.Order.{pick-false}
use Rattle.model_laws.proofs.Tables.{nope}
use Rattle.state.specs.Layout.{count_of, name_length_place}
use Rattle.table_search.specs.Search.{Ordered}
use Rattle.name_search.specs.Names.{serves_at, serves_both_at, lowest_row, paired}
use Rattle.name_search.specs.declared.names.Paired.TheVariants.{Both, Name}
use Rattle.name_search.proofs.LowestRow.{row_within, row-behind, row-neither}
use Rattle.name_search.proofs.Serving.{other_length, not_named}
use Rattle.std.specs.Prelude.{Option, Some, None}

-- a row that is found is one of the table
pub first-held : (m name : List ℕ) (first : ℕ) → lowest_row (serves_at m name) (count_of m) 0 ≡ Some first → first < count_of m
first-held m name first e = rw (zero-add (count_of m)) at (row_within (serves_at m name) (count_of m) 0 first e).1

module _ (m name value : List ℕ) where
  abbrev whole : Option ℕ
  whole = lowest_row (serves_both_at m name value) (count_of m) 0

  abbrev named : Option ℕ
  named = lowest_row (serves_at m name) (count_of m) 0

  -- the lowest row with the name; and with both, of the rows from there on
  module _ (first : ℕ) (e : named ≡ Some first) where
    from_first : whole ≡ lowest_row (serves_both_at m name value) (count_of m - first) first
    from_first =
        rw (zero-add (count_of m)) at (row-behind (serves_at m name) (serves_both_at m name value) (not_named m name value) (count_of m) 0 first e)

    pub pair-both : (i : ℕ) → lowest_row (serves_both_at m name value) (count_of m - first) first ≡ Some i → Some (Both i) ≡ paired whole named
    unfolding paired
    pair-both i d = sym (ap (λ (w : Option ℕ). paired w named) (from_first ∙ d))

    pub pair-name : lowest_row (serves_both_at m name value) (count_of m - first) first ≡ None → Some (Name first) ≡ paired whole named
    unfolding paired
    pair-name d = sym (ap₂ paired (from_first ∙ d) e)

  -- no name of the table has more than 255 bytes
  pub none-so-long : Small m → Ordered m → 255 < length name → (k i : ℕ) → i + k ≤ count_of m → lowest_row (serves_at m name) k i ≡ None
  unfolding lowest_row
  none-so-long small o h zero i b = refl
  none-so-long small o h (suc k) i b =
      pick-false (serves_at m name i) _ _ (other_length m o i (omega arith) name (λ e. omega (arith, number_bound 1 m (name_length_place i) small)))
      ∙ none-so-long small o h k (i + 1) (omega arith)

  pub pair-none : named ≡ None → None ≡ paired whole named
  unfolding paired
  pair-none e =
      sym (ap₂ paired (row-neither (serves_at m name) (serves_both_at m name value) (not_named m name value) (count_of m) 0 e) e)

-- ---- what a pair says of them

module _ (whole named : Option ℕ) where
  pub paired-both : (i : ℕ) → paired whole named ≡ Some (Both i) → whole ≡ Some i
  unfolding paired
  paired-both i e = go whole named e
    where
      go : (w n : Option ℕ) → paired w n ≡ Some (Both i) → w ≡ Some i
      go (Some j) n d = let z : j ≡ i = cc in ap Some z
      go None (Some j) d = nope (cc)
      go None None d = nope (cc)

  pub paired-name : (i : ℕ) → paired whole named ≡ Some (Name i) → (whole ≡ None) × (named ≡ Some i)
  unfolding paired
  paired-name i e = go whole named e
    where
      go : (w n : Option ℕ) → paired w n ≡ Some (Name i) → (w ≡ None) × (n ≡ Some i)
      go (Some j) n d = nope (cc)
      go None (Some j) d = let z : j ≡ i = cc in (refl, ap Some z)
      go None None d = nope (cc)

  pub paired_none : paired whole named ≡ None → (whole ≡ None) × (named ≡ None)
  unfolding paired
  paired_none e = go whole named e
    where
      go : (w n : Option ℕ) → paired w n ≡ None → (w ≡ None) × (n ≡ None)
      go (Some j) n d = nope (cc)
      go None (Some j) d = nope (cc)
      go None None d = (refl, refl)
