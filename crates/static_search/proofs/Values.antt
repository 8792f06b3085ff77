-- The values that occur in the static table, by computed tests over the entries: each is short, most are empty, and length and first byte allow for each.
-- So a value that they do not allow for is that of no entry.
use mathlib.Core.Path.{◌≡◌, refl, ap, subst, ◌∙◌}
use mathlib.Core.Bool.{Bool, false}
use Prim.Native.Nat.{ℕ, ◌-◌, ◌≤◌}
use native.Mathlib.Omega.{arith}
use mathlib.Core.List.{List}
use lib.Dec.{T, leb, leb→le}
use lib.ListN.{length}
use Rattle.statics.specs.Table.{Entry, entries, entry_at, static_value}
use Rattle.static_search.specs.Search.{find_both}
use Rattle.static_search.specs.Hash.{may_begin, may_be_value}
use Rattle.statics.proofs.Places.{both, both_left, both_right, every_in}
use Rattle.static_search.proofs.Finding.{both_found}
use Rattle.std.specs.Prelude.{Option, Some, None}
use Rattle.integers.specs.declared.number.TableIndex.{TableIndex}

-- ---- every value

-- the ends take it whole, and the test lets it pass
abbrev tested : Entry → Bool
tested e = both (leb (length e.value) 16) (may_be_value e.value)

module _ (i : ℕ) (lo : 1 ≤ i) (hi : i ≤ 61) where
  value-tested : T (tested (entry_at i))
  unfolding entry_at entries may_be_value may_begin
  value-tested = every_in tested _ entries tt (i - 1) (omega arith)

  pub value-few : length (static_value i) ≤ 16
  value-few = leb→le (length (static_value i)) 16 (both_left (leb (length (static_value i)) 16) (may_be_value (static_value i)) value-tested)

  value-may : T (may_be_value (static_value i))
  value-may = both_right (leb (length (static_value i)) 16) (may_be_value (static_value i)) value-tested

pub not_static : (name value : List ℕ) → may_be_value value ≡ false → None ≡ find_both name value
not_static name value e = go (find_both name value) refl
  where
    go : (o : Option TableIndex) → find_both name value ≡ o → None ≡ o
    go (Some j) f =
        let l = both_found name value 61 1 j f in
        absurd (subst T (ap may_be_value l.holds.1 ∙ e) (value-may j.value l.low (omega (arith, l.high))))
    go None f = refl
