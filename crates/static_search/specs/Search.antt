-- Searches of the static table: the lowest index from a place on, of the n entries there.
use Rattle.std.specs.Prelude.{ℕ, zero, suc, ◌+◌, Bool, false, List}
use Rattle.memory.specs.Choice.{pick}
use Rattle.memory.specs.Compare.{same}
use Rattle.statics.specs.Table.{static_name, static_value}
use Rattle.std.specs.Prelude.{Option, Some, None}
use Rattle.integers.specs.declared.number.TableIndex.{TableIndex}

-- has the entry with index i this name? these name and value?
unfoldable pub has_name : ℕ → List ℕ → Bool
has_name i name = same (static_name i) name

unfoldable pub has_both : ℕ → List ℕ → List ℕ → Bool
has_both i name value = pick (has_name i name) (same (static_value i) value) false

-- the lowest index at which the test holds, of the n from i on
unfoldable pub lowest_static : (ℕ → Bool) → ℕ → ℕ → Option TableIndex
lowest_static holds zero i = None
lowest_static holds (suc n) i = pick (holds i) (Some (record { value = i })) (lowest_static holds n (i + 1))

unfoldable pub lowest_name : ℕ → ℕ → List ℕ → Option TableIndex
lowest_name n i name = lowest_static (λ k. has_name k name) n i

unfoldable pub lowest_both : ℕ → ℕ → List ℕ → List ℕ → Option TableIndex
lowest_both n i name value = lowest_static (λ k. has_both k name value) n i

-- "the lowest static index with that name"
abbrev pub find_name : List ℕ → Option TableIndex
find_name name = lowest_name 61 1 name

-- "the lowest static index with equal name and value"
abbrev pub find_both : List ℕ → List ℕ → Option TableIndex
find_both name value = lowest_both 61 1 name value
