-- The entries of which bytes may be compared with what is sought. `has_name` and `has_value`, which compare them, ask that an entry is one of these.
use Rattle.std.specs.Prelude.{ℕ, zero, suc, ◌+◌, ◌-◌, List, [], ◌∷◌}
use Rattle.memory.specs.Choice.{pick}
use Rattle.static_search.specs.Search.{has_name}
use Rattle.static_search.specs.Hash.{candidate_of, last_of}
use Rattle.std.specs.Prelude.{Option, Some, None}
use Rattle.integers.specs.declared.number.TableIndex.{TableIndex}

-- n indexes from i on
unfoldable pub indexes_from : ℕ → ℕ → List ℕ
indexes_from zero i = []
indexes_from (suc n) i = i ∷ indexes_from n (i + 1)

-- for a name: the one that the hash leaves, where its name has the right length
abbrev pub candidates : Option TableIndex → List ℕ
candidates (Some j) = j.value ∷ []
candidates None = []

unfoldable pub compared_name : List ℕ → List ℕ
compared_name name = candidates (candidate_of name)

-- for a name and a value: that one, and where it has the name all entries with it, which stand together
abbrev pub with_run : List ℕ → Option TableIndex → List ℕ
with_run name (Some j) = pick (has_name j.value name) (indexes_from (suc (last_of j.value) - j.value) j.value) (j.value ∷ [])
with_run name None = []

unfoldable pub compared_both : List ℕ → List ℕ
compared_both name = with_run name (candidate_of name)
