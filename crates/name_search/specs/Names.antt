-- The lowest row that passes a test, and the tests: by name, and by name and value.
use Rattle.std.specs.Prelude.{ℕ, zero, suc, ◌+◌, ◌-◌, Bool, ◌&&◌, List, eqb, leb}
use Rattle.memory.specs.Choice.{pick}
use Rattle.memory.specs.Numbers.{number}
use Rattle.memory.specs.Compare.{same}
use Rattle.state.specs.Layout.{text_place, offset_at, status_at}
use Rattle.state.specs.Rows.{name_at, value_at}
use Rattle.name_search.specs.declared.names.Paired.{Paired}
use Rattle.name_search.specs.declared.names.Paired.TheVariants.{Both, Name}
use Rattle.std.specs.Prelude.{Option, Some, None}

-- "not under deletion", with this name, and with this name and value
unfoldable pub serves_at : List ℕ → List ℕ → ℕ → Bool
serves_at m name i = eqb (status_at m i) 0 && same (name_at m i) name

unfoldable pub has_value_at : List ℕ → List ℕ → ℕ → Bool
has_value_at m value i = same (value_at m i) value

unfoldable pub serves_both_at : List ℕ → List ℕ → List ℕ → ℕ → Bool
serves_both_at m name value i = serves_at m name i && same (value_at m i) value

-- the four bytes in front of the end of row i's text are this number, and all text up to there has four bytes
unfoldable pub ends_with : List ℕ → ℕ → ℕ → Bool
ends_with m i key = leb 4 (offset_at m (i + 1)) && eqb (number 4 m (text_place + offset_at m (i + 1) - 4)) key

-- the first row that passes a test, so the one of lowest index, of the k rows from row i on
unfoldable pub lowest_row : (ℕ → Bool) → ℕ → ℕ → Option ℕ
lowest_row test zero i = None
lowest_row test (suc k) i = pick (test i) (Some i) (lowest_row test k (i + 1))

-- the row of name and value, else that of the name
unfoldable pub paired : Option ℕ → Option ℕ → Option Paired
paired (Some i) named = Some (Both i)
paired None (Some i) = Some (Name i)
paired None None = None
