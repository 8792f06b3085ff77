-- What an index names, and the bytes of its name and value: "handed on as a part of the static text or of the table's bytes, not copied first".
use Rattle.std.specs.Prelude.{ℕ, ◌≤◌, ◌<◌, List, length, Option, Some, None}
use Rattle.memory.specs.Choice.{pick}
use Rattle.statics.specs.Table.{static_name, static_value}
use Rattle.blocks.specs.Meaning.{is_static}
use Rattle.state.specs.Layout.{count_of}
use Rattle.state.specs.Rows.{name_at, value_at}
use Rattle.table_search.specs.Search.{find_from}
use Rattle.entry_places.specs.declared.place.EntryPlace.{EntryPlace}
use Rattle.entry_places.specs.declared.place.EntryPlace.TheVariants.{Static, Dynamic}
use Rattle.std.specs.Prelude.{Result, Ok, Err}

abbrev pub place_found : Result ℕ ℕ → Option EntryPlace
place_found (Ok i) = Some (Dynamic i)
place_found (Err i) = None

-- "Indexes 1 to 61 are static"; any other, 0 among them, is looked for in the rows
unfoldable pub locate : List ℕ → ℕ → Option EntryPlace
locate m index = pick (is_static index) (Some (Static (record { value = index }))) (place_found (find_from m index (count_of m) 0))

-- the place is one of the static table, or of a row
abbrev pub InPlace : List ℕ → EntryPlace → Type 0
InPlace m (Static index) = (1 ≤ index.value) × (index.value ≤ 61)
InPlace m (Dynamic i) = i < count_of m

abbrev pub place_name : List ℕ → EntryPlace → List ℕ
place_name m (Static index) = static_name index.value
place_name m (Dynamic i) = name_at m i

abbrev pub place_value : List ℕ → EntryPlace → List ℕ
place_value m (Static index) = static_value index.value
place_value m (Dynamic i) = value_at m i

abbrev pub place_lengths : List ℕ → Option EntryPlace → Option (ℕ × ℕ)
place_lengths m (Some place) = Some (length (place_name m place), length (place_value m place))
place_lengths m None = None
