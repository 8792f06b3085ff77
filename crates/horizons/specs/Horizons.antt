-- What an entry's horizons leave in memory: raised by a block that refers to the entry, opened for a new entry, and closed where one is freed.
use Rattle.std.specs.Prelude.{ℕ, suc, max, List}
use Rattle.memory.specs.Bytes.{overlay}
use Rattle.memory.specs.Numbers.{number_bytes}
use Rattle.columns.specs.Columns.{column_opened, column_closed}
use Rattle.model.specs.Parts.{Part, nontrailer, trailer}
use Rattle.state.specs.Layout.{nontrailer_horizons, trailer_horizons, nontrailer_place, trailer_place, horizon_at}

-- of the row at a place
abbrev pub horizon_place : ℕ → Part → ℕ
horizon_place place nontrailer = nontrailer_place place
horizon_place place trailer = trailer_place place

-- "Each horizon is one more than the highest stream whose block of that kind refers to the entry"
unfoldable pub raised_at : List ℕ → ℕ → ℕ → List ℕ
raised_at m at stream = overlay m at (number_bytes 2 (max (horizon_at m at) (suc stream)))

abbrev pub raised : List ℕ → ℕ → Part → ℕ → List ℕ
raised m place p stream = raised_at m (horizon_place place p) stream

-- a new entry, put in before others of `count`, has none
unfoldable pub horizons_opened : List ℕ → ℕ → ℕ → List ℕ
horizons_opened m place count = column_opened 2 (column_opened 2 m nontrailer_horizons place count 0) trailer_horizons place count 0

-- an entry that is freed, of `count`, leaves none
unfoldable pub horizons_closed : List ℕ → ℕ → ℕ → List ℕ
horizons_closed m place count = column_closed 2 (column_closed 2 m nontrailer_horizons place count) trailer_horizons place count
