-- What the functions on rows leave in memory: a row put in and taken out, the record, and a status.
use Rattle.std.specs.Prelude.{ℕ, ◌+◌, ◌-◌, List}
use Rattle.memory.specs.Bytes.{overlay}
use Rattle.memory.specs.Numbers.{number_bytes}
use Rattle.columns.specs.Columns.{column_opened, column_closed, changed}
use Rattle.state.specs.Layout.{held_place, count_place, indexes_place, offsets_place, name_lengths_place, statuses_place, offset_place, status_place}

-- ---- a row put in at a place of `count` rows

-- its text starts at the offset; those behind it start so many bytes later
unfoldable pub offsets_opened : List ℕ → ℕ → ℕ → ℕ → ℕ → List ℕ
offsets_opened m place count offset text =
    changed (λ x. x + text) 2 (count + 1 - place) (column_opened 2 m offsets_place place (count + 1) offset) (offset_place (place + 1))

-- its entry is not under deletion
unfoldable pub row_opened : List ℕ → ℕ → ℕ → ℕ → ℕ → ℕ → ℕ → List ℕ
row_opened m place count index offset name text =
    column_opened 2
    (column_opened 1 (offsets_opened (column_opened 4 m indexes_place (place + 1) (count + 1) index) place count offset text) name_lengths_place place count name)
    statuses_place place count 0

-- ---- the row at a place taken out, which has so many bytes of text

-- numbers of two bytes are lowered by adding what is left of 65,536
unfoldable pub offsets_closed : List ℕ → ℕ → ℕ → ℕ → List ℕ
offsets_closed m place count text =
    changed (λ x. x + (65536 - text)) 2 (count - place) (column_closed 2 m offsets_place place (count + 1)) (offset_place place)

unfoldable pub row_closed : List ℕ → ℕ → ℕ → ℕ → List ℕ
row_closed m place count text =
    column_closed 2
    (column_closed 1 (offsets_closed (column_closed 4 m indexes_place (place + 1) (count + 1)) place count text) name_lengths_place place count)
    statuses_place place count

-- ---- the record, and a status

-- held size and count brought up to date
unfoldable pub recorded : List ℕ → ℕ → ℕ → List ℕ
recorded m held count = overlay (overlay m held_place (number_bytes 2 held)) count_place (number_bytes 2 count)

-- the status of the row at this place
unfoldable pub status_set : List ℕ → ℕ → ℕ → List ℕ
status_set m place status = overlay m (status_place place) (number_bytes 2 status)
