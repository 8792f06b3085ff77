-- What putting an entry in and taking one out leave in memory: the record, the row, and the text moved.
use Rattle.std.specs.Prelude.{ℕ, ◌+◌, ◌-◌, ◌≤◌, ◌<◌, List, [], length}
use Rattle.memory.specs.Bytes.{overlay, moved}
use Rattle.memory.specs.Numbers.{number_bytes}
use Rattle.state.specs.Layout.{
  front_length,
  marks_place,
  indexes_place,
  offsets_place,
  text_place,
  before_first,
  held_of,
  count_of,
  offset_at,
  name_length_at,
  text_length_at,
}
use Rattle.table_rows.specs.Rows.{row_opened, row_closed, recorded}
use Rattle.model.specs.Parts.{nontrailer, no_marks}
use Rattle.state.specs.Front.{Front, head_bytes, marks_bytes}

-- ---- putting an entry in

-- the text behind the offset moved up; `left` bytes stand there
unfoldable pub text_opened : List ℕ → ℕ → ℕ → ℕ → List ℕ
text_opened m offset text left = moved m (text_place + (offset + text)) (text_place + offset) left

unfoldable pub opened_at : List ℕ → ℕ → ℕ → ℕ → ℕ → ℕ → ℕ → ℕ → ℕ → List ℕ
opened_at m place index name value count held offset end =
    text_opened (row_opened (recorded m (held + (name + value + 32)) (count + 1)) place count index offset name (name + value))
    offset (name + value) (end - offset)

-- a row for an entry with these lengths put in; its text is still to come
unfoldable pub opened : List ℕ → ℕ → ℕ → ℕ → ℕ → List ℕ
opened m place index name value = opened_at m place index name value (count_of m) (held_of m) (offset_at m place) (offset_at m (count_of m))

-- the entry put in, with its text
unfoldable pub inserted : List ℕ → ℕ → ℕ → List ℕ → List ℕ → List ℕ
inserted m place index name value =
    overlay (overlay (opened m place index (length name) (length value)) (text_place + offset_at m place) name)
    (text_place + offset_at m place + length name) value

-- what it relies on: "An insert that would pass it is 7, and otherwise room is always found", and a place is vacant
pub record Opening (m : List ℕ) (place name value : ℕ) : Type 0 where
  pub long : front_length ≤ length m
  pub few : count_of m < 128
  pub below : place ≤ count_of m
  pub start : offset_at m place ≤ offset_at m (count_of m)
  pub text : offset_at m (count_of m) + (name + value) ≤ 4096
  pub room : held_of m + (name + value + 32) ≤ 4096
  pub short : name ≤ 255

-- ---- an entry of the table whose name is taken: it stands wholly before the new entry's text, or wholly behind it
pub record NamedHere (m : List ℕ) (place named : ℕ) : Type 0 where
  pub below : named < count_of m
  pub before : named < place → offset_at m named + name_length_at m named ≤ offset_at m place
  pub behind : place ≤ named → offset_at m place ≤ offset_at m named
  pub within : offset_at m named + name_length_at m named ≤ offset_at m (count_of m)

-- ---- taking an entry out

unfoldable pub removed_at : List ℕ → ℕ → ℕ → ℕ → ℕ → ℕ → ℕ → List ℕ
removed_at m place count held offset text end =
    moved (row_closed (recorded m (held - (text + 32)) (count - 1)) place count text) (text_place + offset) (text_place + (offset + text)) (end - (offset + text))

-- the row and its text closed up: "freed bytes are used again"
unfoldable pub removed : List ℕ → ℕ → List ℕ
removed m place = removed_at m place (count_of m) (held_of m) (offset_at m place) (text_length_at m place) (offset_at m (count_of m))

pub record Removing (m : List ℕ) (place : ℕ) : Type 0 where
  pub long : front_length ≤ length m
  pub few : count_of m ≤ 128
  pub below : place < count_of m
  pub start : offset_at m place ≤ offset_at m (place + 1)
  pub text : offset_at m (place + 1) ≤ offset_at m (count_of m)
  pub end : offset_at m (count_of m) ≤ 4096
  pub held : text_length_at m place + 32 ≤ held_of m

-- ---- a fresh state

abbrev pub fresh_front : ℕ → ℕ → Front
fresh_front role limit = record { role = role; limit = limit; rows = []; deletes = 0; marks = no_marks }

unfoldable pub started : List ℕ → ℕ → ℕ → List ℕ
started m role limit =
    overlay (overlay (overlay (overlay m 0 (head_bytes (fresh_front role limit))) (marks_place nontrailer) (marks_bytes no_marks))
    indexes_place (number_bytes 4 before_first)) offsets_place (number_bytes 2 0)
