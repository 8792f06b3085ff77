-- A memory that holds the bytes of a front. Everything about memory that forms a state goes through this record: the test gives it, reading back and
-- overlaying use it, and a call that changes memory keeps it.
use Prim.Native.Nat.{ℕ, ◌≤◌, ◌<◌}
use mathlib.Core.List.{List, [], ◌∷◌, map}
use lib.ListN.{length}
use Rattle.memory.specs.Bytes.{Has}
use Rattle.columns.specs.Columns.{column_bytes}
use Rattle.columns.specs.Pieces.{HasAll}
use Rattle.state.specs.Layout.{
  front_length,
  marks_place,
  indexes_place,
  offsets_place,
  name_lengths_place,
  statuses_place,
  text_place,
  before_first,
}
use Rattle.state.specs.Rows.{Row, row_index, name_length, row_status, offsets_from, text_bytes, rows_size}
use Rattle.state.specs.Front.{Front, head_bytes, marks_bytes, front_pieces}
use Rattle.model.specs.Parts.{nontrailer}

-- a row whose numbers fit their columns, and all rows
pub record FineRow (r : Row) : Type 0 where
  pub index : r.index < 4294967296
  pub name : length r.entry.name < 256
  pub status : r.status < 65536

abbrev pub FineRows : List Row → Type 0
FineRows [] = Unit {0}
FineRows (r ∷ rs) = FineRow r × FineRows rs

pub record FineFront (f : Front) : Type 0 where
  pub limit : f.limit < 65536
  pub few : length f.rows ≤ 128
  pub fits : rows_size f.rows ≤ 4096
  pub deletes : f.deletes < 65536
  pub rows : FineRows f.rows

pub record HoldsFront (f : Front) (m : List ℕ) : Type 0 where
  pub long : front_length ≤ length m
  pub fine : FineFront f
  pub head : Has m 0 (head_bytes f)
  pub marks : Has m (marks_place nontrailer) (marks_bytes f.marks)
  pub indexes : Has m indexes_place (column_bytes 4 (before_first ∷ map row_index f.rows))
  pub offsets : Has m offsets_place (column_bytes 2 (offsets_from 0 f.rows))
  pub names : Has m name_lengths_place (column_bytes 1 (map name_length f.rows))
  pub statuses : Has m statuses_place (column_bytes 2 (map row_status f.rows))
  pub text : Has m text_place (text_bytes f.rows)

-- its pieces stand, and memory in which they stand holds it
pub holds-pieces : (f : Front) (m : List ℕ) → HoldsFront f m → HasAll m (front_pieces f)
unfolding front_pieces
holds-pieces f m H = (H.head, (H.marks, (H.indexes, (H.offsets, (H.names, (H.statuses, (H.text, tt)))))))

pub pieces-hold : (f : Front) (m : List ℕ) → front_length ≤ length m → FineFront f → HasAll m (front_pieces f) → HoldsFront f m
unfolding front_pieces
pieces-hold f m long F a = record {
  long = long;
  fine = F;
  head = a.0;
  marks = a.1.0;
  indexes = a.1.1.0;
  offsets = a.1.1.1.0;
  names = a.1.1.1.1.0;
  statuses = a.1.1.1.1.1.0;
  text = a.1.1.1.1.1.1.0;
}
