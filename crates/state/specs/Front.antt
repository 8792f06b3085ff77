-- The part of the state memory that both ends share: head, marks, columns and text.
use Rattle.std.specs.Prelude.{ℕ, false, not, List, [], ◌∷◌, ◌++◌, map, length, replicate, ltb}
use Rattle.memory.specs.Choice.{pick}
use Rattle.memory.specs.Numbers.{number_bytes}
use Rattle.columns.specs.Columns.{column_bytes}
use Rattle.columns.specs.Pieces.{Piece, piece, overlays}
use Rattle.marks.specs.Marks.{is_set, words_bytes}
use Rattle.model.specs.Parts.{nontrailer, trailer, Marks, streams}
use Rattle.state.specs.Layout.{february, marks_place, indexes_place, offsets_place, name_lengths_place, statuses_place, text_place, before_first}
use Rattle.state.specs.Rows.{Row, row_index, name_length, row_status, offsets_from, text_bytes, rows_size}

pub record Front : Type 0 where
  pub role : ℕ
  pub limit : ℕ
  pub rows : List Row
  pub deletes : ℕ
  pub marks : Marks

-- with one of them changed
abbrev pub with_rows : Front → List Row → Front
with_rows f rs = record { role = f.role; limit = f.limit; rows = rs; deletes = f.deletes; marks = f.marks }

abbrev pub with_deletes : Front → ℕ → Front
with_deletes f n = record { role = f.role; limit = f.limit; rows = f.rows; deletes = n; marks = f.marks }

abbrev pub with_marks : Front → Marks → Front
with_marks f k = record { role = f.role; limit = f.limit; rows = f.rows; deletes = f.deletes; marks = k }

-- a set bit: at the decoder the part is unfinished, at the encoder blocks of it may still be written
unfoldable pub marks_of : List ℕ → Marks
marks_of m s p = pick (ltb s streams) (not (is_set m (marks_place p) s)) false

unfoldable pub head_bytes : Front → List ℕ
head_bytes f =
    (f.role ∷ february ∷ []) ++ (number_bytes 2 f.limit ++ (number_bytes 2 (rows_size f.rows) ++ (number_bytes 2 (length f.rows)
    ++ (number_bytes 2 f.deletes ++ replicate 54 0))))

unfoldable pub marks_bytes : Marks → List ℕ
marks_bytes marks = words_bytes (λ s. not (marks s nontrailer)) 0 64 ++ words_bytes (λ s. not (marks s trailer)) 0 64

-- its pieces, in the order of their places
unfoldable pub front_pieces : Front → List Piece
front_pieces f =
    piece 0 (head_bytes f)
    ∷ piece (marks_place nontrailer) (marks_bytes f.marks)
    ∷ piece indexes_place (column_bytes 4 (before_first ∷ map row_index f.rows))
    ∷ piece offsets_place (column_bytes 2 (offsets_from 0 f.rows))
    ∷ piece name_lengths_place (column_bytes 1 (map name_length f.rows))
    ∷ piece statuses_place (column_bytes 2 (map row_status f.rows))
    ∷ piece text_place (text_bytes f.rows)
    ∷ []

-- m, with the bytes of f over it
unfoldable pub overlay_front : Front → List ℕ → List ℕ
overlay_front f m = overlays m (front_pieces f)
