-- One part of a front stored over memory that holds a front is the front with that part over it: the other parts stand there already.
use Prim.Native.Nat.{ℕ, ◌<◌}
use mathlib.Core.Path.{◌≡◌, refl, ap, ap₂, ◌∙◌}
use native.Mathlib.Omega.{arith}
use mathlib.Core.List.{List, [], ◌∷◌, ◌++◌, map}
use lib.ListN.{length, replicate}
use Rattle.memory.specs.Bytes.{overlay, Has}
use Rattle.memory.specs.Numbers.{number_bytes}
use Rattle.columns.specs.Columns.{column_bytes}
use Rattle.columns.specs.Pieces.{Piece, piece, overlays}
use Rattle.columns.proofs.Pieces.{overlays-one}
use Rattle.columns.proofs.Within.{store-within}
use Rattle.model.specs.Parts.{Marks}
use Rattle.state.specs.Layout.{february, front_length, indexes_place, offsets_place, name_lengths_place, statuses_place, text_place, before_first}
use Rattle.state.specs.Rows.{Row, row_index, name_length, row_status, offsets_from, text_bytes, rows_size}
use Rattle.state.specs.Front.{Front, with_rows, with_deletes, with_marks, head_bytes, marks_bytes, front_pieces, overlay_front}
use Rattle.state_laws.proofs.FrontHolds.{FineFront, HoldsFront}
use Rattle.state_laws.proofs.FrontLengths.{rows_size-text}
use Rattle.state_laws.proofs.FrontOverlay.{pieces-order}
use Rattle.table.specs.Changes.{fresh_front, started}
use Rattle.table_rows.specs.Rows.{recorded}
use Rattle.table_laws.proofs.FrontRows.{Alike, alike-length, alike-indexes, alike-names, alike-offsets, alike-text}
use Rattle.table_laws.proofs.FrontFits.{marks-fit, deletes-fit}

-- the held size and the count of rows, as they stand in the head
abbrev pub record_of : List Row → List ℕ
record_of rs = number_bytes 2 (rows_size rs) ++ number_bytes 2 (length rs)

pub recorded-is : (m : List ℕ) (rs : List Row) (held count : ℕ) → held ≡ rows_size rs → count ≡ length rs
    → recorded m held count ≡ overlay m 4 (record_of rs)
unfolding recorded number_bytes
recorded-is m rs held count d e = ap₂ (recorded m) d e

-- the pieces behind the head, and those behind the marks
abbrev columns : Front → List Piece
columns f =
    piece indexes_place (column_bytes 4 (before_first ∷ map row_index f.rows))
    ∷ piece offsets_place (column_bytes 2 (offsets_from 0 f.rows))
    ∷ piece name_lengths_place (column_bytes 1 (map name_length f.rows))
    ∷ piece statuses_place (column_bytes 2 (map row_status f.rows))
    ∷ piece text_place (text_bytes f.rows)
    ∷ []

module _ (f : Front) (m : List ℕ) (H : HoldsFront f m) where
  -- ---- the head

  pub record-head : (rs : List Row) → overlay m 4 (record_of rs) ≡ overlay m 0 (head_bytes (with_rows f rs))
  unfolding head_bytes number_bytes
  record-head rs =
      store-within m 0 (f.role ∷ february ∷ number_bytes 2 f.limit) (record_of f.rows) (record_of rs) (number_bytes 2 f.deletes ++ replicate 54 0)
      refl H.head

  deletes-head : (n : ℕ) → overlay m 8 (number_bytes 2 n) ≡ overlay m 0 (head_bytes (with_deletes f n))
  unfolding head_bytes number_bytes
  deletes-head n =
      store-within m 0 (f.role ∷ february ∷ number_bytes 2 f.limit ++ record_of f.rows) (number_bytes 2 f.deletes) (number_bytes 2 n) (replicate 54 0)
      refl H.head

  pub deletes-front : (n : ℕ) → n < 65536 → overlay m 8 (number_bytes 2 n) ≡ overlay_front (with_deletes f n) m
  unfolding overlay_front front_pieces
  deletes-front n low =
      deletes-head n
      ∙ overlays-one m 0 front_length [] 0 (head_bytes (with_deletes f n)) (piece 64 (marks_bytes f.marks) ∷ columns f)
      (pieces-order (with_deletes f n) (deletes-fit f H.fine n low)) tt
      (H.marks, (H.indexes, (H.offsets, (H.names, (H.statuses, (H.text, tt))))))

  -- ---- the marks

  marks-head : (k : Marks) → Has m 0 (head_bytes (with_marks f k))
  unfolding head_bytes
  marks-head k = H.head

  pub marks-stored : (k : Marks) → overlay m 64 (marks_bytes k) ≡ overlay_front (with_marks f k) m
  unfolding overlay_front front_pieces
  marks-stored k =
      overlays-one m 0 front_length (piece 0 (head_bytes (with_marks f k)) ∷ []) 64 (marks_bytes k) (columns f)
      (pieces-order (with_marks f k) (marks-fit f H.fine k)) (marks-head k, tt)
      (H.indexes, (H.offsets, (H.names, (H.statuses, (H.text, tt)))))

  -- ---- the statuses, of the same entries at the same indexes

  module _ (rs : List Row) (a : Alike rs f.rows) (G : FineFront (with_rows f rs)) where
    rows_head : Has m 0 (head_bytes (with_rows f rs))
    unfolding head_bytes
    rows_head =
        let n : length rs ≡ length f.rows = alike-length rs f.rows a in
        let t : text_bytes rs ≡ text_bytes f.rows = alike-text rs f.rows a in
        let s : rows_size rs ≡ rows_size f.rows = omega (arith, rows_size-text rs, rows_size-text f.rows, ap length t) in
        rw (s, n) H.head

    pub statuses-stored : overlay m statuses_place (column_bytes 2 (map row_status rs)) ≡ overlay_front (with_rows f rs) m
    unfolding overlay_front front_pieces
    statuses-stored =
        let i : map row_index rs ≡ map row_index f.rows = alike-indexes rs f.rows a in
        let o : offsets_from 0 rs ≡ offsets_from 0 f.rows = alike-offsets 0 rs f.rows a in
        let n : map name_length rs ≡ map name_length f.rows = alike-names rs f.rows a in
        let t : text_bytes rs ≡ text_bytes f.rows = alike-text rs f.rows a in
        overlays-one m 0 front_length
        (piece 0 (head_bytes (with_rows f rs)) ∷ piece 64 (marks_bytes f.marks) ∷ piece indexes_place (column_bytes 4 (before_first ∷ map row_index rs))
        ∷ piece offsets_place (column_bytes 2 (offsets_from 0 rs)) ∷ piece name_lengths_place (column_bytes 1 (map name_length rs)) ∷ [])
        statuses_place (column_bytes 2 (map row_status rs)) (piece text_place (text_bytes rs) ∷ [])
        (pieces-order (with_rows f rs) G)
        (rows_head, (H.marks, (rw i H.indexes, (rw o H.offsets, (rw n H.names, tt))))) (rw t H.text, tt)

-- ---- a fresh front

pub start-front : (m : List ℕ) (role limit : ℕ) → started m role limit ≡ overlay_front (fresh_front role limit) m
unfolding started overlay_front front_pieces overlays column_bytes number_bytes offsets_from text_bytes
start-front m role limit = refl
