-- Memory that holds a front reads back as it: the head number by number, the rows one after the other, the marks stream by stream.
use Prim.Native.Nat.{ℕ, ◌+◌, ◌*◌, ◌≤◌, ◌<◌}
use mathlib.Core.Path.{◌≡◌, ap, subst, ◌∙◌}
use native.Mathlib.Omega.{arith}
use native.Mathlib.Nat.{zero-add}
use mathlib.Core.Bool.{Bool, true, false, not, not-not}
use mathlib.Core.List.{List, ◌∷◌, ◌++◌, map}
use borrow.Author.Tests.{lt-ltb}
use lib.Dec.{ltb}
use lib.ListN.{length, replicate}
use Rattle.memory.specs.Bytes.{Has}
use Rattle.memory.specs.Numbers.{number_bytes}
use Rattle.memory.specs.Compare.{zeros_at}
use Rattle.memory.proofs.Order.{pick_true}
use Rattle.memory.proofs.Places.{has_left, has_right}
use Rattle.memory.proofs.Zeros.{has-zeros}
use Rattle.columns.specs.Columns.{Reads}
use Rattle.columns.proofs.Columns.{Fits, column-reads}
use Rattle.marks.specs.Marks.{is_set, words_bytes}
use Rattle.marks.proofs.Words.{words-length, words-read}
use Rattle.model.specs.Parts.{Part, nontrailer, trailer, streams}
use Rattle.state.specs.Layout.{
  february,
  marks_place,
  indexes_place,
  offsets_place,
  name_lengths_place,
  statuses_place,
  before_first,
  role_of,
  edition_of,
  limit_of,
  held_of,
  count_of,
  delete_count,
  index_before,
  offset_at,
}
use Rattle.state.specs.Rows.{Row, row_index, name_length, row_status, rows_of, offsets_from, text_bytes, rows_size}
use Rattle.state.specs.Front.{Front, marks_of, head_bytes, marks_bytes}
use Rattle.state_laws.proofs.FrontHolds.{FineFront, HoldsFront}
use Rattle.state_laws.proofs.FrontLengths.{rows_size-text, indexes-fit, offsets-fit, names-fit, statuses-fit}
use Rattle.state_laws.proofs.NumberRuns.{number_read, number-next}
use Rattle.state_laws.proofs.RowsRead.{RowRead, RowsRead, ColumnsRead, offsets-first, rows-read, rows_are, rows_end, rows_split}

-- the text of a fine front has room in its part of memory
pub fine-text : (f : Front) → FineFront f → length (text_bytes f.rows) + 32 * length f.rows ≤ 4096
fine-text f F = omega (arith, F.fits, rows_size-text f.rows)

-- so that every offset of it has two bytes
pub offsets-fine : (f : Front) → FineFront f → Fits 2 (offsets_from 0 f.rows)
offsets-fine f F = offsets-fit 0 f.rows (omega (arith, fine-text f F))

module _ (f : Front) where
  -- what of the head follows a number of it
  abbrev pub after_count : List ℕ
  after_count = number_bytes 2 f.deletes ++ replicate 54 0

  abbrev pub after_held : List ℕ
  after_held = number_bytes 2 (length f.rows) ++ after_count

  abbrev pub after_limit : List ℕ
  after_limit = number_bytes 2 (rows_size f.rows) ++ after_held

module _ (f : Front) (m : List ℕ) (H : HoldsFront f m) where
  -- ---- the head

  pub read-role : role_of m ≡ f.role
  unfolding head_bytes
  read-role = H.head.1

  pub read-edition : edition_of m ≡ february
  unfolding head_bytes
  read-edition = H.head.2.1

  at-limit : Has m (0 + 2) (number_bytes 2 f.limit ++ after_limit f)
  unfolding head_bytes
  at-limit = H.head.2.2

  at_held : Has m (0 + 4) (after_limit f)
  at_held = number-next m 0 2 2 f.limit (after_limit f) at-limit

  at_count : Has m (0 + 6) (after_held f)
  at_count = number-next m 0 4 2 (rows_size f.rows) (after_held f) at_held

  at-deletes : Has m (0 + 8) (after_count f)
  at-deletes = number-next m 0 6 2 (length f.rows) (after_count f) at_count

  pub read-limit : limit_of m ≡ f.limit
  read-limit = number_read m 0 2 2 f.limit (after_limit f) H.fine.limit at-limit

  pub read_held : held_of m ≡ rows_size f.rows
  read_held = number_read m 0 4 2 (rows_size f.rows) (after_held f) (omega (arith, H.fine.fits)) at_held

  pub read_count : count_of m ≡ length f.rows
  read_count = number_read m 0 6 2 (length f.rows) (after_count f) (omega (arith, H.fine.few)) at_count

  pub read-deletes : delete_count m ≡ f.deletes
  read-deletes = number_read m 0 8 2 f.deletes (replicate 54 0) H.fine.deletes at-deletes

  pub read-zeros : zeros_at 54 m 10 ≡ true
  read-zeros = has-zeros 54 m 10 (number-next m 0 8 2 f.deletes (replicate 54 0) at-deletes)

  -- ---- the rows

  read-indexes : Reads 4 m indexes_place (before_first ∷ map row_index f.rows)
  read-indexes = column-reads 4 m indexes_place (before_first ∷ map row_index f.rows) (omega arith, indexes-fit f.rows H.fine.rows) H.indexes

  read-columns : ColumnsRead m 0 0 f.rows
  read-columns = record {
    indexes = read-indexes.1;
    offsets = column-reads 2 m offsets_place (offsets_from 0 f.rows) (offsets-fine f H.fine) H.offsets;
    names = column-reads 1 m name_lengths_place (map name_length f.rows) (names-fit f.rows H.fine.rows) H.names;
    statuses = column-reads 2 m statuses_place (map row_status f.rows) (statuses-fit f.rows H.fine.rows) H.statuses;
  }

  -- what stands in front of the first index, where the text starts, and where it ends
  pub read-guard : index_before m 0 ≡ before_first
  read-guard = read-indexes.0

  pub read-start : offset_at m 0 ≡ 0
  read-start = offsets-first m offsets_place 0 f.rows read-columns.offsets

  pub read-each : RowsRead m 0 0 f.rows
  read-each = rows-read m f.rows 0 0 read-columns H.text

  pub read-end : offset_at m (count_of m) ≡ length (text_bytes f.rows)
  read-end =
      ap (offset_at m) read_count
      ∙ (rw (zero-add (length f.rows), zero-add (length (text_bytes f.rows))) at (rows_end m f.rows 0 0 read-start read-each))

  pub read-rows : rows_of m 0 (count_of m) ≡ f.rows
  read-rows = ap (rows_of m 0) read_count ∙ rows_are m f.rows 0 0 read-each

  -- the row at a split
  pub read-split : (xs : List Row) (r : Row) (ys : List Row) → f.rows ≡ xs ++ r ∷ ys → RowRead m (length xs) (length (text_bytes xs)) r
  read-split xs r ys e =
      rw (zero-add (length xs), zero-add (length (text_bytes xs))) at (rows_split m xs r ys 0 0 (subst (RowsRead m 0 0) e read-each))

  -- ---- the marks

  read-words : (p : Part) → Has m (marks_place p) (words_bytes (λ s. not (f.marks s p)) 0 64)
  unfolding marks_bytes
  read-words nontrailer =
      has_left m 64 (words_bytes (λ s. not (f.marks s nontrailer)) 0 64) (words_bytes (λ s. not (f.marks s trailer)) 0 64) H.marks
  read-words trailer =
      let a : ℕ → Bool = λ s. not (f.marks s nontrailer) in
      rw (words-length a 0 64) at (has_right m 64 (words_bytes a 0 64) (words_bytes (λ s. not (f.marks s trailer)) 0 64) H.marks)

  pub read-marks : (s : ℕ) (p : Part) → s < 4096 → marks_of m s p ≡ f.marks s p
  unfolding marks_of
  read-marks s p h =
      pick_true (ltb s streams) (not (is_set m (marks_place p) s)) false (lt-ltb s streams h)
      ∙ ap not (words-read m (λ t. not (f.marks t p)) (marks_place p) (read-words p) s h)
      ∙ not-not (f.marks s p)
