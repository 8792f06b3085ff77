-- After each change memory holds the front that the change leaves: that front is over the old memory, and its numbers fit.
use Prim.Native.Nat.{ℕ, ◌+◌, ◌≤◌, ◌<◌}
use mathlib.Core.Path.{◌≡◌, sym, subst}
use mathlib.Core.List.{List, ◌∷◌, ◌++◌, map}
use lib.ListN.{length}
use Rattle.memory.specs.Bytes.{overlay}
use Rattle.memory.specs.Numbers.{number_bytes}
use Rattle.marks.specs.Marks.{cleared}
use Rattle.model.specs.Parts.{Part, mark, mark_both}
use Rattle.state.specs.Layout.{marks_place, count_of}
use Rattle.state.specs.Rows.{Row, rows_size}
use Rattle.state.specs.Front.{Front, with_rows, with_deletes, with_marks}
use Rattle.state_laws.proofs.FrontHolds.{HoldsFront}
use Rattle.state_laws.proofs.FrontOverlay.{overlay-holds}
use Rattle.parts.specs.Close.{closed_both}
use Rattle.table.specs.Changes.{inserted, removed, fresh_front, started}
use Rattle.table_rows.specs.Rows.{status_set}
use Rattle.deletes.specs.Deletes.{renumbered}
use Rattle.table_laws.proofs.Fronts.{kept-front}
use Rattle.table_laws.proofs.FrontRows.{with_status, lowered}
use Rattle.table_laws.proofs.FrontFits.{new_row, fresh-fits, marks-fit, deletes-fit, renumber-fits, insert-fits, remove-fits, status-fits}
use Rattle.table_laws.proofs.FrontStores.{deletes-front, start-front}
use Rattle.table_laws.proofs.FrontMarks.{marks-front, both-front}
use Rattle.table_laws.proofs.FrontStatus.{status-front, renumber-front}
use Rattle.table_laws.proofs.FrontInsert.{insert-front}
use Rattle.table_laws.proofs.FrontRemove.{remove-front}

pub start-holds : (m : List ℕ) (role limit : ℕ) → 7232 ≤ length m → limit < 65536 → HoldsFront (fresh_front role limit) (started m role limit)
start-holds m role limit long low =
    subst (HoldsFront (fresh_front role limit)) (sym (start-front m role limit)) (overlay-holds (fresh_front role limit) m long (fresh-fits role limit low))

module _ (f : Front) (m : List ℕ) (H : HoldsFront f m) where
  pub insert-holds : (xs ys : List Row) → f.rows ≡ xs ++ ys → (index : ℕ) (name value : List ℕ)
      → rows_size f.rows + (length name + length value + 32) ≤ 4096 → length f.rows < 128 → index < 4294967296 → length name ≤ 255
      → HoldsFront (with_rows f (xs ++ new_row index name value ∷ ys)) (inserted m (length xs) index name value)
  insert-holds xs ys e index name value room few low short =
      kept-front f (with_rows f (xs ++ new_row index name value ∷ ys)) m (inserted m (length xs) index name value) H
      (insert-fits f H.fine xs ys e index name value room few low short) (insert-front f m H xs ys e index name value room few low short)

  pub remove-holds : (xs : List Row) (r : Row) (ys : List Row) → f.rows ≡ xs ++ r ∷ ys → HoldsFront (with_rows f (xs ++ ys)) (removed m (length xs))
  remove-holds xs r ys e =
      kept-front f (with_rows f (xs ++ ys)) m (removed m (length xs)) H (remove-fits f H.fine xs r ys e) (remove-front f m H xs r ys e)

  pub status-holds : (xs : List Row) (r : Row) (ys : List Row) → f.rows ≡ xs ++ r ∷ ys → (status : ℕ) → status < 65536
      → HoldsFront (with_rows f (xs ++ with_status r status ∷ ys)) (status_set m (length xs) status)
  status-holds xs r ys e status low =
      kept-front f (with_rows f (xs ++ with_status r status ∷ ys)) m (status_set m (length xs) status) H
      (status-fits f H.fine xs r ys e status low) (status-front f m H xs r ys e status low)

  pub renumber-holds : (status : ℕ) → HoldsFront (with_rows f (map (lowered status) f.rows)) (renumbered status (count_of m) m)
  renumber-holds status =
      kept-front f (with_rows f (map (lowered status) f.rows)) m (renumbered status (count_of m) m) H
      (renumber-fits f H.fine status) (renumber-front f m H status)

  pub deletes-hold : (n : ℕ) → n < 65536 → HoldsFront (with_deletes f n) (overlay m 8 (number_bytes 2 n))
  deletes-hold n low = kept-front f (with_deletes f n) m (overlay m 8 (number_bytes 2 n)) H (deletes-fit f H.fine n low) (deletes-front f m H n low)

  pub marks-hold : (s : ℕ) → s < 4096 → (p : Part) → HoldsFront (with_marks f (mark s p f.marks)) (cleared m (marks_place p) s)
  marks-hold s h p =
      kept-front f (with_marks f (mark s p f.marks)) m (cleared m (marks_place p) s) H
      (marks-fit f H.fine (mark s p f.marks)) (marks-front f m H s h p)

  pub both_hold : (s : ℕ) → s < 4096 → HoldsFront (with_marks f (mark_both s f.marks)) (closed_both m s)
  both_hold s h =
      kept-front f (with_marks f (mark_both s f.marks)) m (closed_both m s) H
      (marks-fit f H.fine (mark_both s f.marks)) (both-front f m H s h)
