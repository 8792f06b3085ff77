-- A status stored in memory that holds a front, and lower statuses in all its rows, are the front with those rows over it: their column is stored anew.
use Prim.Native.Nat.{ℕ, ◌+◌, ◌*◌, ◌<◌}
use mathlib.Core.Path.{◌≡◌, refl, sym, ap, subst, ◌∙◌}
use mathlib.Core.List.{List, [], ◌∷◌, ◌++◌, map, map-append}
use lib.ListN.{length, length-map}
use Rattle.memory.specs.Bytes.{overlay, Has}
use Rattle.memory.specs.Numbers.{number_bytes}
use Rattle.columns.specs.Columns.{column_bytes, changed}
use Rattle.columns.proofs.Columns.{column-set, column-changed}
use Rattle.state.specs.Layout.{statuses_place, count_of}
use Rattle.state.specs.Rows.{Row, row_status}
use Rattle.state.specs.Front.{Front, with_rows, overlay_front}
use Rattle.state_laws.proofs.FrontHolds.{HoldsFront}
use Rattle.state_laws.proofs.FrontLengths.{statuses-fit}
use Rattle.state_laws.proofs.FrontRead.{read_count}
use Rattle.table_rows.specs.Rows.{status_set}
use Rattle.deletes.specs.Deletes.{lowered as lower, renumbered}
use Rattle.table_laws.proofs.FrontRows.{Alike, with_status, lowered, alike-status, alike-lowered}
use Rattle.table_laws.proofs.FrontFits.{status-fits, renumber-fits}
use Rattle.table_laws.proofs.FrontStores.{statuses-stored}

lowered-statuses : (status : ℕ) (rs : List Row) → map (lower status) (map row_status rs) ≡ map row_status (map (lowered status) rs)
lowered-statuses status [] = refl
lowered-statuses status (r ∷ rs) = ap (λ (l : List ℕ). lower status r.status ∷ l) (lowered-statuses status rs)

module _ (f : Front) (m : List ℕ) (H : HoldsFront f m) where
  pub status-front : (xs : List Row) (r : Row) (ys : List Row) → f.rows ≡ xs ++ r ∷ ys → (status : ℕ) → status < 65536
      → status_set m (length xs) status ≡ overlay_front (with_rows f (xs ++ with_status r status ∷ ys)) m
  unfolding status_set
  status-front xs r ys e status low =
      let us : List ℕ = map row_status xs in
      let vs : List ℕ = map row_status ys in
      let rs : List Row = xs ++ with_status r status ∷ ys in
      let stand : Has m statuses_place (column_bytes 2 (us ++ r.status ∷ vs)) =
      subst (λ (l : List ℕ). Has m statuses_place (column_bytes 2 l)) (ap (map row_status) e ∙ map-append row_status xs (r ∷ ys)) H.statuses in
      ap (λ (n : ℕ). overlay m (1990 + 2 * n) (number_bytes 2 status)) (sym (length-map xs row_status))
      ∙ column-set 2 m statuses_place us r.status vs status stand
      ∙ ap (λ (l : List ℕ). overlay m statuses_place (column_bytes 2 l)) (sym (map-append row_status xs (with_status r status ∷ ys)))
      ∙ statuses-stored f m H rs (subst (Alike rs) (sym e) (alike-status xs r ys status)) (status-fits f H.fine xs r ys e status low)

  pub renumber-front : (status : ℕ) → renumbered status (count_of m) m ≡ overlay_front (with_rows f (map (lowered status) f.rows)) m
  unfolding renumbered
  renumber-front status =
      ap (λ (k : ℕ). changed (lower status) 2 k m statuses_place) (read_count f m H ∙ sym (length-map f.rows row_status))
      ∙ column-changed (lower status) 2 m statuses_place [] (map row_status f.rows) (statuses-fit f.rows H.fine.rows) H.statuses
      ∙ ap (λ (l : List ℕ). overlay m statuses_place (column_bytes 2 l)) (lowered-statuses status f.rows)
      ∙ statuses-stored f m H (map (lowered status) f.rows) (alike-lowered status f.rows) (renumber-fits f H.fine status)
