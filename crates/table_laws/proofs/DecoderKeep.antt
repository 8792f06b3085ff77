-- A delete kept in memory that holds a decoder's state is the next state over it: its bytes follow the others', and its entry's row points at it.
use Prim.Native.Nat.{ℕ, ◌+◌, ◌<◌}
use mathlib.Core.Path.{◌≡◌, refl, sym, ap, ap₂, ◌∙◌}
use native.Mathlib.Omega.{arith}
use mathlib.Core.List.{List, [], ◌∷◌, ◌++◌, map, append-nil, map-append}
use lib.ListN.{length, length-append}
use Rattle.memory.specs.Bytes.{overlay}
use Rattle.memory.specs.Numbers.{number_bytes}
use Rattle.memory.proofs.Overlay.{overlay-append}
use Rattle.model.specs.Parts.{Delete}
use Rattle.model.specs.Decoder.{held_index, Decoder}
use Rattle.model_laws.proofs.DecoderWays.{with_delete}
use Rattle.state.specs.Layout.{deletes_place, delete_place, status_at}
use Rattle.state.specs.Rows.{Row}
use Rattle.state.specs.Front.{Front, with_rows, with_deletes, overlay_front}
use Rattle.state.specs.DecoderState.{delete_bytes, deletes_bytes, row_of_held, decoder_front, overlay_decoder}
use Rattle.state_laws.proofs.FrontHolds.{FineFront, HoldsFront}
use Rattle.state_laws.proofs.FrontOverlay.{front-beyond, holds-beyond}
use Rattle.state_laws.proofs.DeletesRead.{length-deletes_bytes}
use Rattle.state_laws.proofs.HeldRows.{fits-lists}
use Rattle.state_laws.proofs.DecoderHolds.{HoldsDecoder}
use Rattle.table_rows.specs.Rows.{status_set}
use Rattle.deletes.specs.Deletes.{appended}
use Rattle.table_laws.proofs.Fronts.{over-front}
use Rattle.table_laws.proofs.FrontRows.{with_status}
use Rattle.table_laws.proofs.FrontFits.{status-fits, deletes-fit}
use Rattle.table_laws.proofs.FrontStores.{deletes-front}
use Rattle.table_laws.proofs.FrontStatus.{status-front}
use Rattle.table_laws.proofs.FrontKept.{status-holds}
use Rattle.table_laws.proofs.Finding.{FoundAt}
use Rattle.table_laws.proofs.DecoderRows.{none_left, none_right, row_kept, rows-kept}
use Rattle.table_laws.proofs.DecoderSearches.{bytes-append, deletes-are, split_rows, before-is, others, not-deleted, deletes-few}
use Rattle.table_laws.proofs.DecoderFronts.{stays}

module _ (D : Decoder) (m : List ℕ) (H : HoldsDecoder D m) (d : Delete) (p : ℕ) (F : FoundAt held_index d.index p D.entries)
    (live : status_at m p ≡ 0) where
  abbrev ds : List Delete
  ds = D.deletes

  abbrev f : Front
  f = decoder_front D

  abbrev c : ℕ
  c = length ds

  abbrev xs : List Row
  xs = map (row_of_held ds) F.before

  abbrev r : Row
  r = row_of_held ds F.entry

  abbrev ys : List Row
  ys = map (row_of_held ds) F.after

  -- the front with the row that points at it, and with one delete more
  abbrev g : Front
  g = with_rows f (xs ++ with_status r (c + 1) ∷ ys)

  abbrev next : Decoder
  next = with_delete D d

  rows_next : xs ++ with_status r (c + 1) ∷ ys ≡ map (row_of_held (ds ++ d ∷ [])) D.entries
  rows_next =
      let n = others D m H d.index p F in
      let k = rows-kept ds d F.before (none_left held_index d.index F.before F.after n) in
      let l = rows-kept ds d F.after (none_right held_index d.index F.before F.after n) in
      let s = row_kept ds d F.entry F.has (not-deleted D m H d.index p F live) in
      sym (ap (map (row_of_held (ds ++ d ∷ []))) F.is ∙ map-append (row_of_held (ds ++ d ∷ [])) F.before (F.entry ∷ F.after)
      ∙ (λ j. k j ++ s j ∷ l j))

  front-next : with_deletes g (c + 1) ≡ decoder_front next
  unfolding decoder_front
  front-next =
      ap₂ (λ (rs : List Row) (n : ℕ). with_deletes (with_rows f rs) n) rows_next (sym (length-append ds (d ∷ [])))

  few : c < 128
  few = deletes-few D m H d.index p F live

  split_at : f.rows ≡ xs ++ r ∷ ys
  split_at = split_rows D m H d.index p F

  g-fits : FineFront g
  g-fits = status-fits f H.front.fine xs r ys split_at (c + 1) (omega (arith, few))

  -- its bytes, and then the front
  abbrev n : List ℕ
  n = overlay m (delete_place c) (delete_bytes d)

  n-holds : HoldsFront f n
  n-holds = holds-beyond f m (delete_place c) (delete_bytes d) (omega arith) H.front

  front_kept : overlay (status_set n (length xs) (c + 1)) 8 (number_bytes 2 (c + 1)) ≡ overlay (overlay_front (with_deletes g (c + 1)) m) (delete_place c) (delete_bytes d)
  front_kept =
      let h : Front = with_deletes g (c + 1) in
      let fit : FineFront h = deletes-fit g g-fits (c + 1) (omega (arith, few)) in
      deletes-front g (status_set n (length xs) (c + 1)) (status-holds f n n-holds xs r ys split_at (c + 1) (omega (arith, few))) (c + 1)
      (omega (arith, few))
      ∙ ap (overlay_front h) (status-front f n n-holds xs r ys split_at (c + 1) (omega (arith, few)))
      ∙ over-front g h n fit refl refl
      ∙ front-beyond h m (delete_place c) (delete_bytes d) (omega arith) fit

  -- its bytes after the others
  bytes-kept : (l : List ℕ) → overlay l deletes_place (deletes_bytes ds) ≡ l
      → overlay l (delete_place c) (delete_bytes d) ≡ overlay l deletes_place (deletes_bytes (ds ++ d ∷ []))
  unfolding deletes_bytes
  bytes-kept l same =
      let e : delete_place c ≡ deletes_place + length (deletes_bytes ds) = omega (arith, length-deletes_bytes ds (fits-lists D H.fits)) in
      ap₂ (λ (k : List ℕ) (a : ℕ). overlay k a (delete_bytes d)) (sym same) e
      ∙ sym (overlay-append l deletes_place (deletes_bytes ds) (delete_bytes d))
      ∙ ap (overlay l deletes_place) (sym (bytes-append ds (d ∷ []) ∙ ap (λ (b : List ℕ). deletes_bytes ds ++ b) (append-nil (delete_bytes d))))

  pub keep-decoder : appended m p d ≡ overlay_decoder next m
  unfolding appended overlay_decoder
  keep-decoder =
      let h : Front = with_deletes g (c + 1) in
      let fit : FineFront h = deletes-fit g g-fits (c + 1) (omega (arith, few)) in
      ap₂ (λ (k q : ℕ). overlay (status_set (overlay m (delete_place k) (delete_bytes d)) q (k + 1)) 8 (number_bytes 2 (k + 1))) (deletes-are D m H)
      (sym (before-is D m H d.index p F))
      ∙ front_kept
      ∙ bytes-kept (overlay_front h m) (stays h fit m deletes_place (deletes_bytes ds) (omega arith) H.deletes)
      ∙ ap (λ (e : Front). overlay (overlay_front e m) deletes_place (deletes_bytes (ds ++ d ∷ []))) front-next
