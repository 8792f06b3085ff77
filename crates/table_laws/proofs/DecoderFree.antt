-- An entry freed with its delete, in memory that holds a decoder's state, is the next state over it: row and text are closed up, the deletes behind its delete
-- too, and the statuses that point at them come down.
use Prim.Native.Nat.{ℕ, suc, ◌+◌, ◌*◌, ◌-◌, ◌<◌}
use mathlib.Core.Path.{◌≡◌, sym, ap, ap₂, subst, ◌∙◌}
use native.Mathlib.Omega.{arith}
use mathlib.Core.List.{List, ◌∷◌, ◌++◌, map, map-append}
use lib.ListN.{length, length-append}
use Rattle.memory.specs.Bytes.{part, overlay, moved, Has}
use Rattle.memory.specs.Numbers.{number_bytes}
use Rattle.memory.proofs.Overlay.{overlay-append}
use Rattle.memory.proofs.Places.{has_left, has_right, has_part}
use Rattle.model.specs.Table.{cut}
use Rattle.model.specs.Parts.{Delete}
use Rattle.model.specs.Decoder.{held_index, delete_index, Decoder, without}
use Rattle.state.specs.Layout.{deletes_place, delete_place, count_of, delete_count, status_at}
use Rattle.state.specs.Rows.{Row, text_bytes}
use Rattle.state.specs.Front.{Front, with_rows, with_deletes, overlay_front}
use Rattle.state.specs.DecoderState.{delete_bytes, deletes_bytes, row_of_held, decoder_front, overlay_decoder}
use Rattle.state_laws.proofs.FrontHolds.{FineFront, HoldsFront}
use Rattle.state_laws.proofs.FrontRead.{read_count, read-deletes}
use Rattle.state_laws.proofs.FrontOverlay.{length-overlay_front, front-beyond, holds-beyond}
use Rattle.state_laws.proofs.DeletesRead.{length-delete_bytes, length-deletes_bytes}
use Rattle.state_laws.proofs.HeldRows.{fits-few}
use Rattle.state_laws.proofs.DecoderHolds.{HoldsDecoder}
use Rattle.table.specs.Changes.{Removing, removed}
use Rattle.deletes.specs.Deletes.{renumbered, Dropping, dropped}
use Rattle.table_laws.proofs.Fronts.{over-front}
use Rattle.table_laws.proofs.FrontRows.{lowered, alike-lowered, alike-length, alike-text}
use Rattle.table_laws.proofs.FrontFits.{remove-fits, deletes-fit, renumber-fits}
use Rattle.table_laws.proofs.FrontStores.{deletes-front}
use Rattle.table_laws.proofs.FrontStatus.{renumber-front}
use Rattle.table_laws.proofs.FrontRemove.{removing-front, remove-front}
use Rattle.table_laws.proofs.FrontKept.{remove-holds, deletes-hold}
use Rattle.table_laws.proofs.Finding.{FoundAt}
use Rattle.table_laws.proofs.DecoderRows.{rows_dropped}
use Rattle.table_laws.proofs.DecoderSearches.{bytes-append, split_rows, before-is, others, delete-at, delete-below, delete-halves, deletes-stand}
use Rattle.table_laws.proofs.DecoderFronts.{stays, stays-has}

module _ (D : Decoder) (m : List ℕ) (H : HoldsDecoder D m) (x p : ℕ) (F : FoundAt held_index x p D.entries) where
  abbrev ds : List Delete
  ds = D.deletes

  abbrev f : Front
  f = decoder_front D

  abbrev xs : List Row
  xs = map (row_of_held ds) F.before

  abbrev r : Row
  r = row_of_held ds F.entry

  abbrev ys : List Row
  ys = map (row_of_held ds) F.after

  split_at : f.rows ≡ xs ++ r ∷ ys
  split_at = split_rows D m H x p F

  pub removing-decoder : Removing m p
  removing-decoder = subst (Removing m) (before-is D m H x p F) (removing-front f m H.front xs r ys split_at)

  -- ---- the row taken out

  abbrev g : Front
  g = with_rows f (xs ++ ys)

  g-fits : FineFront g
  g-fits = remove-fits f H.front.fine xs r ys split_at

  abbrev n : List ℕ
  n = removed m (length xs)

  n-is : n ≡ overlay_front g m
  n-is = remove-front f m H.front xs r ys split_at

  n-holds : HoldsFront g n
  n-holds = remove-holds f m H.front xs r ys split_at

  n-count : delete_count n ≡ length ds
  unfolding decoder_front
  n-count = read-deletes g n n-holds

  module _ (k : ℕ) (s : status_at m p ≡ suc k) where
    pub dropping-decoder : Dropping (removed m p) k
    dropping-decoder =
        subst (λ (q : ℕ). Dropping (removed m q) k) (before-is D m H x p F) (record {
          long = omega (arith, ap length n-is, length-overlay_front g m, H.long);
          rows = omega (arith, read_count g n n-holds, g-fits.few);
          few = omega (arith, n-count, fits-few D H.fits);
          below = omega (arith, n-count, delete-below D m H x p F k s);
        })

    abbrev G : FoundAt delete_index x k ds
    G = delete-at D m H x p F k s

    abbrev before : List Delete
    before = G.before

    abbrev after : List Delete
    after = G.after

    -- ---- the deletes behind its delete moved down

    count : length ds ≡ k + suc (length after)
    count = omega (arith, G.at, ap length G.is, length-append before (G.entry ∷ after))

    behind : Has m (delete_place (k + 1)) (deletes_bytes after)
    unfolding deletes_bytes
    behind =
        let e : delete_place (k + 1) ≡ delete_place k + length (delete_bytes G.entry) =
        omega (arith, length-delete_bytes G.entry (delete-halves D m H x p F k s).after.0) in
        rw e (has_right m (delete_place k) (delete_bytes G.entry) (deletes_bytes after) (deletes-stand D m H x p F k s))

    abbrev n1 : List ℕ
    n1 = overlay n (delete_place k) (deletes_bytes after)

    closed : moved n (delete_place k) (delete_place (k + 1)) (76 * (delete_count n - (k + 1))) ≡ n1
    closed =
        let e : 76 * (delete_count n - (k + 1)) ≡ length (deletes_bytes after) =
        omega (arith, n-count, count, length-deletes_bytes after (delete-halves D m H x p F k s).after.1) in
        let here : Has n (delete_place (k + 1)) (deletes_bytes after) =
        subst (λ (l : List ℕ). Has l (delete_place (k + 1)) (deletes_bytes after)) (sym n-is)
        (stays-has g g-fits m (delete_place (k + 1)) (deletes_bytes after) (omega arith) behind
        (omega (arith, H.long, count, fits-few D H.fits))) in
        ap (overlay n (delete_place k)) (ap (part n (delete_place (k + 1))) e ∙ has_part n (delete_place (k + 1)) (deletes_bytes after) here)

    -- ---- one delete less, and lower statuses

    abbrev c : ℕ
    c = length ds - 1

    abbrev g2 : Front
    g2 = with_deletes g c

    abbrev g3 : Front
    g3 = with_rows g2 (map (lowered (k + 1)) (xs ++ ys))

    few : c < 65536
    few = omega (arith, fits-few D H.fits)

    g2-fits : FineFront g2
    g2-fits = deletes-fit g g-fits c few

    g3-fits : FineFront g3
    g3-fits = renumber-fits g2 g2-fits (k + 1)

    n1-holds : HoldsFront g n1
    n1-holds = holds-beyond g n (delete_place k) (deletes_bytes after) (omega arith) n-holds

    abbrev n2 : List ℕ
    n2 = overlay n1 8 (number_bytes 2 c)

    n2-holds : HoldsFront g2 n2
    n2-holds = deletes-hold g n1 n1-holds c few

    same_text : length (text_bytes (map (lowered (k + 1)) (xs ++ ys))) ≡ length (text_bytes (xs ++ ys))
    same_text = ap length (alike-text (map (lowered (k + 1)) (xs ++ ys)) (xs ++ ys) (alike-lowered (k + 1) (xs ++ ys)))

    lowered-front : renumbered (k + 1) (count_of n) n2 ≡ overlay (overlay_front g3 m) (delete_place k) (deletes_bytes after)
    lowered-front =
        let e : count_of n ≡ count_of n2 = read_count g n n-holds ∙ sym (read_count g2 n2 n2-holds) in
        let l = alike-length (map (lowered (k + 1)) (xs ++ ys)) (xs ++ ys) (alike-lowered (k + 1) (xs ++ ys)) in
        ap (λ (q : ℕ). renumbered (k + 1) q n2) e
        ∙ renumber-front g2 n2 n2-holds (k + 1)
        ∙ ap (overlay_front g3) (deletes-front g n1 n1-holds c few)
        ∙ over-front g2 g3 n1 g3-fits l same_text
        ∙ front-beyond g3 n (delete_place k) (deletes_bytes after) (omega arith) g3-fits
        ∙ ap (λ (t : List ℕ). overlay t (delete_place k) (deletes_bytes after)) (ap (overlay_front g3) n-is ∙ over-front g g3 m g3-fits l same_text)

    -- ---- the next state

    rows_next : map (lowered (k + 1)) (xs ++ ys) ≡ map (row_of_held (cut delete_index x ds)) (cut held_index x D.entries)
    rows_next =
        ap (map (lowered (k + 1))) (sym (map-append (row_of_held ds) F.before F.after))
        ∙ sym (rows_dropped ds x k G (F.before ++ F.after) (others D m H x p F))
        ∙ ap (map (row_of_held (cut delete_index x ds))) (sym F.rest)

    count_next : c ≡ length (cut delete_index x ds)
    count_next = omega (arith, count, G.at, ap length G.rest, length-append before after)

    front-next : g3 ≡ decoder_front (without D x)
    unfolding decoder_front without
    front-next = ap₂ (λ (rs : List Row) (q : ℕ). with_rows (with_deletes g q) rs) rows_next count_next

    bytes_next : (l : List ℕ) → overlay l deletes_place (deletes_bytes before) ≡ l
        → overlay l (delete_place k) (deletes_bytes after) ≡ overlay l deletes_place (deletes_bytes (cut delete_index x ds))
    bytes_next l same =
        let e : delete_place k ≡ deletes_place + length (deletes_bytes before) = omega (arith, G.at, (delete-halves D m H x p F k s).before) in
        ap₂ (λ (t : List ℕ) (a : ℕ). overlay t a (deletes_bytes after)) (sym same) e
        ∙ sym (overlay-append l deletes_place (deletes_bytes before) (deletes_bytes after))
        ∙ ap (overlay l deletes_place) (sym (ap deletes_bytes G.rest ∙ bytes-append before after))

    pub free-decoder : dropped (removed m p) k ≡ overlay_decoder (without D x) m
    unfolding dropped overlay_decoder without
    free-decoder =
        let stand : Has m deletes_place (deletes_bytes before) =
        has_left m deletes_place (deletes_bytes before) (deletes_bytes (G.entry ∷ after))
        (subst (Has m deletes_place) (ap deletes_bytes G.is ∙ bytes-append before (G.entry ∷ after)) H.deletes) in
        ap (λ (q : ℕ). dropped (removed m q) k) (sym (before-is D m H x p F))
        ∙ ap₂ (λ (t : List ℕ) (q : ℕ). renumbered (k + 1) (count_of n) (overlay t 8 (number_bytes 2 (q - 1)))) closed n-count
        ∙ lowered-front
        ∙ bytes_next (overlay_front g3 m) (stays g3 g3-fits m deletes_place (deletes_bytes before) (omega arith) stand)
        ∙ ap (λ (e : Front). overlay (overlay_front e m) deletes_place (deletes_bytes (cut delete_index x ds))) front-next
