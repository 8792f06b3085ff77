-- What each change leaves of memory that holds an encoder's state is the model's next state over it: the front by the laws of its changes at the place where
-- the entry is found or missed, and the horizons by those of columns.
use Prim.Native.Nat.{ℕ, ◌+◌, ◌≤◌, ◌<◌}
use mathlib.Core.Path.{◌≡◌, refl, sym, ap, ap₂, subst, ◌∙◌}
use native.Mathlib.Omega.{arith}
use mathlib.Core.List.{List, [], ◌∷◌, ◌++◌, map, map-append}
use lib.Dec.{eqb}
use lib.ListN.{length, length-map, length-append}
use Rattle.memory.proofs.Order.{pick-both}
use Rattle.columns.specs.Columns.{column_bytes}
use Rattle.columns.specs.Pieces.{piece, overlays, HasAll}
use Rattle.model.specs.Table.{Ascending, put, cut}
use Rattle.model.specs.Parts.{Part, block_marks, streams}
use Rattle.model.specs.Encoder.{Sent, sent_index, Encoder, start_encoder, with_sent, with_written, new_sent, FineSent, as_deleted, mark_deleted, referred}
use Rattle.model_laws.proofs.Tables.{pick_yes, pick_no}
use Rattle.state.specs.Layout.{front_length, encoder_role, nontrailer_horizons, trailer_horizons, held_of, count_of}
use Rattle.state.specs.Rows.{Row, rows_size}
use Rattle.state.specs.Front.{Front, with_rows, overlay_front}
use Rattle.state.specs.EncoderState.{row_of_sent, encoder_front, nontrailer_of, trailer_of, horizon_pieces, overlay_encoder}
use Rattle.state_laws.proofs.FrontHolds.{FineFront}
use Rattle.state_laws.proofs.FrontRead.{read_held, read_count}
use Rattle.state_laws.proofs.FrontOverlay.{overlay-self}
use Rattle.state_laws.proofs.Each.{Each}
use Rattle.state_laws.proofs.Behind.{all-behind}
use Rattle.state_laws.proofs.Horizons.{horizons_end, horizons-order}
use Rattle.state_laws.proofs.EncoderHolds.{HoldsEncoder, fits_each}
use Rattle.state_laws.proofs.EncoderOverlay.{overlay-stands}
use Rattle.parts.specs.Close.{closed_by}
use Rattle.table.specs.Changes.{Opening, inserted, Removing, removed, started}
use Rattle.table_rows.specs.Rows.{status_set}
use Rattle.horizons.specs.Horizons.{raised, horizons_opened, horizons_closed}
use Rattle.table_laws.specs.EncoderChanges.{referred_at}
use Rattle.table_laws.proofs.FrontRows.{with_status}
use Rattle.table_laws.proofs.FrontFits.{new_row, insert-fits, remove-fits, status-fits, marks-fit}
use Rattle.table_laws.proofs.FrontStores.{start-front}
use Rattle.table_laws.proofs.FrontMarks.{block-front}
use Rattle.table_laws.proofs.FrontStatus.{status-front}
use Rattle.table_laws.proofs.FrontOpening.{opening-front}
use Rattle.table_laws.proofs.FrontInsert.{insert-front}
use Rattle.table_laws.proofs.FrontRemove.{removing-front, remove-front}
use Rattle.table_laws.proofs.Finding.{FoundAt, MissingAt}
use Rattle.table_laws.proofs.EncoderSplits.{change-at}
use Rattle.table_laws.proofs.EncoderHorizons.{referred-row, opens-horizons, closes-horizons, raises-horizon}

-- ---- a fresh state

pub starts : (m : List ℕ) (limit : ℕ) → started m encoder_role limit ≡ overlay_encoder (start_encoder limit) m
unfolding overlay_encoder encoder_front start_encoder overlays column_bytes
starts m limit = start-front m encoder_role limit

-- ---- the entry with index i put under deletion, or referred to: what stays of it, and the others

module _ (i : ℕ) where
  delete-nontrailer : (e : Sent) → (mark_deleted i e).nontrailer ≡ e.nontrailer
  unfolding mark_deleted
  delete-nontrailer e = pick-both (λ (d : Sent). d.nontrailer ≡ e.nontrailer) (eqb e.index i) (as_deleted e) e (λ t. refl) (λ t. refl)

  delete-trailer : (e : Sent) → (mark_deleted i e).trailer ≡ e.trailer
  unfolding mark_deleted
  delete-trailer e = pick-both (λ (d : Sent). d.trailer ≡ e.trailer) (eqb e.index i) (as_deleted e) e (λ t. refl) (λ t. refl)

  delete-row : (e : Sent) → e.index ≡ i → row_of_sent (mark_deleted i e) ≡ with_status (row_of_sent e) 1
  unfolding mark_deleted row_of_sent
  delete-row e h = ap row_of_sent (pick_yes e.index i (as_deleted e) e h)

  delete-other : (e : Sent) → (e.index ≡ i → ⊥) → mark_deleted i e ≡ e
  unfolding mark_deleted
  delete-other e n = pick_no e.index i (as_deleted e) e n

  module _ (s : ℕ) (p : Part) where
    refer-row : (e : Sent) → row_of_sent (referred_at s p i e) ≡ row_of_sent e
    unfolding referred_at
    refer-row e =
        pick-both (λ (d : Sent). row_of_sent d ≡ row_of_sent e) (eqb e.index i) (referred s p e) e (λ t. referred-row s p e) (λ t. refl)

    refer-rows : (es : List Sent) → map row_of_sent (map (referred_at s p i) es) ≡ map row_of_sent es
    refer-rows [] = refl
    refer-rows (e ∷ es) = ap₂ (λ (r : Row) (rs : List Row). r ∷ rs) (refer-row e) (refer-rows es)

    refer-this : (e : Sent) → e.index ≡ i → referred_at s p i e ≡ referred s p e
    unfolding referred_at
    refer-this e h = pick_yes e.index i (referred s p e) e h

    refer-other : (e : Sent) → (e.index ≡ i → ⊥) → referred_at s p i e ≡ e
    unfolding referred_at
    refer-other e n = pick_no e.index i (referred s p e) e n

-- numbers of entries that a change leaves
kept : (f : Sent → ℕ) (g : Sent → Sent) → ((e : Sent) → f (g e) ≡ f e) → (es : List Sent) → map f (map g es) ≡ map f es
kept f g same [] = refl
kept f g same (e ∷ es) = ap₂ (λ (n : ℕ) (ns : List ℕ). n ∷ ns) (same e) (kept f g same es)

deleted-horizons : (i : ℕ) (es : List Sent) → horizon_pieces (map (mark_deleted i) es) ≡ horizon_pieces es
deleted-horizons i es =
    (λ k. piece nontrailer_horizons (column_bytes 2 (kept nontrailer_of (mark_deleted i) (delete-nontrailer i) es k))
    ∷ piece trailer_horizons (column_bytes 2 (kept trailer_of (mark_deleted i) (delete-trailer i) es k)) ∷ [])

module _ (E : Encoder) (m : List ℕ) (H : HoldsEncoder E m) where
  abbrev f : Front
  f = encoder_front E

  -- the rows of entries at a place
  rows_split : (xs ys : List Sent) → E.entries ≡ xs ++ ys → f.rows ≡ map row_of_sent xs ++ map row_of_sent ys
  unfolding encoder_front
  rows_split xs ys e = ap (map row_of_sent) e ∙ map-append row_of_sent xs ys

  count-is : count_of m ≡ length E.entries
  unfolding encoder_front
  count-is = read_count f m H.front ∙ length-map E.entries row_of_sent

  -- other entries over memory: their rows, and then their horizons
  entries_over : (es : List Sent) (rs : List Row) → map row_of_sent es ≡ rs
      → overlays (overlay_front (with_rows f rs) m) (horizon_pieces es) ≡ overlay_encoder (with_sent E es) m
  unfolding overlay_encoder encoder_front
  entries_over es rs e = ap (λ (r : List Row). overlays (overlay_front (with_rows f r) m) (horizon_pieces es)) (sym e)

  -- the horizons stand behind any front
  horizons-behind : (g : Front) → FineFront g → HasAll (overlay_front g m) (horizon_pieces E.entries)
  horizons-behind g fine =
      all-behind g m front_length horizons_end (horizon_pieces E.entries) fine (omega arith) (horizons-order E.entries H.fits.forms.few)
      H.horizons

  -- ---- what a block closes that was written

  pub writes : (s : ℕ) (p : Part) → s < streams → closed_by p m s ≡ overlay_encoder (with_written E (block_marks p s E.written)) m
  unfolding encoder_front
  writes s p h =
      block-front p f m H.front s h
      ∙ sym (overlay-stands (with_written E (block_marks p s E.written)) m (marks-fit f H.front.fine (block_marks p s E.written)) H.horizons)

  -- ---- where an entry is found

  module _ (x place : ℕ) (F : FoundAt sent_index x place E.entries) where
    abbrev xs : List Sent
    xs = F.before

    abbrev e : Sent
    e = F.entry

    abbrev ys : List Sent
    ys = F.after

    rows-here : f.rows ≡ map row_of_sent xs ++ row_of_sent e ∷ map row_of_sent ys
    rows-here = rows_split xs (e ∷ ys) F.is

    place_here : length (map row_of_sent xs) ≡ place
    place_here = length-map xs row_of_sent ∙ F.at

    few-here : length (xs ++ e ∷ ys) ≤ 128
    few-here = omega (arith, ap length F.is, H.fits.forms.few)

    order : Ascending sent_index 62 (xs ++ e ∷ ys)
    order = subst (Ascending sent_index 62) F.is H.fits.forms.order

    -- the entry is freed
    pub removes : Removing m place
    removes = subst (Removing m) place_here (removing-front f m H.front (map row_of_sent xs) (row_of_sent e) (map row_of_sent ys) rows-here)

    pub frees : horizons_closed (removed m place) place (count_of m) ≡ overlay_encoder (with_sent E (cut sent_index x E.entries)) m
    frees =
        let us : List Row = map row_of_sent xs in
        let vs : List Row = map row_of_sent ys in
        let n : List ℕ = overlay_front (with_rows f (us ++ vs)) m in
        let left : removed m place ≡ n = ap (removed m) (sym place_here) ∙ remove-front f m H.front us (row_of_sent e) vs rows-here in
        let has = horizons-behind (with_rows f (us ++ vs)) (remove-fits f H.front.fine us (row_of_sent e) vs rows-here) in
        (λ k. horizons_closed (left k) (sym F.at k) ((count-is ∙ ap length F.is) k))
        ∙ closes-horizons n xs e ys few-here (subst (λ (l : List Sent). HasAll n (horizon_pieces l)) F.is has)
        ∙ entries_over (xs ++ ys) (us ++ vs) (map-append row_of_sent xs ys)
        ∙ ap (λ (l : List Sent). overlay_encoder (with_sent E l) m) (sym F.rest)

    -- it is put under deletion
    rows-deleted : map row_of_sent (map (mark_deleted x) E.entries) ≡ map row_of_sent xs ++ with_status (row_of_sent e) 1 ∷ map row_of_sent ys
    rows-deleted =
        ap (λ (l : List Sent). map row_of_sent (map (mark_deleted x) l)) F.is
        ∙ ap (map row_of_sent) (change-at sent_index (mark_deleted x) x (delete-other x) 62 xs e ys F.has order)
        ∙ map-append row_of_sent xs (mark_deleted x e ∷ ys)
        ∙ ap (λ (r : Row). map row_of_sent xs ++ r ∷ map row_of_sent ys) (delete-row x e F.has)

    pub deletes : status_set m place 1 ≡ overlay_encoder (with_sent E (map (mark_deleted x) E.entries)) m
    unfolding encoder_front
    deletes =
        let us : List Row = map row_of_sent xs in
        let vs : List Row = map row_of_sent ys in
        let es : List Sent = map (mark_deleted x) E.entries in
        let fine = status-fits f H.front.fine us (row_of_sent e) vs rows-here 1 (omega arith) in
        ap (λ (i : ℕ). status_set m i 1) (sym place_here)
        ∙ status-front f m H.front us (row_of_sent e) vs rows-here 1 (omega arith)
        ∙ ap (λ (rs : List Row). overlay_front (with_rows f rs) m) (sym rows-deleted)
        ∙ sym (overlay-stands (with_sent E es) m (subst (λ (rs : List Row). FineFront (with_rows f rs)) (sym rows-deleted) fine)
        (subst (HasAll m) (sym (deleted-horizons x E.entries)) H.horizons))

    -- it is referred to
    pub refers : (s : ℕ) (p : Part) → raised m place p s ≡ overlay_encoder (with_sent E (map (referred_at s p x) E.entries)) m
    unfolding encoder_front
    refers s p =
        let es : List Sent = map (referred_at s p x) E.entries in
        let is : xs ++ referred s p e ∷ ys ≡ es =
        sym (ap (map (referred_at s p x)) F.is ∙ change-at sent_index (referred_at s p x) x (refer-other x s p) 62 xs e ys F.has order
        ∙ ap (λ (c : Sent). xs ++ c ∷ ys) (refer-this x s p e F.has)) in
        ap (λ (i : ℕ). raised m i p s) (sym F.at)
        ∙ raises-horizon m xs e ys few-here (subst (λ (l : List Sent). HasAll m (horizon_pieces l)) F.is H.horizons)
        (subst (Each FineSent) F.is (fits_each E H.fits)) s p
        ∙ (λ k. overlays (sym (overlay-self f m H.front) k) (horizon_pieces (is k)))
        ∙ entries_over es (map row_of_sent E.entries) (refer-rows x s p E.entries)

  -- ---- where an entry is missed

  module _ (x place : ℕ) (F : MissingAt sent_index x place E.entries) where
    rows-about : f.rows ≡ map row_of_sent F.before ++ map row_of_sent F.after
    rows-about = rows_split F.before F.after F.is

    place-about : length (map row_of_sent F.before) ≡ place
    place-about = length-map F.before row_of_sent ∙ F.at

    pub opens : (name value : ℕ) → held_of m + (name + value + 32) ≤ 4096 → count_of m < 128 → name ≤ 255 → Opening m place name value
    opens name value room few short =
        subst (λ (i : ℕ). Opening m i name value) place-about
        (opening-front f m H.front (map row_of_sent F.before) (map row_of_sent F.after) rows-about name value
        (omega (arith, read_held f m H.front)) (omega (arith, read_count f m H.front)) short)

    pub inserts : (name value : List ℕ) → held_of m + (length name + length value + 32) ≤ 4096 → count_of m < 128 → length name ≤ 255 → x ≤ 189
        → horizons_opened (inserted m place x name value) place (count_of m)
        ≡ overlay_encoder (with_sent E (put sent_index (new_sent x name value) E.entries)) m
    unfolding row_of_sent
    inserts name value room few short high =
        let xs : List Sent = F.before in
        let ys : List Sent = F.after in
        let us : List Row = map row_of_sent xs in
        let vs : List Row = map row_of_sent ys in
        let e : Sent = new_sent x name value in
        let g : Front = with_rows f (us ++ new_row x name value ∷ vs) in
        let n : List ℕ = overlay_front g m in
        let held : rows_size f.rows + (length name + length value + 32) ≤ 4096 = omega (arith, read_held f m H.front) in
        let count : length f.rows < 128 = omega (arith, read_count f m H.front) in
        let has = horizons-behind g (insert-fits f H.front.fine us vs rows-about x name value held count (omega arith) short) in
        let left : inserted m place x name value ≡ n =
        ap (λ (i : ℕ). inserted m i x name value) (sym place-about) ∙ insert-front f m H.front us vs rows-about x name value held count
        (omega arith) short in
        let more : length (xs ++ e ∷ ys) ≤ 128 = omega (arith, count-is, ap length F.is, length-append xs ys, length-append xs (e ∷ ys)) in
        (λ k. horizons_opened (left k) (sym F.at k) ((count-is ∙ ap length F.is) k))
        ∙ opens-horizons n xs e ys more refl refl (subst (λ (l : List Sent). HasAll n (horizon_pieces l)) F.is has)
        ∙ entries_over (xs ++ e ∷ ys) (us ++ new_row x name value ∷ vs) (map-append row_of_sent xs (e ∷ ys))
        ∙ ap (λ (l : List Sent). overlay_encoder (with_sent E l) m) (sym (F.into e refl))
