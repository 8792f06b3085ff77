-- What a search finds in memory that holds a decoder's state is what the state has: the entry, and by the row's status its delete.
-- The row and the delete are read where the search splits the entries and the status the deletes.
use Prim.Native.Nat.{ℕ, suc, ◌+◌, ◌*◌, ◌<◌}
use mathlib.Core.Path.{◌≡◌, refl, sym, ap, subst, ◌∙◌}
use native.Mathlib.Omega.{arith}
use mathlib.Core.Bool.{true, false}
use mathlib.Core.Option.{Option, none, some}
use mathlib.Core.List.{List, [], ◌∷◌, ◌++◌, map, append_assoc, map-append}
use lib.ListN.{length, get_or, length-append, length-map}
use Rattle.memory.specs.Bytes.{Has}
use Rattle.memory.proofs.Order.{not-both}
use Rattle.memory.proofs.Places.{has_right}
use Rattle.model.specs.Table.{look}
use Rattle.model.specs.Parts.{Delete}
use Rattle.model.specs.Decoder.{Held, held_index, delete_index, Decoder, held_size, is_some}
use Rattle.model_laws.proofs.Tables.{pick_yes, look-index, look-cut}
use Rattle.holds.specs.Hold.{GoodDelete}
use Rattle.state.specs.Layout.{delete_place, held_of, count_of, delete_count, delete_index_at, status_at}
use Rattle.state.specs.Rows.{Row, rows_size}
use Rattle.state.specs.DecoderState.{delete_at, deletes_of, delete_bytes, deletes_bytes, place_from, row_of_held, decoder_front}
use Rattle.state_laws.proofs.FrontRead.{read_held, read_count, read-deletes, read-split}
use Rattle.state_laws.proofs.RowsRead.{RowRead}
use Rattle.state_laws.proofs.Each.{Each}
use Rattle.state_laws.proofs.DeletesRead.{FineLists, length-delete_bytes, deletes-back, index_of}
use Rattle.state_laws.proofs.Pointing.{indexes, look-absent, pointed, tied-counted}
use Rattle.state_laws.proofs.HeldRows.{held_back, rows-size, fits-order, fits-tied, fits-few, fits-lists}
use Rattle.state_laws.proofs.DecoderHolds.{HoldsDecoder}
use Rattle.table_search.specs.Search.{find_from}
use Rattle.table_laws.specs.DecoderChanges.{found, missing, held_at}
use Rattle.table_laws.proofs.Finding.{FoundAt, MissingAt, found_front, missing-front}
use Rattle.table_laws.proofs.DecoderPlaces.{none-place, place_found_lem, place-index}
use Rattle.table_laws.proofs.DecoderRows.{pointed-less}
use Rattle.std.specs.Prelude.{Result, Ok, Err}

-- ---- deletes split at a place: 76 bytes each

pub bytes-append : (ds es : List Delete) → deletes_bytes (ds ++ es) ≡ deletes_bytes ds ++ deletes_bytes es
unfolding deletes_bytes
bytes-append [] es = refl
bytes-append (d ∷ ds) es =
    ap (λ (l : List ℕ). delete_bytes d ++ l) (bytes-append ds es) ∙ sym (append_assoc (delete_bytes d) (deletes_bytes ds) (deletes_bytes es))

pub record Halves (ds es : List Delete) : Type 0 where
  pub before : length (deletes_bytes ds) ≡ 76 * length ds
  pub after : Each FineLists es

pub halves : (ds es : List Delete) → Each FineLists (ds ++ es) → Halves ds es
unfolding deletes_bytes
halves [] es f = record { before = refl; after = f }
halves (d ∷ ds) es f =
    let h = halves ds es f.1 in
    record {
      before = omega (arith, length-append (delete_bytes d) (deletes_bytes ds), length-delete_bytes d f.0, h.before);
      after = h.after;
    }

-- an index that is not held has no delete
pub no-delete : (D : Decoder) (m : List ℕ) → HoldsDecoder D m → (x : ℕ) → look held_index x D.entries ≡ none → look delete_index x D.deletes ≡ none
no-delete D m H x n = go (look delete_index x D.deletes) refl
  where
    go : (o : Option Delete) → look delete_index x D.deletes ≡ o → look delete_index x D.deletes ≡ none
    go none e = e
    go (some d) e =
        let t : is_some (look held_index d.index D.entries) ≡ true = (H.fits.forms.deletes x d e).held in
        let i : d.index ≡ x = look-index delete_index x D.deletes d e in
        let z : is_some (look held_index d.index D.entries) ≡ false = ap (λ (j : ℕ). is_some (look held_index j D.entries)) i ∙ ap is_some n in
        not-both (is_some (look held_index d.index D.entries)) t z

module _ (D : Decoder) (m : List ℕ) (H : HoldsDecoder D m) where
  abbrev ds : List Delete
  ds = D.deletes

  -- ---- counts and sizes

  pub size_is : rows_size (decoder_front D).rows ≡ held_size D.entries
  unfolding decoder_front
  size_is = sym (rows-size (map (row_of_held ds) D.entries)) ∙ ap held_size (held_back ds D.entries)

  pub held-is : held_of m ≡ held_size D.entries
  held-is = read_held (decoder_front D) m H.front ∙ size_is

  pub rows_are : (decoder_front D).rows ≡ map (row_of_held ds) D.entries
  unfolding decoder_front
  rows_are = refl

  pub length-is : length (decoder_front D).rows ≡ length D.entries
  length-is = ap length rows_are ∙ length-map D.entries (row_of_held ds)

  pub count-is : count_of m ≡ length D.entries
  count-is = read_count (decoder_front D) m H.front ∙ length-is

  pub deletes-are : delete_count m ≡ length ds
  unfolding decoder_front
  deletes-are = read-deletes (decoder_front D) m H.front

  -- ---- where the search splits the entries

  same_index : (h : Held) → (row_of_held ds h).index ≡ held_index h
  unfolding row_of_held
  same_index h = refl

  pub found_at : (x p : ℕ) → found m x p → FoundAt held_index x p D.entries
  found_at x p e = found_front held_index (row_of_held ds) same_index m x (decoder_front D) H.front D.entries rows_are p e

  pub missing_at : (x p : ℕ) → missing m x p → MissingAt held_index x p D.entries
  missing_at x p e =
      missing-front held_index (row_of_held ds) same_index m x (decoder_front D) H.front D.entries rows_are p 62 H.fits.forms.order e

  module _ (x p : ℕ) (F : FoundAt held_index x p D.entries) where
    abbrev rows_before : List Row
    rows_before = map (row_of_held ds) F.before

    abbrev rows_after : List Row
    rows_after = map (row_of_held ds) F.after

    -- the rows, and the row that is found
    pub split_rows : (decoder_front D).rows ≡ rows_before ++ row_of_held ds F.entry ∷ rows_after
    split_rows = rows_are ∙ ap (map (row_of_held ds)) F.is ∙ map-append (row_of_held ds) F.before (F.entry ∷ F.after)

    pub before-is : length rows_before ≡ p
    before-is = length-map F.before (row_of_held ds) ∙ F.at

    row-found : (o : ℕ) × RowRead m p o (row_of_held ds F.entry)
    row-found = (_, rw before-is at (read-split (decoder_front D) m H.front rows_before (row_of_held ds F.entry) rows_after split_rows))

    pub found_below : p < count_of m
    found_below = omega (arith, count-is, F.at, ap length F.is, length-append F.before (F.entry ∷ F.after))

    pub held_found : look held_index x D.entries ≡ some (held_at m x p)
    unfolding row_of_held
    held_found =
        F.looked ∙ ap some (λ k. record { index = F.has k; entry = sym (ap (λ (r : Row). r.entry) row-found.1.row) k })

    pub status-found : status_at m p ≡ place_from 0 x ds
    unfolding row_of_held
    status-found = row-found.1.status ∙ ap (λ (i : ℕ). place_from 0 i ds) F.has

    -- no other entry has its index
    pub others : look held_index x (F.before ++ F.after) ≡ none
    others =
        ap (look held_index x) (sym F.rest) ∙ look-cut held_index x x 62 D.entries H.fits.forms.order
        ∙ pick_yes x x none (look held_index x D.entries) refl

    -- ---- not under deletion

    pub not-deleted : status_at m p ≡ 0 → look delete_index x ds ≡ none
    not-deleted z = none-place x 0 ds (sym status-found ∙ z)

    pub deletes-few : status_at m p ≡ 0 → length ds < 128
    unfolding row_of_held
    deletes-few z =
        let rs : List Row = rows_before ++ row_of_held ds F.entry ∷ rows_after in
        let w : pointed rs < length rs = pointed-less rows_before (row_of_held ds F.entry) rows_after (sym row-found.1.status ∙ z) in
        let e : map (row_of_held ds) D.entries ≡ rs = sym rows_are ∙ split_rows in
        let t : pointed rs ≡ length ds =
        ap pointed (sym e) ∙ tied-counted ds 62 (map (row_of_held ds) D.entries) (fits-order D H.fits) (fits-tied D H.fits) in
        omega (arith, ap length e, length-map D.entries (row_of_held ds), H.fits.forms.few)

    -- ---- under deletion: where the status splits the deletes

    module _ (k : ℕ) (s : status_at m p ≡ suc k) where
      pub delete-at : FoundAt delete_index x k ds
      delete-at =
          let w = place_found_lem x 0 k ds (sym status-found ∙ s) in
          let z : w.0 ≡ k = omega (arith, w.1) in
          rw z at w.2

      pub delete-below : k < length ds
      delete-below =
          let G = delete-at in
          omega (arith, G.at, ap length G.is, length-append G.before (G.entry ∷ G.after))

      pub delete-halves : Halves delete-at.before (delete-at.entry ∷ delete-at.after)
      delete-halves =
          halves delete-at.before (delete-at.entry ∷ delete-at.after) (subst (Each FineLists) delete-at.is (fits-lists D H.fits))

      -- the deletes from that one on
      pub deletes-stand : Has m (delete_place k) (deletes_bytes (delete-at.entry ∷ delete-at.after))
      deletes-stand =
          let G = delete-at in
          let e : delete_place k ≡ 7232 + length (deletes_bytes G.before) = omega (arith, G.at, delete-halves.before) in
          let all : Has m 7232 (deletes_bytes G.before ++ deletes_bytes (G.entry ∷ G.after)) =
          subst (Has m 7232) (ap deletes_bytes G.is ∙ bytes-append G.before (G.entry ∷ G.after)) H.deletes in
          rw e (has_right m 7232 (deletes_bytes G.before) (deletes_bytes (G.entry ∷ G.after)) all)

      delete-is : delete-at.entry ≡ delete_at m k
      unfolding deletes_of
      delete-is =
          let G = delete-at in
          let e : delete_at m k ∷ deletes_of m (k + 1) (length G.after) ≡ G.entry ∷ G.after =
          (deletes-back m k (G.entry ∷ G.after) delete-halves.after deletes-stand).0 in
          cc

      pub delete-found : look delete_index x ds ≡ some (delete_at m k)
      delete-found = delete-at.looked ∙ ap some delete-is

      pub delete-good : GoodDelete m k
      delete-good =
          let f : FineLists (delete_at m k) = subst FineLists delete-is delete-halves.after.0 in
          record { long = H.long; few = omega (arith, delete-below, fits-few D H.fits); nontrailer = f.nontrailer; trailer = f.trailer }

  -- ---- the other way round: each delete has its entry, and that row points at it

  delete-row : (k : ℕ) → k < length ds → (p : ℕ) × found m (get_or (indexes ds) k 0) p × (status_at m p ≡ suc k)
  delete-row k h = go (find_from m x (count_of m) 0) refl
    where
      x : ℕ
      x = get_or (indexes ds) k 0

      go : (f : Result ℕ ℕ) → find_from m x (count_of m) 0 ≡ f → (p : ℕ) × found m x p × (status_at m p ≡ suc k)
      go (Ok p) e = (p, e, omega (arith, status-found x p (found_at x p e), place-index 0 k ds H.fits.forms.once h))
      go (Err p) e = absurd (look-absent x ds (no-delete D m H x (missing_at x p e).looked) k h refl)

  index_is : (k : ℕ) → k < length ds → get_or (indexes ds) k 0 ≡ delete_index_at m k
  index_is k h =
      let e : deletes_of m 0 (length ds) ≡ ds = (deletes-back m 0 ds (fits-lists D H.fits) H.deletes).0 in
      let z : 0 + k ≡ k = omega arith in
      ap (λ (l : List Delete). get_or (indexes l) k 0) (sym e) ∙ (rw z at (index_of m 0 (length ds) k h))

  pub kept_row : (k : ℕ) → k < delete_count m → (p : ℕ) × found m (delete_index_at m k) p × (status_at m p ≡ suc k)
  kept_row k h =
      let l : k < length ds = omega (arith, deletes-are) in
      subst (λ (x : ℕ). (p : ℕ) × found m x p × (status_at m p ≡ suc k)) (index_is k l) (delete-row k l)
