-- An entry put into memory that holds a front is the front with it over that memory: the record, each column opened, and the text.
use Prim.Native.Nat.{ℕ, ◌+◌, ◌*◌, ◌-◌, ◌≤◌, ◌<◌}
use mathlib.Core.Path.{◌≡◌, sym, ap, ap₂, subst, ◌∙◌}
use native.Mathlib.Omega.{arith}
use mathlib.Core.List.{List, [], ◌∷◌, ◌++◌, map, map-append, append_assoc}
use lib.ListN.{length, length-append, length-map}
use Rattle.memory.specs.Bytes.{part, overlay, Has}
use Rattle.memory.proofs.Overlay.{length-overlay, overlay-append, overlay-comm, overlay-overlay}
use Rattle.memory.proofs.Places.{has_left, has_right, has-overlay, has_part}
use Rattle.columns.specs.Columns.{column_bytes, column_opened, changed}
use Rattle.columns.proofs.Columns.{length-column_bytes, column-opened, column-changed}
use Rattle.columns.proofs.Within.{store-end}
use Rattle.model.specs.Table.{size, total}
use Rattle.state.specs.Layout.{indexes_place, offsets_place, name_lengths_place, statuses_place, text_place, before_first, offset_place, held_of, count_of, offset_at}
use Rattle.state.specs.Rows.{Row, row_index, name_length, row_status, offsets_from, text_bytes, rows_size}
use Rattle.state.specs.Front.{Front, with_rows, head_bytes, overlay_front}
use Rattle.state_laws.proofs.FrontHolds.{FineFront, HoldsFront}
use Rattle.state_laws.proofs.FrontLengths.{
  starts_from,
  length-starts,
  length-offsets,
  offsets-shift,
  offsets-fit,
  rows_size-text,
  rows_size-append,
  text_bytes-append,
}
use Rattle.state_laws.proofs.FrontRead.{read_held, read_count, read-end}
use Rattle.table.specs.Changes.{text_opened, opened_at, opened, inserted}
use Rattle.table_rows.specs.Rows.{recorded, offsets_opened, row_opened}
use Rattle.table_laws.proofs.FrontFits.{new_row, insert-fits}
use Rattle.table_laws.proofs.FrontStores.{recorded-is, record-head}
use Rattle.table_laws.proofs.FrontSplice.{count-two, length_two, offsets-two, indexes_of, headed, indexed, offset, named, marked, indexes-stand, offsets-stand, names_stand, statuses-stand, text-stands, splice}
use Rattle.table_laws.proofs.FrontOpening.{start_is}

module _ (f : Front) (m : List ℕ) (H : HoldsFront f m) (xs ys : List Row) (e : f.rows ≡ xs ++ ys) (index : ℕ) (name value : List ℕ)
    (room : rows_size f.rows + (length name + length value + 32) ≤ 4096) (few : length f.rows < 128) (low : index < 4294967296)
    (short : length name ≤ 255) where
  abbrev p : ℕ
  p = length xs

  abbrev o : ℕ
  o = length (text_bytes xs)

  abbrev t : ℕ
  t = length name + length value

  abbrev new : Row
  new = new_row index name value

  abbrev rs : List Row
  rs = xs ++ new ∷ ys

  G : FineFront (with_rows f rs)
  G = insert-fits f H.fine xs ys e index name value room few low short

  count : count_of m ≡ p + length ys
  count = read_count f m H ∙ count-two f xs ys e

  -- ---- the record

  record-stored : recorded m (held_of m + (t + 32)) (count_of m + 1) ≡ headed f m H rs G
  unfolding rows_size total size
  record-stored =
      let h : held_of m + (t + 32) ≡ rows_size rs =
      omega (arith, read_held f m H, ap rows_size e, rows_size-append xs ys, rows_size-append xs (new ∷ ys)) in
      let c : count_of m + 1 ≡ length rs = omega (arith, count, length-append xs (new ∷ ys)) in
      recorded-is m rs (held_of m + (t + 32)) (count_of m + 1) h c ∙ record-head f m H rs

  -- ---- the columns: in front of the first index stands one number more

  -- a column opened at the place, by the lists before and behind it
  column-at : (w : ℕ) (n : List ℕ) (at : ℕ) (us vs : List ℕ) (x place : ℕ) (c : ℕ) → length us ≡ place → length us + length vs ≡ c
      → Has n at (column_bytes w (us ++ vs)) → column_opened w n at place c x ≡ overlay n at (column_bytes w (us ++ x ∷ vs))
  column-at w n at us vs x place c a b stand =
      ap₂ (λ (i j : ℕ). column_opened w n at i j x) (sym a) (sym b) ∙ column-opened w n at us vs x stand

  -- the numbers of the rows, before and behind
  two : (g : Row → ℕ) → map g f.rows ≡ map g xs ++ map g ys
  two g = ap (map g) e ∙ map-append g xs ys

  indexes-opened : column_opened 4 (headed f m H rs G) indexes_place (p + 1) (count_of m + 1) index ≡ indexed f m H rs G
  indexes-opened =
      let us : List ℕ = before_first ∷ map row_index xs in
      let vs : List ℕ = map row_index ys in
      let n : List ℕ = headed f m H rs G in
      column-at 4 n indexes_place us vs index (p + 1) (count_of m + 1) (omega (arith, length-map xs row_index))
      (omega (arith, length-map xs row_index, length-map ys row_index, count))
      (subst (λ (l : List ℕ). Has n indexes_place (column_bytes 4 (before_first ∷ l))) (two row_index) (indexes-stand f m H rs G))
      ∙ ap (λ (l : List ℕ). overlay n indexes_place (column_bytes 4 (before_first ∷ l))) (sym (map-append row_index xs (new ∷ ys)))

  names-opened : column_opened 1 (offset f m H rs G) name_lengths_place p (count_of m) (length name) ≡ named f m H rs G
  names-opened =
      let n : List ℕ = offset f m H rs G in
      column-at 1 n name_lengths_place (map name_length xs) (map name_length ys) (length name) p (count_of m) (length-map xs name_length)
      (omega (arith, length-map xs name_length, length-map ys name_length, count))
      (subst (λ (l : List ℕ). Has n name_lengths_place (column_bytes 1 l)) (two name_length) (names_stand f m H rs G))
      ∙ ap (λ (l : List ℕ). overlay n name_lengths_place (column_bytes 1 l)) (sym (map-append name_length xs (new ∷ ys)))

  statuses-opened : column_opened 2 (named f m H rs G) statuses_place p (count_of m) 0 ≡ marked f m H rs G
  statuses-opened =
      let n : List ℕ = named f m H rs G in
      column-at 2 n statuses_place (map row_status xs) (map row_status ys) 0 p (count_of m) (length-map xs row_status)
      (omega (arith, length-map xs row_status, length-map ys row_status, count))
      (subst (λ (l : List ℕ). Has n statuses_place (column_bytes 2 l)) (two row_status) (statuses-stand f m H rs G))
      ∙ ap (λ (l : List ℕ). overlay n statuses_place (column_bytes 2 l)) (sym (map-append row_status xs (new ∷ ys)))

  -- ---- the text offsets: the new row's is put in, and those behind it grow

  abbrev A : List ℕ
  A = starts_from 0 xs

  abbrev B : List ℕ
  B = offsets_from o ys

  old-offsets : offsets_from 0 f.rows ≡ A ++ B
  old-offsets = ap (offsets_from 0) e ∙ offsets-two xs ys

  new-offsets : (A ++ (o ∷ [])) ++ map (λ (x : ℕ). x + t) B ≡ offsets_from 0 rs
  unfolding offsets_from
  new-offsets =
      let l : o + t ≡ o + length (name ++ value) = omega (arith, length-append name value) in
      append_assoc A (o ∷ []) (map (λ (x : ℕ). x + t) B)
      ∙ ap (λ (b : List ℕ). A ++ o ∷ b) (sym (offsets-shift o t ys) ∙ ap (λ (k : ℕ). offsets_from k ys) l)
      ∙ sym (offsets-two xs (new ∷ ys))

  B-fits : o + length (text_bytes ys) < 65536
  B-fits = omega (arith, H.fine.fits, rows_size-text f.rows, length_two f xs ys e)

  offsets-opened : offsets_opened (indexed f m H rs G) p (count_of m) o t ≡ offset f m H rs G
  unfolding offsets_opened
  offsets-opened =
      let n : List ℕ = indexed f m H rs G in
      let us : List ℕ = A ++ (o ∷ []) in
      let one : List ℕ = overlay n offsets_place (column_bytes 2 (us ++ B)) in
      let la = length-starts 0 xs in
      let lb = length-offsets o ys in
      let las : length us ≡ p + 1 = omega (arith, length-append A (o ∷ [])) in
      let lm : length (us ++ map (λ (x : ℕ). x + t) B) ≡ length (us ++ B) =
      length-append us (map (λ (x : ℕ). x + t) B) ∙ ap (λ (k : ℕ). length us + k) (length-map B (λ (x : ℕ). x + t)) ∙ sym (length-append us B) in
      let same : length (column_bytes 2 (us ++ B)) ≡ length (column_bytes 2 (us ++ map (λ (x : ℕ). x + t) B)) =
      length-column_bytes 2 (us ++ B) ∙ ap (λ (k : ℕ). 2 * k) (sym lm) ∙ sym (length-column_bytes 2 (us ++ map (λ (x : ℕ). x + t) B)) in
      let fits : offsets_place + length (column_bytes 2 (us ++ B)) ≤ length n =
      omega (
        arith,
        length-column_bytes 2 (us ++ B),
        length-append us B,
        H.long,
        length-overlay (headed f m H rs G) indexes_place (indexes_of rs),
        length-overlay m 0 (head_bytes (with_rows f rs)),
        count-two f xs ys e,
      ) in
      let opens : column_opened 2 n offsets_place p (count_of m + 1) o ≡ one =
      column-at 2 n offsets_place A B o p (count_of m + 1) la (omega (arith, count))
      (subst (λ (l : List ℕ). Has n offsets_place (column_bytes 2 l)) old-offsets (offsets-stand f m H rs G))
      ∙ ap (λ (l : List ℕ). overlay n offsets_place (column_bytes 2 l)) (sym (append_assoc A (o ∷ []) B)) in
      let many : count_of m + 1 - p ≡ length B = omega (arith, count) in
      let from : offset_place (p + 1) ≡ offsets_place + 2 * length us = omega arith in
      ap (λ (l : List ℕ). changed (λ x. x + t) 2 (count_of m + 1 - p) l (offset_place (p + 1))) opens
      ∙ ap₂ (λ (k at : ℕ). changed (λ x. x + t) 2 k one at) many from
      ∙ column-changed (λ x. x + t) 2 one offsets_place us B (offsets-fit o ys B-fits) (has-overlay n offsets_place (column_bytes 2 (us ++ B)) fits)
      ∙ overlay-overlay n offsets_place (column_bytes 2 (us ++ B)) (column_bytes 2 (us ++ map (λ (x : ℕ). x + t) B)) same
      ∙ ap (λ (l : List ℕ). overlay n offsets_place (column_bytes 2 l)) new-offsets

  row_opened_lem : row_opened (headed f m H rs G) p (count_of m) index o (length name) t ≡ marked f m H rs G
  unfolding row_opened
  row_opened_lem =
      ap (λ (l : List ℕ). column_opened 2 (column_opened 1 (offsets_opened l p (count_of m) o t) name_lengths_place p (count_of m) (length name))
      statuses_place p (count_of m) 0) indexes-opened
      ∙ ap (λ (l : List ℕ). column_opened 2 (column_opened 1 l name_lengths_place p (count_of m) (length name)) statuses_place p (count_of m) 0) offsets-opened
      ∙ ap (λ (l : List ℕ). column_opened 2 l statuses_place p (count_of m) 0) names-opened
      ∙ statuses-opened

  -- ---- the text: what is behind it moves up, and it comes last

  abbrev n5 : List ℕ
  n5 = marked f m H rs G

  abbrev T : List ℕ
  T = text_bytes ys

  texts-stand : Has n5 text_place (text_bytes xs ++ T)
  texts-stand = subst (Has n5 text_place) (ap text_bytes e ∙ text_bytes-append xs ys) (text-stands f m H rs G)

  text-opened : text_opened n5 o t (offset_at m (count_of m) - o) ≡ overlay n5 (text_place + (o + t)) T
  unfolding text_opened
  text-opened =
      let left : offset_at m (count_of m) - o ≡ length T = omega (arith, read-end f m H, length_two f xs ys e) in
      ap (overlay n5 (text_place + (o + t)))
      (ap (part n5 (text_place + o)) left ∙ has_part n5 (text_place + o) T (has_right n5 text_place (text_bytes xs) T texts-stand))

  -- name and value before it
  text-put : overlay (overlay (overlay n5 (text_place + (o + t)) T) (text_place + o) name) (text_place + o + length name) value
      ≡ overlay n5 text_place (text_bytes rs)
  unfolding text_bytes
  text-put =
      let a : ℕ = text_place + o in
      let w : List ℕ = name ++ value in
      let lw = length-append name value in
      let far : text_place + (o + t) ≡ a + length w = omega arith in
      sym (overlay-append (overlay n5 (text_place + (o + t)) T) a name value)
      ∙ sym (overlay-comm n5 a w (text_place + (o + t)) T (omega arith))
      ∙ ap (λ (k : ℕ). overlay (overlay n5 a w) k T) far
      ∙ sym (overlay-append n5 a w T)
      ∙ store-end n5 text_place (text_bytes xs) (w ++ T) (has_left n5 text_place (text_bytes xs) T texts-stand)
      ∙ ap (overlay n5 text_place) (sym (text_bytes-append xs (new ∷ ys)))

  opened-is : opened m p index (length name) (length value) ≡ overlay n5 (text_place + (o + t)) T
  unfolding opened opened_at
  opened-is =
      ap (λ (k : ℕ). opened_at m p index (length name) (length value) (count_of m) (held_of m) k (offset_at m (count_of m))) (start_is f m H xs ys e)
      ∙ ap (λ (l : List ℕ). text_opened (row_opened l p (count_of m) index o (length name) t) o t (offset_at m (count_of m) - o)) record-stored
      ∙ ap (λ (l : List ℕ). text_opened l o t (offset_at m (count_of m) - o)) row_opened_lem
      ∙ text-opened

  pub insert-front : inserted m (length xs) index name value ≡ overlay_front (with_rows f (xs ++ new_row index name value ∷ ys)) m
  unfolding inserted
  insert-front =
      ap₂ (λ (l : List ℕ) (k : ℕ). overlay (overlay l (text_place + k) name) (text_place + k + length name) value) opened-is (start_is f m H xs ys e)
      ∙ text-put ∙ splice f m H rs G
