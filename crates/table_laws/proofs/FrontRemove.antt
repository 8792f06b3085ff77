-- An entry taken out of memory that holds a front is the front without it over that memory: the record, each column closed, and the text.
use Prim.Native.Nat.{ℕ, suc, ◌+◌, ◌*◌, ◌-◌, ◌≤◌}
use mathlib.Core.Path.{◌≡◌, sym, ap, ap₂, subst, ◌∙◌}
use native.Mathlib.Omega.{arith}
use mathlib.Core.List.{List, ◌∷◌, ◌++◌, map, map-append}
use lib.ListN.{length, length-append, length-map}
use Rattle.memory.specs.Bytes.{part, overlay, moved, Has}
use Rattle.memory.proofs.Overlay.{length-overlay, overlay-overlay}
use Rattle.memory.proofs.Places.{has_left, has_right, has-overlay, has_part}
use Rattle.columns.specs.Columns.{column_bytes, column_closed, changed}
use Rattle.columns.proofs.Columns.{length-column_bytes, column_bytes-append, column-closed, column-changed, wrapped}
use Rattle.columns.proofs.Within.{store-end}
use Rattle.model.specs.Table.{size, total}
use Rattle.state.specs.Layout.{
  indexes_place,
  offsets_place,
  name_lengths_place,
  statuses_place,
  text_place,
  before_first,
  offset_place,
  held_of,
  count_of,
  offset_at,
  text_length_at,
}
use Rattle.state.specs.Rows.{Row, row_index, name_length, row_status, offsets_from, text_of, text_bytes, rows_size}
use Rattle.state.specs.Front.{Front, with_rows, head_bytes, overlay_front}
use Rattle.state_laws.proofs.FrontHolds.{FineFront, HoldsFront}
use Rattle.state_laws.proofs.FrontLengths.{
  starts_from,
  length-starts,
  length-offsets,
  offsets-shift,
  offsets-fit,
  length-text,
  rows_size-text,
  rows_size-append,
  text_bytes-append,
}
use Rattle.state_laws.proofs.FrontRead.{read_held, read_count, read-end, read-split}
use Rattle.table.specs.Changes.{removed_at, removed, Removing}
use Rattle.table_rows.specs.Rows.{recorded, offsets_closed, row_closed}
use Rattle.table_laws.proofs.FrontFits.{remove-fits}
use Rattle.table_laws.proofs.FrontStores.{recorded-is, record-head}
use Rattle.table_laws.proofs.FrontSplice.{
  count-two,
  length_two,
  offsets-two,
  indexes_of,
  headed,
  indexed,
  offset,
  named,
  marked,
  indexes-stand,
  offsets-stand,
  names_stand,
  statuses-stand,
  text-stands,
  splice,
}

module _ (f : Front) (m : List ℕ) (H : HoldsFront f m) (xs : List Row) (r : Row) (ys : List Row) (e : f.rows ≡ xs ++ r ∷ ys) where
  abbrev p : ℕ
  p = length xs

  abbrev o : ℕ
  o = length (text_bytes xs)

  abbrev t : ℕ
  t = length (text_of r.entry)

  abbrev rs : List Row
  rs = xs ++ ys

  G : FineFront (with_rows f rs)
  G = remove-fits f H.fine xs r ys e

  -- ---- how much there is

  count : count_of m ≡ p + suc (length ys)
  count = read_count f m H ∙ count-two f xs (r ∷ ys) e

  text : length (text_bytes f.rows) ≡ o + (t + length (text_bytes ys))
  unfolding text_bytes
  text = omega (arith, length_two f xs (r ∷ ys) e, length-append (text_of r.entry) (text_bytes ys))

  offset-is : offset_at m p ≡ o
  offset-is = (read-split f m H xs r ys e).offset

  next-is : offset_at m (p + 1) ≡ o + t
  next-is = (read-split f m H xs r ys e).next

  text-is : text_length_at m p ≡ t
  text-is = omega (arith, offset-is, next-is)

  all-text : length (text_bytes f.rows) ≤ 4096
  all-text = omega (arith, rows_size-text f.rows, H.fine.fits)

  pub removing-front : Removing m (length xs)
  unfolding rows_size total size
  removing-front =
      let c = read-end f m H in
      record {
        long = H.long;
        few = omega (arith, read_count f m H, H.fine.few);
        below = omega (arith, count);
        start = omega (arith, offset-is, next-is);
        text = omega (arith, next-is, text);
        end = omega (arith, all-text);
        held = omega (arith, text-is, read_held f m H, ap rows_size e, rows_size-append xs (r ∷ ys), length-text r);
      }

  -- ---- the record

  record-stored : recorded m (held_of m - (t + 32)) (count_of m - 1) ≡ headed f m H rs G
  unfolding rows_size total size
  record-stored =
      let h : held_of m - (t + 32) ≡ rows_size rs =
      omega (arith, read_held f m H, ap rows_size e, rows_size-append xs ys, rows_size-append xs (r ∷ ys), length-text r) in
      let c : count_of m - 1 ≡ length rs = omega (arith, count, length-append xs ys) in
      recorded-is m rs (held_of m - (t + 32)) (count_of m - 1) h c ∙ record-head f m H rs

  -- ---- the columns

  -- a column closed at the place, by the lists before and behind it
  column-at : (w : ℕ) (n : List ℕ) (at : ℕ) (us : List ℕ) (x : ℕ) (vs : List ℕ) (place c : ℕ) → length us ≡ place → length us + (length vs + 1) ≡ c
      → Has n at (column_bytes w (us ++ x ∷ vs)) → column_closed w n at place c ≡ overlay n at (column_bytes w (us ++ vs))
  column-at w n at us x vs place c a b stand =
      ap₂ (λ (i j : ℕ). column_closed w n at i j) (sym a) (sym b) ∙ column-closed w n at us x vs stand

  three : (g : Row → ℕ) → map g f.rows ≡ map g xs ++ g r ∷ map g ys
  three g = ap (map g) e ∙ map-append g xs (r ∷ ys)

  indexes-closed : column_closed 4 (headed f m H rs G) indexes_place (p + 1) (count_of m + 1) ≡ indexed f m H rs G
  indexes-closed =
      let us : List ℕ = before_first ∷ map row_index xs in
      let vs : List ℕ = map row_index ys in
      let n : List ℕ = headed f m H rs G in
      column-at 4 n indexes_place us r.index vs (p + 1) (count_of m + 1) (omega (arith, length-map xs row_index))
      (omega (arith, length-map xs row_index, length-map ys row_index, count))
      (subst (λ (l : List ℕ). Has n indexes_place (column_bytes 4 (before_first ∷ l))) (three row_index) (indexes-stand f m H rs G))
      ∙ ap (λ (l : List ℕ). overlay n indexes_place (column_bytes 4 (before_first ∷ l))) (sym (map-append row_index xs ys))

  names-closed : column_closed 1 (offset f m H rs G) name_lengths_place p (count_of m) ≡ named f m H rs G
  names-closed =
      let n : List ℕ = offset f m H rs G in
      column-at 1 n name_lengths_place (map name_length xs) (name_length r) (map name_length ys) p (count_of m) (length-map xs name_length)
      (omega (arith, length-map xs name_length, length-map ys name_length, count))
      (subst (λ (l : List ℕ). Has n name_lengths_place (column_bytes 1 l)) (three name_length) (names_stand f m H rs G))
      ∙ ap (λ (l : List ℕ). overlay n name_lengths_place (column_bytes 1 l)) (sym (map-append name_length xs ys))

  statuses-closed : column_closed 2 (named f m H rs G) statuses_place p (count_of m) ≡ marked f m H rs G
  statuses-closed =
      let n : List ℕ = named f m H rs G in
      column-at 2 n statuses_place (map row_status xs) r.status (map row_status ys) p (count_of m) (length-map xs row_status)
      (omega (arith, length-map xs row_status, length-map ys row_status, count))
      (subst (λ (l : List ℕ). Has n statuses_place (column_bytes 2 l)) (three row_status) (statuses-stand f m H rs G))
      ∙ ap (λ (l : List ℕ). overlay n statuses_place (column_bytes 2 l)) (sym (map-append row_status xs ys))

  -- ---- the text offsets: the row's goes, and those behind it shrink

  abbrev A : List ℕ
  A = starts_from 0 xs

  -- behind the row, before and after
  abbrev B : List ℕ
  B = offsets_from (o + t) ys

  abbrev C : List ℕ
  C = offsets_from o ys

  old-offsets : offsets_from 0 f.rows ≡ A ++ o ∷ B
  unfolding offsets_from
  old-offsets = ap (offsets_from 0) e ∙ offsets-two xs (r ∷ ys)

  abbrev less : ℕ → ℕ
  less x = x + (65536 - t)

  new-offsets : column_bytes 2 (A ++ map less B) ≡ column_bytes 2 (offsets_from 0 rs)
  new-offsets =
      column_bytes-append 2 A (map less B)
      ∙ ap (λ (l : List ℕ). column_bytes 2 A ++ l) (ap (λ (l : List ℕ). column_bytes 2 (map less l)) (offsets-shift o t ys) ∙ wrapped t C (omega (arith, text, all-text)))
      ∙ sym (column_bytes-append 2 A C)
      ∙ ap (column_bytes 2) (sym (offsets-two xs ys))

  offsets-closed : offsets_closed (indexed f m H rs G) p (count_of m) t ≡ offset f m H rs G
  unfolding offsets_closed
  offsets-closed =
      let n : List ℕ = indexed f m H rs G in
      let one : List ℕ = overlay n offsets_place (column_bytes 2 (A ++ B)) in
      let la = length-starts 0 xs in
      let lb = length-offsets (o + t) ys in
      let lm : length (A ++ map less B) ≡ length (A ++ B) =
      length-append A (map less B) ∙ ap (λ (k : ℕ). length A + k) (length-map B less) ∙ sym (length-append A B) in
      let same : length (column_bytes 2 (A ++ B)) ≡ length (column_bytes 2 (A ++ map less B)) =
      length-column_bytes 2 (A ++ B) ∙ ap (λ (k : ℕ). 2 * k) (sym lm) ∙ sym (length-column_bytes 2 (A ++ map less B)) in
      let fits : offsets_place + length (column_bytes 2 (A ++ B)) ≤ length n =
      omega (
        arith,
        length-column_bytes 2 (A ++ B),
        length-append A B,
        H.long,
        length-overlay (headed f m H rs G) indexes_place (indexes_of rs),
        length-overlay m 0 (head_bytes (with_rows f rs)),
        count,
        read_count f m H,
        H.fine.few,
      ) in
      let closes : column_closed 2 n offsets_place p (count_of m + 1) ≡ one =
      column-at 2 n offsets_place A o B p (count_of m + 1) la (omega (arith, count))
      (subst (λ (l : List ℕ). Has n offsets_place (column_bytes 2 l)) old-offsets (offsets-stand f m H rs G)) in
      let many : count_of m - p ≡ length B = omega (arith, count) in
      let from : offset_place p ≡ offsets_place + 2 * length A = omega arith in
      ap (λ (l : List ℕ). changed less 2 (count_of m - p) l (offset_place p)) closes
      ∙ ap₂ (λ (k at : ℕ). changed less 2 k one at) many from
      ∙ column-changed less 2 one offsets_place A B (offsets-fit (o + t) ys (omega (arith, text, all-text)))
      (has-overlay n offsets_place (column_bytes 2 (A ++ B)) fits)
      ∙ overlay-overlay n offsets_place (column_bytes 2 (A ++ B)) (column_bytes 2 (A ++ map less B)) same
      ∙ ap (overlay n offsets_place) new-offsets

  row-closed : row_closed (headed f m H rs G) p (count_of m) t ≡ marked f m H rs G
  unfolding row_closed
  row-closed =
      ap (λ (l : List ℕ). column_closed 2 (column_closed 1 (offsets_closed l p (count_of m) t) name_lengths_place p (count_of m)) statuses_place p (count_of m))
      indexes-closed
      ∙ ap (λ (l : List ℕ). column_closed 2 (column_closed 1 l name_lengths_place p (count_of m)) statuses_place p (count_of m)) offsets-closed
      ∙ ap (λ (l : List ℕ). column_closed 2 l statuses_place p (count_of m)) names-closed
      ∙ statuses-closed

  -- ---- the text closes up

  abbrev n5 : List ℕ
  n5 = marked f m H rs G

  abbrev T : List ℕ
  T = text_bytes ys

  abbrev w : List ℕ
  w = text_of r.entry

  texts-stand : Has n5 text_place (text_bytes xs ++ (w ++ T))
  unfolding text_bytes
  texts-stand = subst (Has n5 text_place) (ap text_bytes e ∙ text_bytes-append xs (r ∷ ys)) (text-stands f m H rs G)

  text-closed : moved n5 (text_place + o) (text_place + (o + t)) (offset_at m (count_of m) - (o + t)) ≡ overlay n5 text_place (text_bytes rs)
  text-closed =
      let left : offset_at m (count_of m) - (o + t) ≡ length T = omega (arith, read-end f m H, text) in
      let far : text_place + o + t ≡ text_place + (o + t) = omega arith in
      let stand : Has n5 (text_place + (o + t)) T =
      rw far at (has_right n5 (text_place + o) w T (has_right n5 text_place (text_bytes xs) (w ++ T) texts-stand)) in
      ap (overlay n5 (text_place + o)) (ap (part n5 (text_place + (o + t))) left ∙ has_part n5 (text_place + (o + t)) T stand)
      ∙ store-end n5 text_place (text_bytes xs) T (has_left n5 text_place (text_bytes xs) (w ++ T) texts-stand)
      ∙ ap (overlay n5 text_place) (sym (text_bytes-append xs ys))

  pub remove-front : removed m (length xs) ≡ overlay_front (with_rows f (xs ++ ys)) m
  unfolding removed removed_at
  remove-front =
      ap₂ (λ (a b : ℕ). removed_at m p (count_of m) (held_of m) a b (offset_at m (count_of m))) offset-is text-is
      ∙ ap (λ (l : List ℕ). moved (row_closed l p (count_of m) t) (text_place + o) (text_place + (o + t)) (offset_at m (count_of m) - (o + t))) record-stored
      ∙ ap (λ (l : List ℕ). moved l (text_place + o) (text_place + (o + t)) (offset_at m (count_of m) - (o + t))) row-closed
      ∙ text-closed ∙ splice f m H rs G
