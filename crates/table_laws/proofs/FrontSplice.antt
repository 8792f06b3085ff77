-- Other rows in memory that holds a front: the record, each column and the text stored one after the other leave the front with those rows over it.
-- What is stored first stands before the rest, so each old column still stands when its turn comes; the marks stand throughout.
use Prim.Native.Nat.{ℕ, ◌+◌, ◌≤◌}
use mathlib.Core.Path.{◌≡◌, sym, ap, ◌∙◌}
use native.Mathlib.Omega.{arith}
use native.Mathlib.Nat.{zero-add}
use mathlib.Core.List.{List, ◌∷◌, ◌++◌, map}
use lib.ListN.{length, length-append, length-map}
use Rattle.memory.specs.Bytes.{overlay, Has}
use Rattle.memory.proofs.Overlay.{overlay-same}
use Rattle.memory.proofs.Places.{has_above}
use Rattle.columns.specs.Columns.{column_bytes}
use Rattle.columns.specs.Pieces.{overlays}
use Rattle.columns.proofs.Columns.{length-column_bytes}
use Rattle.state.specs.Layout.{indexes_place, offsets_place, name_lengths_place, statuses_place, text_place, before_first}
use Rattle.state.specs.Rows.{Row, row_index, name_length, row_status, offsets_from, text_bytes}
use Rattle.state.specs.Front.{Front, with_rows, head_bytes, marks_bytes, front_pieces, overlay_front}
use Rattle.state_laws.proofs.FrontHolds.{FineFront, HoldsFront}
use Rattle.state_laws.proofs.FrontLengths.{starts_from, length-head_bytes, length-offsets, offsets-append, text_bytes-append}

-- the text of two lists of rows
pub text-two : (xs ys : List Row) → length (text_bytes (xs ++ ys)) ≡ length (text_bytes xs) + length (text_bytes ys)
text-two xs ys = ap length (text_bytes-append xs ys) ∙ length-append (text_bytes xs) (text_bytes ys)

-- and where their texts start
pub offsets-two : (xs ys : List Row) → offsets_from 0 (xs ++ ys) ≡ starts_from 0 xs ++ offsets_from (length (text_bytes xs)) ys
offsets-two xs ys =
    offsets-append 0 xs ys ∙ ap (λ (o : ℕ). starts_from 0 xs ++ offsets_from o ys) (zero-add (length (text_bytes xs)))

module _ (f : Front) (xs ys : List Row) (e : f.rows ≡ xs ++ ys) where
  pub count-two : length f.rows ≡ length xs + length ys
  count-two = ap length e ∙ length-append xs ys

  pub length_two : length (text_bytes f.rows) ≡ length (text_bytes xs) + length (text_bytes ys)
  length_two = ap (λ (rs : List Row). length (text_bytes rs)) e ∙ text-two xs ys

-- the columns of rows
abbrev pub indexes_of : List Row → List ℕ
indexes_of rs = column_bytes 4 (before_first ∷ map row_index rs)

abbrev pub offsets_of : List Row → List ℕ
offsets_of rs = column_bytes 2 (offsets_from 0 rs)

abbrev pub names_of : List Row → List ℕ
names_of rs = column_bytes 1 (map name_length rs)

abbrev pub statuses_of : List Row → List ℕ
statuses_of rs = column_bytes 2 (map row_status rs)

module _ (f : Front) (m : List ℕ) (H : HoldsFront f m) (rs : List Row) (G : FineFront (with_rows f rs)) where
  abbrev h : List ℕ
  h = head_bytes (with_rows f rs)

  -- memory after each store
  abbrev pub headed : List ℕ
  headed = overlay m 0 h

  abbrev pub indexed : List ℕ
  indexed = overlay headed indexes_place (indexes_of rs)

  abbrev pub offset : List ℕ
  offset = overlay indexed offsets_place (offsets_of rs)

  abbrev pub named : List ℕ
  named = overlay offset name_lengths_place (names_of rs)

  abbrev pub marked : List ℕ
  marked = overlay named statuses_place (statuses_of rs)

  -- each column ends before the next begins
  past-indexes : indexes_place + length (indexes_of rs) ≤ offsets_place
  past-indexes = omega (arith, length-column_bytes 4 (before_first ∷ map row_index rs), length-map rs row_index, G.few)

  past-offsets : offsets_place + length (offsets_of rs) ≤ name_lengths_place
  past-offsets = omega (arith, length-column_bytes 2 (offsets_from 0 rs), length-offsets 0 rs, G.few)

  past-names : name_lengths_place + length (names_of rs) ≤ statuses_place
  past-names = omega (arith, length-column_bytes 1 (map name_length rs), length-map rs name_length, G.few)

  past-statuses : statuses_place + length (statuses_of rs) ≤ text_place
  past-statuses = omega (arith, length-column_bytes 2 (map row_status rs), length-map rs row_status, G.few)

  -- so what stands behind it stays
  behind-head : (at : ℕ) (bs : List ℕ) → 64 ≤ at → Has m at bs → Has headed at bs
  behind-head at bs b = has_above m at bs 0 h (omega (arith, length-head_bytes (with_rows f rs)))

  behind-indexes : (at : ℕ) (bs : List ℕ) → offsets_place ≤ at → Has m at bs → Has indexed at bs
  behind-indexes at bs b w = has_above headed at bs indexes_place (indexes_of rs) (omega (arith, past-indexes)) (behind-head at bs (omega arith) w)

  behind-offsets : (at : ℕ) (bs : List ℕ) → name_lengths_place ≤ at → Has m at bs → Has offset at bs
  behind-offsets at bs b w = has_above indexed at bs offsets_place (offsets_of rs) (omega (arith, past-offsets)) (behind-indexes at bs (omega arith) w)

  behind-names : (at : ℕ) (bs : List ℕ) → statuses_place ≤ at → Has m at bs → Has named at bs
  behind-names at bs b w = has_above offset at bs name_lengths_place (names_of rs) (omega (arith, past-names)) (behind-offsets at bs (omega arith) w)

  behind-statuses : (at : ℕ) (bs : List ℕ) → text_place ≤ at → Has m at bs → Has marked at bs
  behind-statuses at bs b w = has_above named at bs statuses_place (statuses_of rs) (omega (arith, past-statuses)) (behind-names at bs (omega arith) w)

  pub indexes-stand : Has headed indexes_place (indexes_of f.rows)
  indexes-stand = behind-head indexes_place (indexes_of f.rows) (omega arith) H.indexes

  pub offsets-stand : Has indexed offsets_place (offsets_of f.rows)
  offsets-stand = behind-indexes offsets_place (offsets_of f.rows) (omega arith) H.offsets

  pub names_stand : Has offset name_lengths_place (names_of f.rows)
  names_stand = behind-offsets name_lengths_place (names_of f.rows) (omega arith) H.names

  pub statuses-stand : Has named statuses_place (statuses_of f.rows)
  statuses-stand = behind-names statuses_place (statuses_of f.rows) (omega arith) H.statuses

  pub text-stands : Has marked text_place (text_bytes f.rows)
  text-stands = behind-statuses text_place (text_bytes f.rows) (omega arith) H.text

  pub splice : overlay marked text_place (text_bytes rs) ≡ overlay_front (with_rows f rs) m
  unfolding overlay_front front_pieces overlays
  splice =
      sym (ap (λ (l : List ℕ). overlay (overlay (overlay (overlay (overlay l indexes_place (indexes_of rs)) offsets_place (offsets_of rs))
      name_lengths_place (names_of rs)) statuses_place (statuses_of rs)) text_place (text_bytes rs))
      (overlay-same headed 64 (marks_bytes f.marks) (behind-head 64 (marks_bytes f.marks) (omega arith) H.marks)))
