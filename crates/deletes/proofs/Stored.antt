-- The bytes of stream lists and deletes: their lengths, and that their parts stored one after the other are the whole stored.
use mathlib.Core.Path.{◌≡◌, refl}
use Prim.Native.Nat.{ℕ, ◌+◌, ◌*◌, ◌-◌, ◌≤◌}
use native.Mathlib.Omega.{arith}
use mathlib.Core.List.{List, [], ◌∷◌, ◌++◌}
use lib.ListN.{length, replicate, length-append, length-replicate}
use Rattle.memory.specs.Bytes.{overlay}
use Rattle.memory.specs.Numbers.{number_bytes}
use Rattle.memory.proofs.Overlay.{overlay-append}
use Rattle.memory.proofs.Numbers.{length-number_bytes}
use Rattle.stream_lists.specs.StreamList.{StreamList}
use Rattle.model.specs.Parts.{Delete}
use Rattle.state.specs.Layout.{delete_place, nontrailer_list, trailer_list, listed_place, delete_count_place, status_place, delete_count}
use Rattle.state.specs.DecoderState.{streams_bytes, list_bytes, delete_bytes}
use Rattle.table_rows.specs.Rows.{status_set}
use Rattle.deletes.specs.Deletes.{appended}

-- ---- lengths

length-streams_bytes : (xs : List ℕ) → length (streams_bytes xs) ≡ 2 * length xs
unfolding streams_bytes
length-streams_bytes [] = refl
length-streams_bytes (x ∷ xs) =
    omega (arith, length-append (number_bytes 2 x) (streams_bytes xs), length-number_bytes 2 x, length-streams_bytes xs)

length-list_bytes : (l : StreamList) → length l.streams ≤ 16 → length (list_bytes l) ≡ 36
unfolding list_bytes
length-list_bytes l h =
    simp (length-append, length-number_bytes, length-streams_bytes, length-replicate) (omega arith)

-- ---- parts stored in turn

-- what is stored after bytes is stored with them
then-stored : (l one two : List ℕ) (at next : ℕ) (xs ys : List ℕ) → next ≡ at + length xs
    → one ≡ overlay l at xs → two ≡ overlay one next ys → two ≡ overlay l at (xs ++ ys)
then-stored l one two at next xs ys e f g = rw (overlay-append, g, f, e)

module _ (l : StreamList) (count : ℕ) (e : length l.streams ≡ count) where
  pub list-stored : (m one two three four : List ℕ) (at : ℕ) → one ≡ overlay m at (number_bytes 2 l.horizon)
      → two ≡ overlay one (at + 2) (number_bytes 2 count) → three ≡ overlay two (listed_place at) (streams_bytes l.streams)
      → four ≡ overlay three (listed_place at + 2 * count) (replicate (32 - 2 * count) 0) → four ≡ overlay m at (list_bytes l)
  unfolding list_bytes
  list-stored m one two three four at f g h k =
      let zs : List ℕ = replicate (32 - 2 * length l.streams) 0 in
      let k' : four ≡ overlay three (at + 4 + 2 * count) zs = rw e k in
      let g' : two ≡ overlay one (at + 2) (number_bytes 2 (length l.streams)) = rw e g in
      let d = length-streams_bytes l.streams in
      let a = length-number_bytes 2 l.horizon in
      let b = length-number_bytes 2 (length l.streams) in
      then-stored m one four at (at + 2) (number_bytes 2 l.horizon) _ (omega arith) f
      (then-stored one two four (at + 2) (at + 4) (number_bytes 2 (length l.streams)) _ (omega arith) g'
      (then-stored two three four (at + 4) (at + 4 + 2 * count) (streams_bytes l.streams) zs (omega arith) h k'))

pub delete-stored : (d : Delete) → length d.nontrailer.streams ≤ 16 → (m one two three : List ℕ) (n : ℕ)
    → one ≡ overlay m (delete_place n) (number_bytes 4 d.index) → two ≡ overlay one (nontrailer_list n) (list_bytes d.nontrailer)
    → three ≡ overlay two (trailer_list n) (list_bytes d.trailer) → three ≡ overlay m (delete_place n) (delete_bytes d)
unfolding delete_bytes
delete-stored d h m one two three n f g k =
    let a = length-number_bytes 4 d.index in
    let b = length-list_bytes d.nontrailer h in
    then-stored m one three (delete_place n) (nontrailer_list n) (number_bytes 4 d.index) _ (omega arith) f
    (then-stored one two three (nontrailer_list n) (trailer_list n) (list_bytes d.nontrailer) (list_bytes d.trailer) (omega arith) g k)

-- ---- a delete kept after the others

pub append-stored : (m : List ℕ) (place : ℕ) (d : Delete) (n first second : ℕ) → n ≡ delete_count m → first ≡ nontrailer_list n
    → second ≡ trailer_list n → length d.nontrailer.streams ≤ 16 → (one two three four five : List ℕ)
    → one ≡ overlay m (delete_place n) (number_bytes 4 d.index)
    → two ≡ overlay one first (list_bytes d.nontrailer) → three ≡ overlay two second (list_bytes d.trailer)
    → four ≡ overlay three (status_place place) (number_bytes 2 (n + 1)) → five ≡ overlay four delete_count_place (number_bytes 2 (n + 1))
    → five ≡ appended m place d
unfolding appended status_set
append-stored m place d n first second e f g h one two three four five p q r s t =
    rw (← e, ← delete-stored d h m one two three n p (rw f at q) (rw g at r), ← s) t
