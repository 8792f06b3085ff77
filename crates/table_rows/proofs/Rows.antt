-- A row put in and one taken out leave the memory's length, what is before the columns, and the text behind them. Column by column.
use mathlib.Core.Path.{◌≡◌, refl, ◌∙◌}
use Prim.Native.Nat.{ℕ, zero, suc, ◌+◌, ◌*◌, ◌-◌, ◌≤◌, ◌<◌}
use native.Mathlib.Omega.{arith}
use mathlib.Core.List.{List}
use lib.ListN.{length}
use Rattle.memory.specs.Bytes.{part, overlay}
use Rattle.memory.specs.Numbers.{number, number_bytes}
use Rattle.memory.proofs.Overlay.{length-overlay}
use Rattle.memory.proofs.Places.{length_part, part-above}
use Rattle.memory.proofs.Numbers.{length-number_bytes}
use Rattle.columns.specs.Columns.{column_opened, column_closed, changed}
use Rattle.columns.proofs.Columns.{length-changed, changed-below, length-opened, length-closed, opened-below, closed-below}
use Rattle.columns.proofs.Steps.{size-split, size-about}
use Rattle.state.specs.Layout.{held_place, count_place, indexes_place, offsets_place, name_lengths_place, statuses_place, text_place, offset_place}
use Rattle.table_rows.specs.Rows.{offsets_opened, row_opened, offsets_closed, row_closed, recorded}

-- ---- what is behind a column stays

module _ (at n : ℕ) where
  opened-above : (w : ℕ) (m : List ℕ) (column place count x : ℕ) → place ≤ count → column + w * (count + 1) ≤ at → at + n ≤ length m
      → part (column_opened w m column place count x) at n ≡ part m at n
  unfolding column_opened
  opened-above w m column place count x below b h =
      let s = size-split w place count below in
      let up : List ℕ = part m (column + w * place) (w * (count - place)) in
      let e = length_part m (column + w * place) (w * (count - place)) (omega (arith, s)) in
      part-above (overlay m (column + w * (place + 1)) up) at n (column + w * place) (number_bytes w x)
      (omega (arith, length-overlay m (column + w * (place + 1)) up)) (omega (arith, s, length-number_bytes w x))
      ∙ part-above m at n (column + w * (place + 1)) up h (omega (arith, s, e))

  closed-above : (w : ℕ) (m : List ℕ) (column place count : ℕ) → place < count → column + w * count ≤ at → at + n ≤ length m
      → part (column_closed w m column place count) at n ≡ part m at n
  unfolding column_closed
  closed-above w m column place count below b h =
      let s = size-about w place count below in
      let down : List ℕ = part m (column + w * (place + 1)) (w * (count - (place + 1))) in
      let e = length_part m (column + w * (place + 1)) (w * (count - (place + 1))) (omega (arith, s)) in
      part-above m at n (column + w * place) down h (omega (arith, s, e))

  changed-above : (f : ℕ → ℕ) (w k : ℕ) (m : List ℕ) (column : ℕ) → column + w * k ≤ at → at + n ≤ length m
      → part (changed f w k m column) at n ≡ part m at n
  unfolding changed
  changed-above f w zero m column b h = refl
  changed-above f w (suc k) m column b h =
      let new : List ℕ = number_bytes w (f (number w m column)) in
      changed-above f w k (overlay m column new) (column + w) (omega arith) (omega (arith, length-overlay m column new))
      ∙ part-above m at n column new h (omega (arith, length-number_bytes w (f (number w m column))))

-- ---- the offsets, with those behind a place shifted

module _ (m : List ℕ) (place count offset text : ℕ) where
  length-offsets_opened : length (offsets_opened m place count offset text) ≡ length m
  unfolding offsets_opened
  length-offsets_opened =
      let one : List ℕ = column_opened 2 m offsets_place place (count + 1) offset in
      length-changed (λ x. x + text) 2 (count + 1 - place) one (offset_place (place + 1)) ∙ length-opened 2 m offsets_place place (count + 1) offset

  offsets_opened-below : (n j : ℕ) → j + n ≤ indexes_place → number n (offsets_opened m place count offset text) j ≡ number n m j
  unfolding offsets_opened
  offsets_opened-below n j h =
      let one : List ℕ = column_opened 2 m offsets_place place (count + 1) offset in
      changed-below (λ x. x + text) 2 (count + 1 - place) one (offset_place (place + 1)) n j (omega arith)
      ∙ opened-below 2 m offsets_place place (count + 1) offset n j (omega arith)

  offsets_opened-text : (at n : ℕ) → place ≤ count → count < 128 → text_place ≤ at → at + n ≤ length m
      → part (offsets_opened m place count offset text) at n ≡ part m at n
  unfolding offsets_opened
  offsets_opened-text at n below few from h =
      let one : List ℕ = column_opened 2 m offsets_place place (count + 1) offset in
      changed-above at n (λ x. x + text) 2 (count + 1 - place) one (offset_place (place + 1)) (omega arith)
      (omega (arith, length-opened 2 m offsets_place place (count + 1) offset))
      ∙ opened-above at n 2 m offsets_place place (count + 1) offset (omega arith) (omega arith) h

module _ (m : List ℕ) (place count text : ℕ) where
  length-offsets_closed : length (offsets_closed m place count text) ≡ length m
  unfolding offsets_closed
  length-offsets_closed =
      let one : List ℕ = column_closed 2 m offsets_place place (count + 1) in
      length-changed (λ x. x + (65536 - text)) 2 (count - place) one (offset_place place) ∙ length-closed 2 m offsets_place place (count + 1)

  offsets_closed-below : (n j : ℕ) → j + n ≤ indexes_place → number n (offsets_closed m place count text) j ≡ number n m j
  unfolding offsets_closed
  offsets_closed-below n j h =
      let one : List ℕ = column_closed 2 m offsets_place place (count + 1) in
      changed-below (λ x. x + (65536 - text)) 2 (count - place) one (offset_place place) n j (omega arith)
      ∙ closed-below 2 m offsets_place place (count + 1) n j (omega arith)

  offsets_closed-text : (at n : ℕ) → place < count → count ≤ 128 → text_place ≤ at → at + n ≤ length m
      → part (offsets_closed m place count text) at n ≡ part m at n
  unfolding offsets_closed
  offsets_closed-text at n below few from h =
      let one : List ℕ = column_closed 2 m offsets_place place (count + 1) in
      changed-above at n (λ x. x + (65536 - text)) 2 (count - place) one (offset_place place) (omega arith)
      (omega (arith, length-closed 2 m offsets_place place (count + 1)))
      ∙ closed-above at n 2 m offsets_place place (count + 1) (omega arith) (omega arith) h

-- ---- a row put in

module _ (m : List ℕ) (place count index offset name text : ℕ) where
  pub length-row_opened : length (row_opened m place count index offset name text) ≡ length m
  unfolding row_opened
  length-row_opened =
      let one : List ℕ = column_opened 4 m indexes_place (place + 1) (count + 1) index in
      let two : List ℕ = offsets_opened one place count offset text in
      let three : List ℕ = column_opened 1 two name_lengths_place place count name in
      length-opened 2 three statuses_place place count 0 ∙ length-opened 1 two name_lengths_place place count name
      ∙ length-offsets_opened one place count offset text ∙ length-opened 4 m indexes_place (place + 1) (count + 1) index

  pub row_opened-below : (n j : ℕ) → j + n ≤ indexes_place → number n (row_opened m place count index offset name text) j ≡ number n m j
  unfolding row_opened
  row_opened-below n j h =
      let one : List ℕ = column_opened 4 m indexes_place (place + 1) (count + 1) index in
      let two : List ℕ = offsets_opened one place count offset text in
      let three : List ℕ = column_opened 1 two name_lengths_place place count name in
      opened-below 2 three statuses_place place count 0 n j (omega arith) ∙ opened-below 1 two name_lengths_place place count name n j (omega arith)
      ∙ offsets_opened-below one place count offset text n j h ∙ opened-below 4 m indexes_place (place + 1) (count + 1) index n j h

  pub row_opened-text : (at n : ℕ) → place ≤ count → count < 128 → text_place ≤ at → at + n ≤ length m
      → part (row_opened m place count index offset name text) at n ≡ part m at n
  unfolding row_opened
  row_opened-text at n below few from h =
      let one : List ℕ = column_opened 4 m indexes_place (place + 1) (count + 1) index in
      let two : List ℕ = offsets_opened one place count offset text in
      let three : List ℕ = column_opened 1 two name_lengths_place place count name in
      let l1 : length one ≡ length m = length-opened 4 m indexes_place (place + 1) (count + 1) index in
      let l2 : length two ≡ length one = length-offsets_opened one place count offset text in
      let l3 : length three ≡ length two = length-opened 1 two name_lengths_place place count name in
      opened-above at n 2 three statuses_place place count 0 below (omega arith) (omega arith)
      ∙ opened-above at n 1 two name_lengths_place place count name below (omega arith) (omega arith)
      ∙ offsets_opened-text one place count offset text at n below few from (omega arith)
      ∙ opened-above at n 4 m indexes_place (place + 1) (count + 1) index (omega arith) (omega arith) h

-- ---- a row taken out

module _ (m : List ℕ) (place count text : ℕ) where
  pub length-row_closed : length (row_closed m place count text) ≡ length m
  unfolding row_closed
  length-row_closed =
      let one : List ℕ = column_closed 4 m indexes_place (place + 1) (count + 1) in
      let two : List ℕ = offsets_closed one place count text in
      let three : List ℕ = column_closed 1 two name_lengths_place place count in
      length-closed 2 three statuses_place place count ∙ length-closed 1 two name_lengths_place place count
      ∙ length-offsets_closed one place count text ∙ length-closed 4 m indexes_place (place + 1) (count + 1)

  pub row_closed-below : (n j : ℕ) → j + n ≤ indexes_place → number n (row_closed m place count text) j ≡ number n m j
  unfolding row_closed
  row_closed-below n j h =
      let one : List ℕ = column_closed 4 m indexes_place (place + 1) (count + 1) in
      let two : List ℕ = offsets_closed one place count text in
      let three : List ℕ = column_closed 1 two name_lengths_place place count in
      closed-below 2 three statuses_place place count n j (omega arith) ∙ closed-below 1 two name_lengths_place place count n j (omega arith)
      ∙ offsets_closed-below one place count text n j h ∙ closed-below 4 m indexes_place (place + 1) (count + 1) n j h

  pub row_closed-text : (at n : ℕ) → place < count → count ≤ 128 → text_place ≤ at → at + n ≤ length m
      → part (row_closed m place count text) at n ≡ part m at n
  unfolding row_closed
  row_closed-text at n below few from h =
      let one : List ℕ = column_closed 4 m indexes_place (place + 1) (count + 1) in
      let two : List ℕ = offsets_closed one place count text in
      let three : List ℕ = column_closed 1 two name_lengths_place place count in
      let l1 : length one ≡ length m = length-closed 4 m indexes_place (place + 1) (count + 1) in
      let l2 : length two ≡ length one = length-offsets_closed one place count text in
      let l3 : length three ≡ length two = length-closed 1 two name_lengths_place place count in
      closed-above at n 2 three statuses_place place count below (omega arith) (omega arith)
      ∙ closed-above at n 1 two name_lengths_place place count below (omega arith) (omega arith)
      ∙ offsets_closed-text one place count text at n below few from (omega arith)
      ∙ closed-above at n 4 m indexes_place (place + 1) (count + 1) (omega arith) (omega arith) h

-- ---- the record, which stands before the columns

pub recorded-text : (m : List ℕ) (held count at n : ℕ) → text_place ≤ at → at + n ≤ length m → part (recorded m held count) at n ≡ part m at n
unfolding recorded
recorded-text m held count at n from h =
    let one : List ℕ = number_bytes 2 held in
    part-above (overlay m held_place one) at n count_place (number_bytes 2 count) (omega (arith, length-overlay m held_place one))
    (omega (arith, length-number_bytes 2 count))
    ∙ part-above m at n held_place one h (omega (arith, length-number_bytes 2 held))

pub length-recorded : (m : List ℕ) (held count : ℕ) → length (recorded m held count) ≡ length m
unfolding recorded
length-recorded m held count =
    length-overlay (overlay m held_place (number_bytes 2 held)) count_place (number_bytes 2 count) ∙ length-overlay m held_place (number_bytes 2 held)
