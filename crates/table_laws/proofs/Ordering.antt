-- Rows that ascend, in memory that holds a front, stand in the order that searches rely on. By induction over the rows that are read.
use Prim.Native.Nat.{ℕ, suc, ◌+◌, ◌≤◌, ◌<◌}
use mathlib.Core.Path.{◌≡◌, ap, ◌∙◌}
use native.Mathlib.Omega.{arith}
use mathlib.Core.List.{List, [], ◌∷◌, ◌++◌}
use lib.ListN.{length, length-append}
use Rattle.memory.proofs.Order.{split}
use Rattle.model.specs.Table.{Ascending}
use Rattle.state.specs.Layout.{index_at, offset_at, name_length_at}
use Rattle.state.specs.Rows.{Row, row_index, text_of, text_bytes}
use Rattle.state.specs.Front.{Front}
use Rattle.state_laws.proofs.FrontHolds.{HoldsFront}
use Rattle.state_laws.proofs.FrontLengths.{length-text}
use Rattle.state_laws.proofs.FrontRead.{fine-text, read_count, read-each}
use Rattle.state_laws.proofs.RowsRead.{RowsRead}
use Rattle.table_search.specs.Search.{Ordered}

module _ (m : List ℕ) where
  -- indexes rise by at least one from row to row
  rows-low : (rs : List Row) (i o lo j : ℕ) → RowsRead m i o rs → Ascending row_index lo rs → i ≤ j → j < i + length rs → lo + j ≤ index_at m j + i
  rows-low [] i o lo j R A a b = absurd (omega arith)
  rows-low (r ∷ rs) i o lo j R A a b =
      let low = A.0 in
      split i j
      (λ l. let w = rows-low rs (i + 1) (o + length (text_of r.entry)) (suc r.index) j R.1 A.1 (omega arith) (omega arith) in omega arith)
      (λ l. let z : j ≡ i = omega arith in
      let e : index_at m j ≡ r.index = ap (λ (k : ℕ). index_at m k) z ∙ R.0.index in
      omega arith)

  rows-rising : (rs : List Row) (i o lo j k : ℕ) → RowsRead m i o rs → Ascending row_index lo rs → i ≤ j → j < k → k < i + length rs
      → index_at m j < index_at m k
  rows-rising [] i o lo j k R A a b c = absurd (omega arith)
  rows-rising (r ∷ rs) i o lo j k R A a b c =
      let p : ℕ = o + length (text_of r.entry) in
      split i j
      (λ l. rows-rising rs (i + 1) p (suc r.index) j k R.1 A.1 (omega arith) b (omega arith))
      (λ l. let z : j ≡ i = omega arith in
      let e : index_at m j ≡ r.index = ap (λ (x : ℕ). index_at m x) z ∙ R.0.index in
      let w = rows-low rs (i + 1) p (suc r.index) k R.1 A.1 (omega arith) (omega arith) in
      omega arith)

  -- the text of each holds its name, and ends where all text ends or before
  rows-within : (rs : List Row) (i o j : ℕ) → RowsRead m i o rs → i ≤ j → j < i + length rs
      → (offset_at m j + name_length_at m j ≤ offset_at m (j + 1)) × (offset_at m (j + 1) ≤ o + length (text_bytes rs))
  unfolding text_bytes
  rows-within [] i o j R a b = absurd (omega arith)
  rows-within (r ∷ rs) i o j R a b =
      let w : ℕ = length (text_of r.entry) in
      let l = length-append (text_of r.entry) (text_bytes rs) in
      split i j
      (λ h. let q = rows-within rs (i + 1) (o + w) j R.1 (omega arith) (omega arith) in (q.0, omega (arith, q.1)))
      (λ h. let z : i ≡ j = omega arith in
      let here : (offset_at m i + name_length_at m i ≤ offset_at m (i + 1)) × (offset_at m (i + 1) ≤ o + length (text_of r.entry ++ text_bytes rs)) =
      (omega (arith, R.0.offset, R.0.name, R.0.next, length-text r), omega (arith, R.0.next)) in
      rw z at here)

pub ordered-front : (f : Front) (m : List ℕ) → HoldsFront f m → Ascending row_index 62 f.rows → Ordered m
ordered-front f m H A =
    let rs : List Row = f.rows in
    let R = read-each f m H in
    let n = read_count f m H in
    record {
      long = H.long;
      few = omega (arith, H.fine.few);
      low = λ i h. let w = rows-low m rs 0 0 62 i R A (omega arith) (omega arith) in omega arith;
      rising = λ i j h k. rows-rising m rs 0 0 62 i j R A (omega arith) h (omega arith);
      name = λ i h. (rows-within m rs 0 0 i R (omega arith) (omega arith)).0;
      text = λ i h. omega (arith, (rows-within m rs 0 0 i R (omega arith) (omega arith)).1, fine-text f H.fine);
    }
