-- Rows that are read from memory are the rows whose columns and text stand there, and the other way round. Number by number, then by induction over
-- the rows.
use Prim.Native.Nat.{ℕ, suc, ◌+◌, ◌*◌, ◌≤◌}
use mathlib.Core.Path.{◌≡◌, refl, sym, ap, subst, ◌∙◌}
use native.Mathlib.Omega.{arith}
use native.Mathlib.Nat.{add-zero}
use mathlib.Core.List.{List, [], ◌∷◌, ◌++◌, map}
use lib.ListN.{length, length-append}
use Rattle.memory.specs.Bytes.{part, Has, Small}
use Rattle.memory.specs.Numbers.{number}
use Rattle.memory.proofs.Numbers.{number_bound}
use Rattle.memory.proofs.Places.{has_left, has_right, has_join, has_part, has_of}
use Rattle.columns.specs.Columns.{Reads}
use Rattle.state.specs.Layout.{
  index_place,
  offset_place,
  name_length_place,
  status_place,
  text_place,
  index_at,
  offset_at,
  name_length_at,
  value_length_at,
  status_at,
}
use Rattle.state.specs.Rows.{Row, row_index, name_length, row_status, row_at, rows_of, text_of, offsets_from, text_bytes}
use Rattle.state_laws.proofs.FrontHolds.{FineRow, FineRows}
use Rattle.state_laws.proofs.FrontLengths.{length-text}

-- ---- a row

-- row i is read as r, with its text at this offset
pub record RowRead (m : List ℕ) (i o : ℕ) (r : Row) : Type 0 where
  pub row : row_at m i ≡ r
  pub index : index_at m i ≡ r.index
  pub offset : offset_at m i ≡ o
  pub next : offset_at m (i + 1) ≡ o + length (text_of r.entry)
  pub name : name_length_at m i ≡ length r.entry.name
  pub value : value_length_at m i ≡ length r.entry.value
  pub status : status_at m i ≡ r.status

abbrev pub RowsRead : List ℕ → ℕ → ℕ → List Row → Type 0
RowsRead m i o [] = Unit {0}
RowsRead m i o (r ∷ rs) = RowRead m i o r × RowsRead m (i + 1) (o + length (text_of r.entry)) rs

module _ (m : List ℕ) (i o : ℕ) (r : Row) where
  row_read : index_at m i ≡ r.index → offset_at m i ≡ o → offset_at m (i + 1) ≡ o + length (text_of r.entry)
      → name_length_at m i ≡ length r.entry.name → status_at m i ≡ r.status → Has m (text_place + o) (text_of r.entry) → RowRead m i o r
  row_read index offset next name status t =
      let n : List ℕ = r.entry.name in
      let v : List ℕ = r.entry.value in
      let at_name : part m (text_place + o) (length n) ≡ n = has_part m (text_place + o) n (has_left m (text_place + o) n v t) in
      let at_value : part m (text_place + o + length n) (length v) ≡ v =
      has_part m (text_place + o + length n) v (has_right m (text_place + o) n v t) in
      let value : value_length_at m i ≡ length v = omega (arith, length-text r) in
      record {
        row = λ k. record {
          index = index k;
          entry = record {
            name = ((λ j. part m (text_place + offset j) (name j)) ∙ at_name) k;
            value = ((λ j. part m (text_place + offset j + name j) (value j)) ∙ at_value) k;
          };
          status = status k;
        };
        index = index;
        offset = offset;
        next = next;
        name = name;
        value = value;
        status = status;
      }

  row-text : text_place + o + length (text_of r.entry) ≤ length m → RowRead m i o r → Has m (text_place + o) (text_of r.entry)
  row-text b R =
      let n : List ℕ = r.entry.name in
      let v : List ℕ = r.entry.value in
      let l = length-text r in
      let ro : offset_at m i ≡ o = R.offset in
      let rn : name_length_at m i ≡ length n = R.name in
      let rv : value_length_at m i ≡ length v = R.value in
      let at_name : part m (text_place + o) (length n) ≡ n = sym (λ j. part m (text_place + ro j) (rn j)) ∙ ap (λ (x : Row). x.entry.name) R.row in
      let at_value : part m (text_place + o + length n) (length v) ≡ v =
      sym (λ j. part m (text_place + ro j + rn j) (rv j)) ∙ ap (λ (x : Row). x.entry.value) R.row in
      has_join m (text_place + o) n v
      (has_of m (text_place + o) (length n) n (omega arith) at_name)
      (has_of m (text_place + o + length n) (length v) v (omega arith) at_value)

  row_fine : Small m → RowRead m i o r → FineRow r
  row_fine small R = record {
    index = omega (arith, R.index, number_bound 4 m (index_place i) small);
    name = omega (arith, R.name, number_bound 1 m (name_length_place i) small);
    status = omega (arith, R.status, number_bound 2 m (status_place i) small);
  }

-- ---- rows

-- the columns of rows, from row i on
pub record ColumnsRead (m : List ℕ) (i o : ℕ) (rs : List Row) : Type 0 where
  pub indexes : Reads 4 m (index_place i) (map row_index rs)
  pub offsets : Reads 2 m (offset_place i) (offsets_from o rs)
  pub names : Reads 1 m (name_length_place i) (map name_length rs)
  pub statuses : Reads 2 m (status_place i) (map row_status rs)

module _ (m : List ℕ) where
  pub offsets-first : (at o : ℕ) (rs : List Row) → Reads 2 m at (offsets_from o rs) → number 2 m at ≡ o
  unfolding offsets_from
  offsets-first at o [] h = h.0
  offsets-first at o (r ∷ rs) h = h.0

  -- the columns without the first row
  columns-rest : (i o : ℕ) (r : Row) (rs : List Row) → ColumnsRead m i o (r ∷ rs) → ColumnsRead m (i + 1) (o + length (text_of r.entry)) rs
  unfolding offsets_from
  columns-rest i o r rs C =
      let a : index_place i + 4 ≡ index_place (i + 1) = omega arith in
      let b : offset_place i + 2 ≡ offset_place (i + 1) = omega arith in
      let c : name_length_place i + 1 ≡ name_length_place (i + 1) = omega arith in
      let d : status_place i + 2 ≡ status_place (i + 1) = omega arith in
      record {
        indexes = subst (λ (at : ℕ). Reads 4 m at (map row_index rs)) a C.indexes.1;
        offsets = subst (λ (at : ℕ). Reads 2 m at (offsets_from (o + length (text_of r.entry)) rs)) b C.offsets.1;
        names = subst (λ (at : ℕ). Reads 1 m at (map name_length rs)) c C.names.1;
        statuses = subst (λ (at : ℕ). Reads 2 m at (map row_status rs)) d C.statuses.1;
      }

  pub rows-read : (rs : List Row) (i o : ℕ) → ColumnsRead m i o rs → Has m (text_place + o) (text_bytes rs) → RowsRead m i o rs
  unfolding offsets_from text_bytes
  rows-read [] i o C t = tt
  rows-read (r ∷ rs) i o C t =
      let w : List ℕ = text_of r.entry in
      let p : ℕ = o + length w in
      let D = columns-rest i o r rs C in
      let e : text_place + o + length w ≡ text_place + p = omega arith in (
        row_read m i o r C.indexes.0 C.offsets.0 (offsets-first (offset_place (i + 1)) p rs D.offsets) C.names.0 C.statuses.0
            (has_left m (text_place + o) w (text_bytes rs) t),
        rows-read rs (i + 1) p D (rw e at (has_right m (text_place + o) w (text_bytes rs) t)),
      )

  -- a column of numbers that each row has, w bytes each
  rows-column : (w base : ℕ) (f : Row → ℕ) → ((i o : ℕ) (r : Row) → RowRead m i o r → number w m (base + w * i) ≡ f r)
      → (rs : List Row) (i o : ℕ) → RowsRead m i o rs → Reads w m (base + w * i) (map f rs)
  rows-column w base f each [] i o R = tt
  rows-column w base f each (r ∷ rs) i o R =
      let e : base + w * (i + 1) ≡ base + w * i + w = omega arith in (
        each i o r R.0,
        subst (λ (at : ℕ). Reads w m at (map f rs)) e (rows-column w base f each rs (i + 1) (o + length (text_of r.entry)) R.1),
      )

  rows-offsets : (rs : List Row) (i o : ℕ) → offset_at m i ≡ o → RowsRead m i o rs → Reads 2 m (offset_place i) (offsets_from o rs)
  unfolding offsets_from
  rows-offsets [] i o h R = (h, tt)
  rows-offsets (r ∷ rs) i o h R =
      let p : ℕ = o + length (text_of r.entry) in
      let e : offset_place (i + 1) ≡ offset_place i + 2 = omega arith in
      (h, subst (λ (at : ℕ). Reads 2 m at (offsets_from p rs)) e (rows-offsets rs (i + 1) p R.0.next R.1))

  pub rows-columns : (rs : List Row) → offset_at m 0 ≡ 0 → RowsRead m 0 0 rs → ColumnsRead m 0 0 rs
  rows-columns rs h R = record {
    indexes = rows-column 4 1092 row_index (λ i o r S. S.index) rs 0 0 R;
    offsets = rows-offsets rs 0 0 h R;
    names = rows-column 1 1862 name_length (λ i o r S. let e : 1862 + 1 * i ≡ name_length_place i = omega arith in ap (number 1 m) e ∙ S.name) rs 0 0 R;
    statuses = rows-column 2 1990 row_status (λ i o r S. S.status) rs 0 0 R;
  }

  pub rows-text : (rs : List Row) (i o : ℕ) → text_place + o + length (text_bytes rs) ≤ length m → RowsRead m i o rs → Has m (text_place + o) (text_bytes rs)
  unfolding text_bytes
  rows-text [] i o b R = tt
  rows-text (r ∷ rs) i o b R =
      let w : List ℕ = text_of r.entry in
      let p : ℕ = o + length w in
      let l = length-append w (text_bytes rs) in
      let e : text_place + p ≡ text_place + o + length w = omega arith in
      has_join m (text_place + o) w (text_bytes rs) (row-text m i o r (omega arith) R.0) (rw e at (rows-text rs (i + 1) p (omega arith) R.1))

  pub rows-fine : (rs : List Row) (i o : ℕ) → Small m → RowsRead m i o rs → FineRows rs
  rows-fine [] i o small R = tt
  rows-fine (r ∷ rs) i o small R = (row_fine m i o r small R.0, rows-fine rs (i + 1) (o + length (text_of r.entry)) small R.1)

  pub rows_are : (rs : List Row) (i o : ℕ) → RowsRead m i o rs → rows_of m i (length rs) ≡ rs
  unfolding rows_of
  rows_are [] i o R = refl
  rows_are (r ∷ rs) i o R = λ k. R.0.row k ∷ rows_are rs (i + 1) (o + length (text_of r.entry)) R.1 k

  -- where the text of rows ends
  pub rows_end : (rs : List Row) (i o : ℕ) → offset_at m i ≡ o → RowsRead m i o rs → offset_at m (i + length rs) ≡ o + length (text_bytes rs)
  unfolding text_bytes
  rows_end [] i o h R = let e : i + 0 ≡ i = omega arith in ap (offset_at m) e ∙ omega arith
  rows_end (r ∷ rs) i o h R =
      let w : List ℕ = text_of r.entry in
      let e : i + suc (length rs) ≡ i + 1 + length rs = omega arith in
      ap (offset_at m) e ∙ rows_end rs (i + 1) (o + length w) R.0.next R.1 ∙ omega (arith, length-append w (text_bytes rs))

  -- the row at a split
  pub rows_split : (xs : List Row) (r : Row) (ys : List Row) (i o : ℕ) → RowsRead m i o (xs ++ r ∷ ys)
      → RowRead m (i + length xs) (o + length (text_bytes xs)) r
  unfolding text_bytes
  rows_split [] r ys i o R = rw (add-zero i, add-zero o) R.0
  rows_split (x ∷ xs) r ys i o R =
      let w : List ℕ = text_of x.entry in
      let d : i + suc (length xs) ≡ i + 1 + length xs = omega arith in
      let e : o + length (w ++ text_bytes xs) ≡ o + length w + length (text_bytes xs) = omega (arith, length-append w (text_bytes xs)) in
      rw (d, e) (rows_split xs r ys (i + 1) (o + length w) R.1)
