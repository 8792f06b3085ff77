-- The numbers of what a change leaves fit their fields: rows are put in, taken out or changed between rows that fit.
use Prim.Native.Nat.{ℕ, ◌+◌, ◌-◌, ◌≤◌, ◌<◌}
use mathlib.Core.Path.{◌≡◌, ap, subst}
use native.Mathlib.Omega.{arith}
use mathlib.Core.List.{List, [], ◌∷◌, ◌++◌, map}
use lib.Dec.{ltb}
use lib.ListN.{length, length-append}
use Rattle.memory.proofs.Order.{pick-both}
use Rattle.model.specs.Parts.{Marks}
use Rattle.model.specs.Table.{size, total}
use Rattle.state.specs.Rows.{Row, text_bytes, rows_size}
use Rattle.state.specs.Front.{Front, with_rows, with_deletes, with_marks}
use Rattle.state_laws.proofs.FrontHolds.{FineRow, FineRows, FineFront}
use Rattle.state_laws.proofs.FrontLengths.{rows_size-text, rows_size-append, fine-append, fine-left, fine-right}
use Rattle.table.specs.Changes.{fresh_front}
use Rattle.table_laws.proofs.FrontRows.{with_status, lowered, alike-lowered, alike-length, alike-text}

-- the row of an entry that is put in
abbrev pub new_row : ℕ → List ℕ → List ℕ → Row
new_row index name value = record { index = index; entry = record { name = name; value = value }; status = 0 }

pub fresh-fits : (role limit : ℕ) → limit < 65536 → FineFront (fresh_front role limit)
unfolding rows_size total
fresh-fits role limit h = record { limit = h; few = omega arith; fits = omega arith; deletes = omega arith; rows = tt }

-- ---- rows with lower statuses

fine-lowered : (status : ℕ) (rs : List Row) → FineRows rs → FineRows (map (lowered status) rs)
fine-lowered status [] F = tt
fine-lowered status (r ∷ rs) F = (
  record {
    index = F.0.index;
    name = F.0.name;
    status = pick-both (λ (x : ℕ). x < 65536) (ltb status r.status) (r.status - 1) r.status
        (λ e. omega (arith, F.0.status)) (λ e. F.0.status);
  },
  fine-lowered status rs F.1,
)

module _ (f : Front) (F : FineFront f) where
  pub marks-fit : (k : Marks) → FineFront (with_marks f k)
  marks-fit k = record { limit = F.limit; few = F.few; fits = F.fits; deletes = F.deletes; rows = F.rows }

  pub deletes-fit : (n : ℕ) → n < 65536 → FineFront (with_deletes f n)
  deletes-fit n h = record { limit = F.limit; few = F.few; fits = F.fits; deletes = h; rows = F.rows }

  pub rows_fit : (rs : List Row) → length rs ≤ 128 → rows_size rs ≤ 4096 → FineRows rs → FineFront (with_rows f rs)
  rows_fit rs few fits fine = record { limit = F.limit; few = few; fits = fits; deletes = F.deletes; rows = fine }

  pub renumber-fits : (status : ℕ) → FineFront (with_rows f (map (lowered status) f.rows))
  renumber-fits status =
      let rs : List Row = map (lowered status) f.rows in
      let a = alike-lowered status f.rows in
      let n = alike-length rs f.rows a in
      let t : length (text_bytes rs) ≡ length (text_bytes f.rows) = ap length (alike-text rs f.rows a) in
      rows_fit rs (omega (arith, F.few)) (omega (arith, F.fits, rows_size-text rs, rows_size-text f.rows)) (fine-lowered status f.rows F.rows)

  -- ---- rows at a split

  module _ (xs ys : List Row) (e : f.rows ≡ xs ++ ys) where
    pub fine_before : FineRows xs
    fine_before = fine-left xs ys (subst FineRows e F.rows)

    pub fine-after : FineRows ys
    fine-after = fine-right xs ys (subst FineRows e F.rows)

    pub insert-fits : (index : ℕ) (name value : List ℕ) → rows_size f.rows + (length name + length value + 32) ≤ 4096
        → length f.rows < 128 → index < 4294967296 → length name ≤ 255 → FineFront (with_rows f (xs ++ new_row index name value ∷ ys))
    unfolding rows_size total size
    insert-fits index name value room few low short =
        let r : Row = new_row index name value in
        let fine : FineRow r = record { index = low; name = omega arith; status = omega arith } in
        rows_fit (xs ++ r ∷ ys)
        (omega (arith, ap length e, length-append xs ys, length-append xs (r ∷ ys)))
        (omega (arith, ap rows_size e, rows_size-append xs ys, rows_size-append xs (r ∷ ys)))
        (fine-append xs (r ∷ ys) fine_before (fine, fine-after))

  module _ (xs : List Row) (r : Row) (ys : List Row) (e : f.rows ≡ xs ++ r ∷ ys) where
    pub remove-fits : FineFront (with_rows f (xs ++ ys))
    unfolding rows_size total
    remove-fits =
        rows_fit (xs ++ ys)
        (omega (arith, F.few, ap length e, length-append xs ys, length-append xs (r ∷ ys)))
        (omega (arith, F.fits, ap rows_size e, rows_size-append xs ys, rows_size-append xs (r ∷ ys)))
        (fine-append xs ys (fine_before xs (r ∷ ys) e) (fine-after xs (r ∷ ys) e).1)

    pub status-fits : (status : ℕ) → status < 65536 → FineFront (with_rows f (xs ++ with_status r status ∷ ys))
    unfolding rows_size total
    status-fits status h =
        let s : Row = with_status r status in
        let E = fine-after xs (r ∷ ys) e in
        let fine : FineRow s = record { index = E.0.index; name = E.0.name; status = h } in
        rows_fit (xs ++ s ∷ ys)
        (omega (arith, F.few, ap length e, length-append xs (s ∷ ys), length-append xs (r ∷ ys)))
        (omega (arith, F.fits, ap rows_size e, rows_size-append xs (s ∷ ys), rows_size-append xs (r ∷ ys)))
        (fine-append xs (s ∷ ys) (fine_before xs (r ∷ ys) e) (fine, E.1))
