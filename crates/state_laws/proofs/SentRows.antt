-- Rows and horizons read as entries: what was entered is read back, and what is read stands there. Entry by entry, by induction over the rows.
use mathlib.Core.Path.{◌≡◌, refl, ap, ap₂, subst}
use Prim.Native.Nat.{ℕ, zero, suc, ◌+◌, ◌≤◌, ◌<◌}
use native.Mathlib.Omega.{arith}
use mathlib.Core.List.{List, [], ◌∷◌, map}
use lib.ListN.{length}
use lib.Dec.{eqb}
use borrow.Author.Tests.{eqb-true, eqb-false}
use Rattle.memory.specs.Choice.{pick}
use Rattle.memory.proofs.Order.{split, pick-both}
use Rattle.columns.specs.Columns.{Reads}
use Rattle.model.specs.Table.{Ascending, total, size}
use Rattle.model.specs.Encoder.{Sent, sent_index, sent_size, FineSent}
use Rattle.state.specs.Layout.{nontrailer_place, trailer_place, index_at, status_at}
use Rattle.state.specs.Rows.{Row, row_index, row_at, rows_of, rows_size}
use Rattle.state.specs.EncoderState.{nontrailer_at, trailer_at, sent_at, sents_of, row_of_sent, nontrailer_of, trailer_of}
use Rattle.state_laws.proofs.FrontHolds.{FineRow, FineRows}
use Rattle.state_laws.proofs.Each.{Each}

-- ---- from entries to rows and back

-- the sizes of rows and of entries
pub sents-size : (es : List Sent) → rows_size (map row_of_sent es) ≡ sent_size es
unfolding rows_size sent_size total row_of_sent
sents-size [] = refl
sents-size (e ∷ es) = ap (λ (n : ℕ). size e.entry + n) (sents-size es)

pub sent-fine : (e : Sent) → FineSent e → FineRow (row_of_sent e)
unfolding row_of_sent
sent-fine e fine =
    record {
      index = let h = fine.high in omega arith;
      name = let h = fine.name in omega arith;
      status = pick-both (λ (n : ℕ). n < 65536) e.deleted 1 0 (λ t. omega arith) (λ t. omega arith);
    }

pub sents-fine : (es : List Sent) → Each FineSent es → FineRows (map row_of_sent es)
sents-fine [] fine = tt
sents-fine (e ∷ es) fine = (sent-fine e fine.0, sents-fine es fine.1)

-- a row that is read as that of an entry
module _ (m : List ℕ) (i : ℕ) (e : Sent) (row : row_at m i ≡ row_of_sent e) where
  status-of : status_at m i ≡ pick e.deleted 1 0
  unfolding row_of_sent
  status-of = ap (λ (r : Row). r.status) row

  pub status-low : status_at m i ≤ 1
  status-low = rw status-of (pick-both (λ (n : ℕ). n ≤ 1) e.deleted 1 0 (λ t. omega arith) (λ t. omega arith))

  sent_back : nontrailer_at m i ≡ e.nontrailer → trailer_at m i ≡ e.trailer → sent_at m i ≡ e
  unfolding sent_at row_of_sent
  sent_back p t =
      let d : eqb (status_at m i) 1 ≡ e.deleted =
      rw status-of (pick-both (λ (n : ℕ). eqb n 1 ≡ e.deleted) e.deleted 1 0 (λ z. cc) (λ z. cc)) in
      λ k. record {
        index = (row k).index;
        entry = (row k).entry;
        nontrailer = p k;
        trailer = t k;
        deleted = d k;
      }

pub sents-back : (m : List ℕ) (es : List Sent) (i : ℕ) → rows_of m i (length es) ≡ map row_of_sent es
    → Reads 2 m (nontrailer_place i) (map nontrailer_of es) → Reads 2 m (trailer_place i) (map trailer_of es) → sents_of m i (length es) ≡ es
unfolding rows_of sents_of
sents-back m [] i rows p t = refl
sents-back m (e ∷ es) i rows p t =
    let first : row_at m i ≡ row_of_sent e = cc in
    let rest : rows_of m (i + 1) (length es) ≡ map row_of_sent es = cc in
    let next : nontrailer_place i + 2 ≡ nontrailer_place (i + 1) = omega arith in
    let last : trailer_place i + 2 ≡ trailer_place (i + 1) = omega arith in
    ap₂ (λ (x : Sent) (xs : List Sent). x ∷ xs) (sent_back m i e first p.0 t.0)
    (sents-back m es (i + 1) rest (rw next at p.1) (rw last at t.1))

pub statuses-low : (m : List ℕ) (es : List Sent) (i : ℕ) → rows_of m i (length es) ≡ map row_of_sent es
    → (j : ℕ) → i ≤ j → j < i + length es → status_at m j ≤ 1
unfolding rows_of
statuses-low m [] i rows j a b = absurd (omega arith)
statuses-low m (e ∷ es) i rows j a b =
    let first : row_at m i ≡ row_of_sent e = cc in
    let rest : rows_of m (i + 1) (length es) ≡ map row_of_sent es = cc in
    split i j
    (λ h. statuses-low m es (i + 1) rest j (omega arith) (omega arith))
    (λ h. let this : i ≡ j = omega arith in rw this at (status-low m i e first))

-- ---- from rows to entries and back

module _ (m : List ℕ) where
  pub length-sents_of : (i k : ℕ) → length (sents_of m i k) ≡ k
  unfolding sents_of
  length-sents_of i zero = refl
  length-sents_of i (suc k) = ap suc (length-sents_of (i + 1) k)

  pub each-sent : (P : Sent → Type 0) (k i : ℕ) → Each P (sents_of m i k) → (j : ℕ) → i ≤ j → j < i + k → P (sent_at m j)
  unfolding sents_of
  each-sent P zero i each j a b = absurd (omega arith)
  each-sent P (suc k) i each j a b =
      split i j
      (λ h. each-sent P k (i + 1) each.1 j (omega arith) (omega arith))
      (λ h. let this : i ≡ j = omega arith in subst (λ (x : ℕ). P (sent_at m x)) this each.0)

  row_back : (i : ℕ) → status_at m i ≤ 1 → row_of_sent (sent_at m i) ≡ row_at m i
  unfolding sent_at row_of_sent
  row_back i h =
      let s : pick (eqb (status_at m i) 1) 1 0 ≡ status_at m i =
      pick-both (λ (n : ℕ). n ≡ status_at m i) (eqb (status_at m i) 1) 1 0 (λ t. omega (arith, eqb-true (status_at m i) 1 t))
      (λ t. omega (arith, eqb-false (status_at m i) 1 t)) in
      rw s

  pub rows_back : (k i : ℕ) → ((j : ℕ) → i ≤ j → j < i + k → status_at m j ≤ 1) → map row_of_sent (sents_of m i k) ≡ rows_of m i k
  unfolding sents_of rows_of
  rows_back zero i low = refl
  rows_back (suc k) i low =
      ap₂ (λ (x : Row) (xs : List Row). x ∷ xs) (row_back i (low i (omega arith) (omega arith)))
      (rows_back k (i + 1) (λ j a b. low j (omega arith) (omega arith)))

  -- the columns as they are read
  pub nontrailers-stand : (k i : ℕ) → Reads 2 m (nontrailer_place i) (map nontrailer_of (sents_of m i k))
  unfolding sents_of sent_at
  nontrailers-stand zero i = tt
  nontrailers-stand (suc k) i =
      let next : nontrailer_place (i + 1) ≡ nontrailer_place i + 2 = omega arith in
      (refl, rw next at (nontrailers-stand k (i + 1)))

  pub trailers-stand : (k i : ℕ) → Reads 2 m (trailer_place i) (map trailer_of (sents_of m i k))
  unfolding sents_of sent_at
  trailers-stand zero i = tt
  trailers-stand (suc k) i =
      let next : trailer_place (i + 1) ≡ trailer_place i + 2 = omega arith in
      (refl, rw next at (trailers-stand k (i + 1)))

  pub sents-order : (k i lo : ℕ) → Ascending row_index lo (rows_of m i k) → Ascending sent_index lo (sents_of m i k)
  unfolding sents_of rows_of sent_at
  sents-order zero i lo order = tt
  sents-order (suc k) i lo order = (order.0, sents-order k (i + 1) (suc (index_at m i)) order.1)
