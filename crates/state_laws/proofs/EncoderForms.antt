-- The test of an encoder's memory: memory that passes holds the state that it is read as, and memory that holds a state passes.
-- Rows and horizons one by one, by induction over the rows; head and text by the laws of the front.
use mathlib.Core.Path.{◌≡◌, sym, ap, subst}
use Prim.Native.Nat.{ℕ, zero, suc, ◌+◌, ◌≤◌, ◌<◌}
use native.Mathlib.Omega.{arith}
use mathlib.Core.Bool.{true, false, ◌&&◌}
use mathlib.Core.List.{List, [], ◌∷◌, map}
use lib.Dec.{eqb, ltb, leb}
use lib.ListN.{length, length-map}
use borrow.Author.Tests.{eqb-true, leb-true, eq-eqb, le-leb, le-ltb}
use Rattle.memory.specs.Bytes.{Small}
use Rattle.memory.proofs.Order.{pick-false}
use Rattle.columns.proofs.Columns.{column-has}
use Rattle.model.specs.Table.{Ascending}
use Rattle.model.specs.Parts.{streams}
use Rattle.model.specs.Encoder.{Sent, sent_index, Encoder, FineSent}
use Rattle.model_laws.proofs.Marks.{and_both}
use Rattle.state.specs.Layout.{
  encoder_length,
  encoder_role,
  nontrailer_horizons,
  trailer_horizons,
  limit_of,
  count_of,
  delete_count,
  index_at,
  status_at,
}
use Rattle.state.specs.Rows.{row_at, rows_of}
use Rattle.state.specs.Front.{Front, marks_of}
use Rattle.state.specs.EncoderState.{nontrailer_at, trailer_at, sent_at, sents_of, row_of_sent, encoder_of, encoder_front, nontrailer_of, trailer_of}
use Rattle.state.specs.Forms.{head_ok, each, rows_ok, reference_ok, forms_encoder}
use Rattle.state_laws.specs.Laws.{FitsEncoder}
use Rattle.state_laws.proofs.FrontHolds.{HoldsFront}
use Rattle.state_laws.proofs.RowsTest.{both, each_at, each_all, GoodRow, GoodRows}
use Rattle.state_laws.proofs.FrontRead.{read-deletes}
use Rattle.state_laws.proofs.FrontForms.{front_of, HeadTold, head-told, rows-good, rows-ascending, front-holds, holds-head, holds_rows}
use Rattle.state_laws.proofs.Each.{Each, each-found}
use Rattle.state_laws.proofs.SentRows.{
  sents-size,
  length-sents_of,
  each-sent,
  rows_back,
  nontrailers-stand,
  trailers-stand,
  sents-order,
}
use Rattle.state_laws.proofs.EncoderHolds.{HoldsEncoder, fits_each, holds-status, holds-state-encoder}

-- ---- what passes is fine

module _ (m : List ℕ) where
  told-status : (i : ℕ) → reference_ok m i ≡ true → status_at m i ≤ 1
  unfolding reference_ok
  told-status i ok = leb-true (status_at m i) 1 (and_both (leb (status_at m i) 1) _ ok).0

  told-sent : (i low : ℕ) → 62 ≤ low → GoodRow 189 low (row_at m i) → reference_ok m i ≡ true → FineSent (sent_at m i)
  unfolding reference_ok sent_at
  told-sent i low h good ok =
      let p = and_both (leb (nontrailer_at m i) 4096) _ (and_both (leb (status_at m i) 1) _ ok).1 in
      let above = good.above in
      record {
        low = omega arith;
        high = good.below;
        name = good.name;
        value = good.value;
        nontrailer = leb-true _ _ p.0;
        trailer = leb-true _ _ p.1;
      }

  told-sents : (k i low : ℕ) → 62 ≤ low → GoodRows 189 low (rows_of m i k) → ((j : ℕ) → i ≤ j → j < i + k → reference_ok m j ≡ true)
      → Each FineSent (sents_of m i k)
  unfolding rows_of sents_of
  told-sents zero i low h good ok = tt
  told-sents (suc k) i low h good ok =
      let above = good.0.above in (
        told-sent i low h good.0 (ok i (omega arith) (omega arith)),
        told-sents k (i + 1) (suc (index_at m i)) (omega arith) good.1 (λ j a b. ok j (omega arith) (omega arith)),
      )

-- ---- what is fine passes

pub sents-good : (low : ℕ) (es : List Sent) → Ascending sent_index low es → Each FineSent es → GoodRows 189 low (map row_of_sent es)
unfolding row_of_sent
sents-good low [] order fine = tt
sents-good low (e ∷ es) order fine =
    let f = fine.0 in (
      record { above = order.0; below = f.high; name = f.name; value = f.value },
      sents-good (suc e.index) es order.1 fine.1,
    )

pass-row : (m : List ℕ) (i : ℕ) → status_at m i ≤ 1 → FineSent (sent_at m i) → reference_ok m i ≡ true
unfolding reference_ok sent_at
pass-row m i status fine =
    both _ _ (le-leb (status_at m i) 1 status)
    (both _ _ (le-leb (nontrailer_at m i) 4096 fine.nontrailer) (le-leb (trailer_at m i) 4096 fine.trailer))

-- ---- the state

-- the test gives what memory holds
module _ (m : List ℕ) (small : Small m) (forms : forms_encoder m ≡ true) where
  abbrev entries : List Sent
  entries = sents_of m 0 (count_of m)

  -- the test's parts
  head_ok_lem : head_ok encoder_role encoder_length m ≡ true
  unfolding forms_encoder
  head_ok_lem = (and_both (head_ok encoder_role encoder_length m) _ forms).0

  no-deletes : delete_count m ≡ 0
  unfolding forms_encoder
  no-deletes = eqb-true (delete_count m) 0 (and_both (eqb (delete_count m) 0) _ (and_both (head_ok encoder_role encoder_length m) _ forms).1).0

  both_ok : (rows_ok m 189 (count_of m) && each (reference_ok m) (count_of m) 0) ≡ true
  unfolding forms_encoder
  both_ok = (and_both (eqb (delete_count m) 0) _ (and_both (head_ok encoder_role encoder_length m) _ forms).1).1

  rows_ok_lem : rows_ok m 189 (count_of m) ≡ true
  rows_ok_lem = (and_both (rows_ok m 189 (count_of m)) (each (reference_ok m) (count_of m) 0) both_ok).0

  told : HeadTold encoder_role encoder_length m
  told = head-told encoder_role encoder_length m head_ok_lem

  each-ok : (i : ℕ) → 0 ≤ i → i < 0 + count_of m → reference_ok m i ≡ true
  each-ok = each_at (reference_ok m) (count_of m) 0 (and_both (rows_ok m 189 (count_of m)) (each (reference_ok m) (count_of m) 0) both_ok).1

  fine-sents : Each FineSent entries
  fine-sents = told-sents m (count_of m) 0 62 (omega arith) (rows-good m 189 small rows_ok_lem) each-ok

  few-sents : length entries ≤ 128
  few-sents = omega (arith, told.count, length-sents_of m 0 (count_of m))

  -- the front that is read is that of the state
  same-front : front_of m ≡ encoder_front (encoder_of m)
  unfolding encoder_of encoder_front
  same-front = λ k. record {
    role = told.role k;
    limit = limit_of m;
    rows = sym (rows_back m (count_of m) 0 (λ i a b. told-status m i (each-ok i a b))) k;
    deletes = no-deletes k;
    marks = marks_of m;
  }

  holds-front : HoldsFront (encoder_front (encoder_of m)) m
  holds-front =
      subst (λ (f : Front). HoldsFront f m) same-front
      (front-holds m 189 small rows_ok_lem encoder_role encoder_length (omega arith) head_ok_lem)

  forms-fits : FitsEncoder (encoder_of m)
  unfolding encoder_of encoder_front marks_of
  forms-fits =
      record {
        forms = record {
          limit = told.limit;
          fits = rw (sents-size entries) at holds-front.fine.fits;
          few = few-sents;
          order = sents-order m (count_of m) 0 62 (rows-ascending m 189 small rows_ok_lem);
          entries = each-found FineSent sent_index entries fine-sents;
        };
        marks = λ s p h. pick-false (ltb s streams) _ false (le-ltb s streams h);
      }

  pub forms-holds-encoder : HoldsEncoder (encoder_of m) m
  unfolding encoder_of
  forms-holds-encoder =
      let long = told.long in
      record {
        long = long;
        fits = forms-fits;
        front = holds-front;
        horizons = (
          column-has 2 m nontrailer_horizons (map nontrailer_of entries) small (omega (arith, length-map entries nontrailer_of, few-sents))
              (nontrailers-stand m (count_of m) 0),
          (
            column-has 2 m trailer_horizons (map trailer_of entries) small (omega (arith, length-map entries trailer_of, few-sents))
                (trailers-stand m (count_of m) 0),
            tt,
          ),
        );
      }

-- what memory holds passes the test
pub holds-forms-encoder : (E : Encoder) (m : List ℕ) → HoldsEncoder E m → forms_encoder m ≡ true
unfolding forms_encoder encoder_front encoder_of
holds-forms-encoder E m H =
    let f : Front = encoder_front E in
    let fine = fits_each E H.fits in
    let sents : Each FineSent (sents_of m 0 (count_of m)) =
    subst (Each FineSent) (sym (ap (λ (F : Encoder). F.entries) (holds-state-encoder E m H))) fine in
    both _ _ (holds-head f m H.front encoder_length H.long H.fits.forms.limit)
    (both _ _ (eq-eqb (delete_count m) 0 (read-deletes f m H.front))
    (both _ _ (holds_rows f m H.front 189 (omega arith) (sents-good 62 E.entries H.fits.forms.order fine))
    (each_all (reference_ok m) (count_of m) 0
    (λ i a b. pass-row m i (holds-status E m H i (omega arith)) (each-sent m FineSent (count_of m) 0 sents i (omega arith) (omega arith))))))
