-- The test of a decoder's memory: memory that passes holds the state that it is read as, and memory that holds a state passes.
-- What rows and deletes say of each other is the counting of Pointing.antt.
use mathlib.Core.Path.{◌≡◌, refl, sym, ap, subst, ◌∙◌}
use Prim.Native.Nat.{ℕ, zero, suc, ◌+◌, ◌-◌, ◌≤◌, ◌<◌}
use native.Mathlib.Omega.{arith}
use mathlib.Core.Bool.{Bool, true, false, ◌&&◌}
use mathlib.Core.List.{List, map}
use lib.Dec.{eqb, leb}
use lib.ListN.{length, get_or, length-map}
use borrow.Author.Tests.{eqb-true, leb-true, eq-eqb, ne_eqb, le-leb}
use Rattle.memory.specs.Choice.{pick}
use Rattle.memory.specs.Bytes.{Has, Small}
use Rattle.memory.proofs.Order.{pick-false}
use Rattle.integers.specs.Integer.{largest}
use Rattle.model.specs.Table.{Ascending, look}
use Rattle.model.specs.Parts.{Delete}
use Rattle.model.specs.Decoder.{held_index, delete_index, Decoder, is_some, FineHeld}
use Rattle.model_laws.proofs.Marks.{and_both}
use Rattle.model_laws.proofs.Tables.{pick-eq}
use Rattle.state.specs.Layout.{decoder_length, decoder_role, deletes_place, limit_of, count_of, delete_count, index_at, status_at, delete_index_at}
use Rattle.state.specs.Rows.{Row, row_index, row_at, rows_of}
use Rattle.state.specs.Front.{Front, marks_of}
use Rattle.state.specs.DecoderState.{held_of_row, deletes_of, decoder_of, deletes_bytes, row_of_held, decoder_front}
use Rattle.state.specs.Forms.{head_ok, each, rows_ok, status_ok, pointing, deletes_ok, forms_decoder}
use Rattle.state_laws.specs.Laws.{FitsDecoder}
use Rattle.state_laws.proofs.FrontHolds.{HoldsFront}
use Rattle.state_laws.proofs.RowsTest.{both, length-rows_of}
use Rattle.state_laws.proofs.FrontRead.{read-deletes, read-rows}
use Rattle.state_laws.proofs.FrontForms.{front_of, HeadTold, head-told, rows-good, rows-ascending, front-holds, holds-head, holds_rows}
use Rattle.state_laws.proofs.FrontMarks.{marks-below}
use Rattle.state_laws.proofs.Each.{Each, each-found}
use Rattle.state_laws.proofs.Look.{found-made, asc-made}
use Rattle.state_laws.proofs.DeletesRead.{FineLists, length-deletes_of, deletes-has, deletes-back, index_of}
use Rattle.state_laws.proofs.Pointing.{indexes, Points, pointed, Tied, counted-tied, tied-points, tied-counted}
use Rattle.state_laws.proofs.HeldRows.{rows_back, rows-size, good-fine, fits-good, fits-order, fits-tied, fits-few, fits-lists}
use Rattle.state_laws.proofs.DecoderHolds.{HoldsDecoder, holds-state-decoder}

-- ---- rows that point at deletes, in memory

-- the rows that point, as memory has them
pointing-rows : (m : List ℕ) (k i : ℕ) → pointing m k i ≡ pointed (rows_of m i k)
unfolding pointing pointed rows_of
pointing-rows m zero i = refl
pointing-rows m (suc k) i = ap (λ (n : ℕ). pick (eqb (status_at m i) 0) 0 1 + n) (pointing-rows m k (i + 1))

-- the deletes that are read
abbrev deletes_in : List ℕ → List Delete
deletes_in m = deletes_of m 0 (delete_count m)

index-at : (m : List ℕ) (j : ℕ) → j < delete_count m → get_or (indexes (deletes_in m)) j 0 ≡ delete_index_at m j
index-at m j h = let e : 0 + j ≡ j = omega arith in rw e at (index_of m 0 (delete_count m) j h)

module _ (m : List ℕ) (i : ℕ) where
  status-points : status_ok m i ≡ true → Points (deletes_in m) (row_at m i)
  unfolding status_ok
  status-points ok j e =
      let n : eqb (status_at m i) 0 ≡ false = ne_eqb (status_at m i) 0 (λ z. omega arith) in
      let p = and_both (leb (status_at m i) (delete_count m)) _ (sym (pick-false (eqb (status_at m i) 0) true _ n) ∙ ok) in
      let low : status_at m i ≤ delete_count m = leb-true _ _ p.0 in
      let d : status_at m i - 1 ≡ j = omega arith in
      let x : delete_index_at m (status_at m i - 1) ≡ index_at m i = eqb-true _ _ p.1 in
      (omega (arith, length-deletes_of m 0 (delete_count m)), index-at m j (omega arith) ∙ (rw d at x))

  points-status : Points (deletes_in m) (row_at m i) → status_ok m i ≡ true
  unfolding status_ok
  points-status points =
      let s = status_at m i in
      pick-eq (λ (t : Bool). t ≡ true) s 0 true (leb s (delete_count m) && eqb (delete_index_at m (s - 1)) (index_at m i)) (λ e. refl)
      (λ n. let p = points (s - 1) (omega arith) in
      let low : s - 1 < delete_count m = omega (arith, p.0, length-deletes_of m 0 (delete_count m)) in
      both _ _ (le-leb s (delete_count m) (omega arith)) (eq-eqb _ _ (sym (index-at m (s - 1) low) ∙ p.1)))

module _ (m : List ℕ) where
  rows-point : (k i : ℕ) → each (status_ok m) k i ≡ true → Each (Points (deletes_in m)) (rows_of m i k)
  unfolding each rows_of
  rows-point zero i h = tt
  rows-point (suc k) i h = let p = and_both (status_ok m i) _ h in (status-points m i p.0, rows-point k (i + 1) p.1)

  point-rows : (k i : ℕ) → Each (Points (deletes_in m)) (rows_of m i k) → each (status_ok m) k i ≡ true
  unfolding each rows_of
  point-rows zero i f = refl
  point-rows (suc k) i f = both _ _ (points-status m i f.0) (point-rows k (i + 1) f.1)

-- ---- memory that passes

-- the parts of the test
record Told (m : List ℕ) : Type 0 where
  head : head_ok decoder_role decoder_length m ≡ true
  few : delete_count m ≤ 256
  rows : rows_ok m largest (count_of m) ≡ true
  statuses : each (status_ok m) (count_of m) 0 ≡ true
  counted : pointing m (count_of m) 0 ≡ delete_count m
  deletes : deletes_ok m (delete_count m) 0 ≡ true

told : (m : List ℕ) → forms_decoder m ≡ true → Told m
unfolding forms_decoder
told m forms =
    let p = and_both _ _ forms in
    let q = and_both _ _ p.1 in
    let r = and_both _ _ q.1 in
    let s = and_both _ _ r.1 in
    let t = and_both _ _ s.1 in
    record { head = p.0; few = leb-true _ _ q.0; rows = r.0; statuses = s.0; counted = eqb-true _ _ t.0; deletes = t.1 }

module _ (m : List ℕ) (small : Small m) (t : Told m) where
  abbrev rows : List Row
  rows = rows_of m 0 (count_of m)

  front-told : HeadTold decoder_role decoder_length m
  front-told = head-told decoder_role decoder_length m t.head

  order : Ascending row_index 62 rows
  order = rows-ascending m largest small t.rows

  tied : Tied (deletes_in m) rows
  tied =
      counted-tied (deletes_in m) 62 rows order
      (rows-point m (count_of m) 0 t.statuses)
      (sym (pointing-rows m (count_of m) 0) ∙ t.counted ∙ sym (length-deletes_of m 0 (delete_count m)))

  lists : Has m deletes_place (deletes_bytes (deletes_in m)) × Each FineLists (deletes_in m)
  lists = deletes-has m 0 (delete_count m) small (omega (arith, t.few, front-told.long)) t.deletes

  -- the front that is read is that of the state
  same-front : front_of m ≡ decoder_front (decoder_of m)
  unfolding decoder_of decoder_front
  same-front = λ k. record {
    role = front-told.role k;
    limit = limit_of m;
    rows = sym (rows_back (deletes_in m) rows tied.places) k;
    deletes = sym (length-deletes_of m 0 (delete_count m)) k;
    marks = marks_of m;
  }

  read-front : HoldsFront (front_of m) m
  read-front = front-holds m largest small t.rows decoder_role decoder_length (omega arith) t.head

  told-fits : FitsDecoder (decoder_of m)
  unfolding decoder_of
  told-fits = record {
    forms = record {
      limit = front-told.limit;
      fits = rw (rows-size rows) read-front.fine.fits;
      few = omega (arith, front-told.count, length-map rows held_of_row, length-rows_of m 0 (count_of m));
      order = asc-made held_index held_of_row 62 rows order;
      entries = each-found FineHeld held_index (map held_of_row rows) (good-fine 62 rows (omega arith) (rows-good m largest small t.rows));
      deletes = λ i d e.
          let f = each-found FineLists delete_index (deletes_in m) lists.1 i d e in
          let h = each-found (λ x. is_some (look row_index x.index rows) ≡ true) delete_index (deletes_in m) tied.held i d e in
          record { nontrailer = f.nontrailer; trailer = f.trailer; held = found-made held_index held_of_row d.index rows ∙ h };
      once = tied.once;
    };
    marks = marks-below m;
  }

  told-holds : HoldsDecoder (decoder_of m) m
  unfolding decoder_of
  told-holds = record {
    long = front-told.long;
    fits = told-fits;
    front = subst (λ (f : Front). HoldsFront f m) same-front read-front;
    deletes = lists.0;
  }

pub forms-holds-decoder : (m : List ℕ) → Small m → forms_decoder m ≡ true → HoldsDecoder (decoder_of m) m
forms-holds-decoder m small forms = told-holds m small (told m forms)

-- ---- memory that holds a state

pub holds-forms-decoder : (D : Decoder) (m : List ℕ) → HoldsDecoder D m → forms_decoder m ≡ true
unfolding forms_decoder decoder_front decoder_of
holds-forms-decoder D m H =
    let f : Front = decoder_front D in
    let ds : List Delete = D.deletes in
    let rs : List Row = map (row_of_held ds) D.entries in
    let tied = fits-tied D H.fits in
    let order = fits-order D H.fits in
    let same_rows : rows_of m 0 (count_of m) ≡ rs = read-rows f m H.front in
    let same-deletes : deletes_in m ≡ ds = ap (λ (E : Decoder). E.deletes) (holds-state-decoder D m H) in
    let count : delete_count m ≡ length ds = read-deletes f m H.front in
    let points : Each (Points (deletes_in m)) (rows_of m 0 (count_of m)) =
    rw (same_rows, same-deletes) (tied-points ds 62 rs order tied) in
    both _ _ (holds-head f m H.front decoder_length H.long H.fits.forms.limit)
    (both _ _ (le-leb (delete_count m) 256 (omega (arith, fits-few D H.fits)))
    (both _ _ (holds_rows f m H.front largest (omega arith) (fits-good D H.fits))
    (both _ _ (point-rows m (count_of m) 0 points)
    (both _ _ (eq-eqb (pointing m (count_of m) 0) (delete_count m)
    (pointing-rows m (count_of m) 0 ∙ ap pointed same_rows ∙ tied-counted ds 62 rs order tied ∙ sym count))
    (rw count (deletes-back m 0 ds (fits-lists D H.fits) H.deletes).1)))))
