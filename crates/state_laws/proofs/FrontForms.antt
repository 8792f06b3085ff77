-- Memory that passes the test of the head and of the rows holds the front that it is read as, and memory that holds a front with good rows passes it.
-- The head number by number; the rows by what they are read as.
use Prim.Native.Nat.{ℕ, ◌+◌, ◌≤◌}
use mathlib.Core.Path.{◌≡◌, refl, sym, ap, subst, ◌∙◌}
use native.Mathlib.Omega.{arith}
use mathlib.Core.Bool.{Bool, true, false, not, not-not}
use mathlib.Core.List.{List, ◌∷◌, map}
use borrow.Author.Tests.{leb-true, eqb-true, lt-ltb, le-leb, eq-eqb}
use lib.Dec.{ltb}
use lib.ListN.{length, length-map, replicate}
use Rattle.memory.specs.Bytes.{Has, Small}
use Rattle.memory.specs.Compare.{zeros_at}
use Rattle.memory.proofs.Numbers.{number_bound}
use Rattle.memory.proofs.Order.{pick_true}
use Rattle.memory.proofs.Places.{has_join}
use Rattle.memory.proofs.Zeros.{zeros-has}
use Rattle.columns.proofs.Columns.{column-has}
use Rattle.marks.specs.Marks.{is_set, words_bytes}
use Rattle.marks.proofs.Words.{words-length, words-has, words_same}
use Rattle.model.specs.Parts.{Part, nontrailer, trailer, streams}
use Rattle.model.specs.Table.{Ascending}
use Rattle.model_laws.proofs.Marks.{and_both}
use Rattle.state.specs.Layout.{
  february,
  front_length,
  marks_place,
  indexes_place,
  offsets_place,
  name_lengths_place,
  statuses_place,
  before_first,
  role_of,
  edition_of,
  limit_of,
  held_of,
  count_of,
  delete_count,
}
use Rattle.state.specs.Rows.{Row, row_index, name_length, row_status, rows_of, offsets_from, rows_size}
use Rattle.state.specs.Front.{Front, marks_of, head_bytes, marks_bytes}
use Rattle.state.specs.Forms.{head_ok, rows_ok}
use Rattle.state_laws.proofs.FrontHolds.{HoldsFront}
use Rattle.state_laws.proofs.FrontLengths.{rows_size-text, length-offsets}
use Rattle.state_laws.proofs.NumberRuns.{number-bytes, number-join}
use Rattle.state_laws.proofs.RowsRead.{rows-columns, rows-text, rows-fine}
use Rattle.state_laws.proofs.RowsTest.{length-rows_of, both, GoodRows, good-ascending, columns-told, rows-each, rows-of, size_of, rows_pass}
use Rattle.state_laws.proofs.FrontRead.{
  after_count,
  after_held,
  after_limit,
  read-role,
  read-edition,
  read-limit,
  read_held,
  read_count,
  read-zeros,
  read-guard,
  read-start,
  read-each,
}

-- the front that memory is read as
abbrev pub front_of : List ℕ → Front
front_of m = record { role = role_of m; limit = limit_of m; rows = rows_of m 0 (count_of m); deletes = delete_count m; marks = marks_of m }

-- ---- from the test

-- what the test says of the head
pub record HeadTold (who bytes : ℕ) (m : List ℕ) : Type 0 where
  pub long : bytes ≤ length m
  pub role : role_of m ≡ who
  pub edition : edition_of m ≡ february
  pub limit : limit_of m ≤ 4096
  pub held : held_of m ≤ 4096
  pub count : count_of m ≤ 128
  pub zeros : zeros_at 54 m 10 ≡ true

pub head-told : (who bytes : ℕ) (m : List ℕ) → head_ok who bytes m ≡ true → HeadTold who bytes m
unfolding head_ok
head-told who bytes m h =
    let p = and_both _ _ h in
    let q = and_both _ _ p.1 in
    let r = and_both _ _ q.1 in
    let s = and_both _ _ r.1 in
    let t = and_both _ _ s.1 in
    let u = and_both _ _ t.1 in
    record {
      long = leb-true _ _ p.0;
      role = eqb-true _ _ q.0;
      edition = eqb-true _ _ r.0;
      limit = leb-true _ _ s.0;
      held = leb-true _ _ t.0;
      count = leb-true _ _ u.0;
      zeros = u.1;
    }

-- the marks, as they are read
module _ (m : List ℕ) (small : Small m) (long : front_length ≤ length m) where
  marks-read : (p : Part) → words_bytes (is_set m (marks_place p)) 0 64 ≡ words_bytes (λ s. not (marks_of m s p)) 0 64
  unfolding marks_of
  marks-read p =
      words_same (is_set m (marks_place p)) (λ s. not (marks_of m s p))
      (λ s h. sym (ap not (pick_true (ltb s streams) (not (is_set m (marks_place p) s)) false (lt-ltb s streams h)) ∙ not-not (is_set m (marks_place p) s)))

  marks-words : (p : Part) → Has m (marks_place p) (words_bytes (λ s. not (marks_of m s p)) 0 64)
  marks-words p = subst (Has m (marks_place p)) (marks-read p) (words-has m (marks_place p) small (room p))
    where
      room : (q : Part) → marks_place q + 512 ≤ length m
      room nontrailer = omega arith
      room trailer = omega arith

  marks-has : Has m (marks_place nontrailer) (marks_bytes (marks_of m))
  unfolding marks_bytes
  marks-has =
      let a : ℕ → Bool = λ s. not (marks_of m s nontrailer) in
      let b : ℕ → Bool = λ s. not (marks_of m s trailer) in
      let e : 576 ≡ 64 + length (words_bytes a 0 64) = omega (arith, words-length a 0 64) in
      has_join m 64 (words_bytes a 0 64) (words_bytes b 0 64) (marks-words nontrailer) (rw e at (marks-words trailer))

  -- the head, with the held size and the count of its rows
  head-has : (f : Front) → role_of m ≡ f.role → edition_of m ≡ february → limit_of m ≡ f.limit → held_of m ≡ rows_size f.rows
      → count_of m ≡ length f.rows → delete_count m ≡ f.deletes → zeros_at 54 m 10 ≡ true → Has m 0 (head_bytes f)
  unfolding head_bytes
  head-has f role edition limit held count deletes zeros = (
    omega arith,
    role,
    (
      omega arith,
      edition,
      number-join m 0 2 2 f.limit (after_limit f) (number-bytes m 2 2 f.limit small (omega arith) limit)
          (number-join m 0 4 2 (rows_size f.rows) (after_held f) (number-bytes m 4 2 (rows_size f.rows) small (omega arith) held)
          (number-join m 0 6 2 (length f.rows) (after_count f) (number-bytes m 6 2 (length f.rows) small (omega arith) count)
          (number-join m 0 8 2 f.deletes (replicate 54 0) (number-bytes m 8 2 f.deletes small (omega arith) deletes)
          (zeros-has 54 m 10 (omega arith) zeros)))),
    ),
  )

module _ (m : List ℕ) (top : ℕ) (small : Small m) (rows : rows_ok m top (count_of m) ≡ true) where
  pub rows-good : GoodRows top 62 (rows_of m 0 (count_of m))
  rows-good = rows-each m top (count_of m) rows small

  pub rows-ascending : Ascending row_index 62 (rows_of m 0 (count_of m))
  rows-ascending = good-ascending top 62 (rows_of m 0 (count_of m)) rows-good

  pub front-holds : (who bytes : ℕ) → front_length ≤ bytes → head_ok who bytes m ≡ true → HoldsFront (front_of m) m
  front-holds who bytes enough head =
      let T = head-told who bytes m head in
      let rs : List Row = rows_of m 0 (count_of m) in
      let long : front_length ≤ length m = omega (arith, T.long) in
      let few : count_of m ≤ 128 = T.count in
      let R = rows-of m top (count_of m) rows long in
      let C = columns-told m top (count_of m) rows in
      let K = rows-columns m rs C.start R in
      let n : length rs ≡ count_of m = length-rows_of m 0 (count_of m) in
      let size : held_of m ≡ rows_size rs = omega (arith, size_of m top (count_of m) rows long, rows_size-text rs) in
      record {
        long = long;
        fine = record {
          limit = number_bound 2 m 2 small;
          few = omega arith;
          fits = omega (arith, T.held);
          deletes = number_bound 2 m 8 small;
          rows = rows-fine m rs 0 0 small R;
        };
        head = head-has m small long (front_of m) refl T.edition refl size (sym n) refl T.zeros;
        marks = marks-has m small long;
        indexes = column-has 4 m indexes_place (before_first ∷ map row_index rs) small (omega (arith, length-map rs row_index)) (C.guard, K.indexes);
        offsets = column-has 2 m offsets_place (offsets_from 0 rs) small (omega (arith, length-offsets 0 rs)) K.offsets;
        names = column-has 1 m name_lengths_place (map name_length rs) small (omega (arith, length-map rs name_length)) K.names;
        statuses = column-has 2 m statuses_place (map row_status rs) small (omega (arith, length-map rs row_status)) K.statuses;
        text = rows-text m rs 0 0 (omega (arith, T.held, rows_size-text rs)) R;
      }

-- ---- to the test

module _ (f : Front) (m : List ℕ) (H : HoldsFront f m) where
  pub holds-head : (bytes : ℕ) → bytes ≤ length m → f.limit ≤ 4096 → head_ok f.role bytes m ≡ true
  unfolding head_ok
  holds-head bytes long low =
      both _ _ (le-leb bytes (length m) long)
      (both _ _ (eq-eqb (role_of m) f.role (read-role f m H))
      (both _ _ (eq-eqb (edition_of m) february (read-edition f m H))
      (both _ _ (le-leb (limit_of m) 4096 (omega (arith, read-limit f m H)))
      (both _ _ (le-leb (held_of m) 4096 (omega (arith, read_held f m H, H.fine.fits)))
      (both _ _ (le-leb (count_of m) 128 (omega (arith, read_count f m H, H.fine.few)))
      (read-zeros f m H))))))

  pub holds_rows : (top : ℕ) → before_first ≤ top → GoodRows top 62 f.rows → rows_ok m top (count_of m) ≡ true
  holds_rows top low G =
      ap (rows_ok m top) (read_count f m H)
      ∙ rows_pass m top f.rows low (read-guard f m H) (read-start f m H) (read-each f m H) G
      (omega (arith, read_held f m H, rows_size-text f.rows)) (omega (arith, read_held f m H, H.fine.fits))
