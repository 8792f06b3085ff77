-- Rows that pass the test are read as good rows whose text has no gaps, and memory that is read as such rows passes it. By induction over the rows.
use Prim.Native.Nat.{ℕ, zero, suc, ◌+◌, ◌*◌, ◌≤◌, ◌<◌}
use mathlib.Core.Path.{◌≡◌, refl, sym, ap, ap₂, subst, ◌∙◌}
use native.Mathlib.Omega.{arith}
use native.Mathlib.Nat.{zero-add}
use mathlib.Core.Bool.{Bool, true, ◌&&◌}
use mathlib.Core.List.{List, [], ◌∷◌}
use borrow.Author.Tests.{ltb-true, leb-true, eqb-true, lt-ltb, le-leb, eq-eqb}
use lib.ListN.{length, length-append, length-take, drop}
use Rattle.memory.specs.Bytes.{Small}
use Rattle.memory.specs.Numbers.{number}
use Rattle.memory.proofs.Numbers.{number_bound}
use Rattle.memory.proofs.Order.{split}
use Rattle.memory.proofs.Places.{length_part}
use Rattle.model.specs.Table.{Ascending}
use Rattle.model_laws.proofs.Marks.{and_both}
use Rattle.state.specs.Layout.{
  front_length,
  name_length_place,
  text_place,
  before_first,
  held_of,
  index_at,
  index_before,
  offset_at,
  name_length_at,
  value_length_at,
}
use Rattle.state.specs.Rows.{Row, row_index, row_at, rows_of, text_of, text_bytes}
use Rattle.state.specs.Forms.{each, index_ok, text_ok, columns_ok, rows_ok}
use Rattle.state_laws.proofs.FrontLengths.{length-text}
use Rattle.state_laws.proofs.RowsRead.{RowRead, RowsRead, rows_end}

pub length-rows_of : (m : List ℕ) (i k : ℕ) → length (rows_of m i k) ≡ k
unfolding rows_of
length-rows_of m i zero = refl
length-rows_of m i (suc k) = ap suc (length-rows_of m (i + 1) k)

pub both : (a b : Bool) → a ≡ true → b ≡ true → (a && b) ≡ true
both a b p q = ap₂ (λ (x y : Bool). x && y) p q

-- ---- a test that each row passes

module _ (test : ℕ → Bool) where
  pub each_at : (k i : ℕ) → each test k i ≡ true → (j : ℕ) → i ≤ j → j < i + k → test j ≡ true
  unfolding each
  each_at zero i h j a b = absurd (omega arith)
  each_at (suc k) i h j a b =
      let p = and_both (test i) (each test k (i + 1)) h in
      split i j
      (λ l. each_at k (i + 1) p.1 j (omega arith) (omega arith))
      (λ l. let e : i ≡ j = omega arith in subst (λ (x : ℕ). test x ≡ true) e p.0)

  pub each_all : (k i : ℕ) → ((j : ℕ) → i ≤ j → j < i + k → test j ≡ true) → each test k i ≡ true
  unfolding each
  each_all zero i f = refl
  each_all (suc k) i f = both _ _ (f i (omega arith) (omega arith)) (each_all k (i + 1) (λ j a b. f j (omega arith) (omega arith)))

-- ---- rows that the test lets through

-- a row with an index from low to top, and a name and a value that are short enough
pub record GoodRow (top low : ℕ) (r : Row) : Type 0 where
  pub above : low ≤ r.index
  pub below : r.index ≤ top
  pub name : length r.entry.name ≤ 255
  pub value : length r.entry.value ≤ 2047

-- rows of this kind, each with an index above that of the row before it
abbrev pub GoodRows : ℕ → ℕ → List Row → Type 0
GoodRows top low [] = Unit {0}
GoodRows top low (r ∷ rs) = GoodRow top low r × GoodRows top (suc r.index) rs

pub good-ascending : (top low : ℕ) (rs : List Row) → GoodRows top low rs → Ascending row_index low rs
good-ascending top low [] G = tt
good-ascending top low (r ∷ rs) G = (G.0.above, good-ascending top (suc r.index) rs G.1)

-- what the test says of the columns, and of the text of row i
pub record ColumnsTold (m : List ℕ) (top n : ℕ) : Type 0 where
  pub guard : index_before m 0 ≡ before_first
  pub last : index_before m n ≤ top
  pub start : offset_at m 0 ≡ 0
  pub held : offset_at m n + 32 * n ≡ held_of m
  pub indexes : each (index_ok m) n 0 ≡ true
  pub texts : each (text_ok m) n 0 ≡ true

pub columns-told : (m : List ℕ) (top n : ℕ) → rows_ok m top n ≡ true → ColumnsTold m top n
unfolding rows_ok columns_ok
columns-told m top n h =
    let p = and_both (columns_ok m top n) _ h in
    let q = and_both _ _ p.0 in
    let r = and_both _ _ q.1 in
    let s = and_both _ _ r.1 in
    let t = and_both _ _ s.1 in
    record {
      guard = eqb-true _ _ q.0;
      last = leb-true _ _ r.0;
      start = eqb-true _ _ s.0;
      held = eqb-true _ _ t.0;
      indexes = t.1;
      texts = p.1;
    }

pub record TextTold (m : List ℕ) (i : ℕ) : Type 0 where
  pub within : offset_at m (i + 1) ≤ 4096
  pub name : offset_at m i + name_length_at m i ≤ offset_at m (i + 1)
  pub value : value_length_at m i ≤ 2047

pub text-told : (m : List ℕ) (i : ℕ) → text_ok m i ≡ true → TextTold m i
unfolding text_ok
text-told m i h =
    let p = and_both _ _ h in
    let q = and_both _ _ p.1 in
    record { within = leb-true _ _ p.0; name = leb-true _ _ q.0; value = leb-true _ _ q.1 }

module _ (m : List ℕ) where
  -- the index before the next row is that of the row
  pub before-next : (i : ℕ) → index_before m (i + 1) ≡ index_at m i
  before-next i = let e : 1088 + 4 * (i + 1) ≡ 1092 + 4 * i = omega arith in ap (number 4 m) e

  index-told : (i : ℕ) → index_ok m i ≡ true → index_before m i < index_at m i
  unfolding index_ok
  index-told i h = ltb-true _ _ h

  indexes-rise : (k i : ℕ) → each (index_ok m) k i ≡ true → index_before m i ≤ index_before m (i + k)
  unfolding each
  indexes-rise zero i h = let e : i ≡ i + 0 = omega arith in omega (arith, ap (index_before m) e)
  indexes-rise (suc k) i h =
      let p = and_both (index_ok m i) _ h in
      let e : i + 1 + k ≡ i + suc k = omega arith in
      omega (arith, index-told i p.0, before-next i, indexes-rise k (i + 1) p.1, ap (index_before m) e)

  -- the lengths of what is read are at most those of the row
  good-each : (top k i : ℕ) → Small m → each (index_ok m) k i ≡ true → each (text_ok m) k i ≡ true → index_before m (i + k) ≤ top
      → GoodRows top (suc (index_before m i)) (rows_of m i k)
  unfolding each rows_of
  good-each top zero i small x t h = tt
  good-each top (suc k) i small x t h =
      let p = and_both (index_ok m i) _ x in
      let q = and_both (text_ok m i) _ t in
      let T = text-told m i q.0 in
      let at : ℕ = text_place + offset_at m i in
      let n = before-next i in
      let e : i + 1 + k ≡ i + suc k = omega arith in
      let last : index_before m (i + 1 + k) ≤ top = omega (arith, ap (index_before m) e) in
      let G : GoodRow top (suc (index_before m i)) (row_at m i) = record {
        above = index-told i p.0;
        below = omega (arith, indexes-rise k (i + 1) p.1);
        name = omega (arith, number_bound 1 m (name_length_place i) small, length-take (name_length_at m i) (drop at m));
        value = omega (arith, T.value, length-take (value_length_at m i) (drop (at + name_length_at m i) m));
      } in
      (G, subst (λ (v : ℕ). GoodRows top (suc v) (rows_of m (i + 1) k)) n (good-each top k (i + 1) small p.1 q.1 last))

  -- where the memory is long enough they are those of the row
  module _ (long : front_length ≤ length m) where
    row_of : (i : ℕ) → text_ok m i ≡ true → RowRead m i (offset_at m i) (row_at m i)
    row_of i h =
        let T = text-told m i h in
        let b = T.within in
        let c = T.name in
        let name : name_length_at m i ≡ length (row_at m i).entry.name =
        sym (length_part m (text_place + offset_at m i) (name_length_at m i) (omega arith)) in
        let value : value_length_at m i ≡ length (row_at m i).entry.value =
        sym (length_part m (text_place + offset_at m i + name_length_at m i) (value_length_at m i) (omega arith)) in
        record {
          row = refl;
          index = refl;
          offset = refl;
          next = omega (arith, length-text (row_at m i));
          name = name;
          value = value;
          status = refl;
        }

    read-from : (k i : ℕ) → each (text_ok m) k i ≡ true → RowsRead m i (offset_at m i) (rows_of m i k)
    unfolding each rows_of
    read-from zero i h = tt
    read-from (suc k) i h =
        let p = and_both (text_ok m i) _ h in
        let R = row_of i p.0 in
        (R, subst (λ (o : ℕ). RowsRead m (i + 1) o (rows_of m (i + 1) k)) R.next (read-from k (i + 1) p.1))

module _ (m : List ℕ) (top n : ℕ) (rows : rows_ok m top n ≡ true) where
  pub rows-within : 32 * n ≤ held_of m
  rows-within = omega (arith, (columns-told m top n rows).held)

  pub rows-each : Small m → GoodRows top 62 (rows_of m 0 n)
  rows-each small =
      let T = columns-told m top n rows in
      subst (λ (v : ℕ). GoodRows top (suc v) (rows_of m 0 n)) T.guard
      (good-each m top n 0 small T.indexes T.texts (subst (λ (k : ℕ). index_before m k ≤ top) (sym (zero-add n)) T.last))

  -- the rows as they are read, and their size
  pub rows-of : front_length ≤ length m → RowsRead m 0 0 (rows_of m 0 n)
  rows-of long =
      let T = columns-told m top n rows in
      subst (λ (o : ℕ). RowsRead m 0 o (rows_of m 0 n)) T.start (read-from m long n 0 T.texts)

  pub size_of : front_length ≤ length m → length (text_bytes (rows_of m 0 n)) + 32 * n ≡ held_of m
  size_of long =
      let T = columns-told m top n rows in
      let e : 0 + length (rows_of m 0 n) ≡ n = zero-add (length (rows_of m 0 n)) ∙ length-rows_of m 0 n in
      omega (arith, T.held, rows_end m (rows_of m 0 n) 0 0 T.start (rows-of long), ap (offset_at m) e)

-- ---- and the other way round

module _ (m : List ℕ) (top : ℕ) where
  pass-last : (rs : List Row) (i o low : ℕ) → RowsRead m i o rs → GoodRows top low rs → index_before m i ≤ top → index_before m (i + length rs) ≤ top
  pass-last [] i o low R G h = let e : i + 0 ≡ i = omega arith in omega (arith, ap (index_before m) e)
  pass-last (r ∷ rs) i o low R G h =
      let e : i + suc (length rs) ≡ i + 1 + length rs = omega arith in
      let b : index_before m (i + 1) ≤ top = omega (arith, before-next m i, R.0.index, G.0.below) in
      omega (arith, pass-last rs (i + 1) (o + length (text_of r.entry)) (suc r.index) R.1 G.1 b, ap (index_before m) e)

  pass-indexes : (rs : List Row) (i o low : ℕ) → RowsRead m i o rs → GoodRows top low rs → index_before m i < low → each (index_ok m) (length rs) i ≡ true
  unfolding each index_ok
  pass-indexes [] i o low R G h = refl
  pass-indexes (r ∷ rs) i o low R G h =
      both _ _ (lt-ltb (index_before m i) (index_at m i) (omega (arith, R.0.index, G.0.above)))
      (pass-indexes rs (i + 1) (o + length (text_of r.entry)) (suc r.index) R.1 G.1 (omega (arith, before-next m i, R.0.index)))

  pass-texts : (rs : List Row) (i o low : ℕ) → RowsRead m i o rs → GoodRows top low rs → o + length (text_bytes rs) ≤ 4096
      → each (text_ok m) (length rs) i ≡ true
  unfolding each text_ok text_bytes
  pass-texts [] i o low R G h = refl
  pass-texts (r ∷ rs) i o low R G h =
      let w : List ℕ = text_of r.entry in
      let l = length-append w (text_bytes rs) in
      let n = R.0.next in
      both _ _
      (both _ _ (le-leb (offset_at m (i + 1)) 4096 (omega arith))
      (both _ _ (le-leb (offset_at m i + name_length_at m i) (offset_at m (i + 1)) (omega (arith, R.0.offset, R.0.name, length-text r)))
      (le-leb (value_length_at m i) 2047 (omega (arith, R.0.value, G.0.value)))))
      (pass-texts rs (i + 1) (o + length w) (suc r.index) R.1 G.1 (omega arith))

  pub rows_pass : (rs : List Row) → before_first ≤ top → index_before m 0 ≡ before_first → offset_at m 0 ≡ 0 → RowsRead m 0 0 rs → GoodRows top 62 rs
      → length (text_bytes rs) + 32 * length rs ≡ held_of m → held_of m ≤ 4096 → rows_ok m top (length rs) ≡ true
  unfolding rows_ok columns_ok
  rows_pass rs low guard start R G size few =
      let n : ℕ = length rs in
      let z : 0 + n ≡ n = zero-add n in
      both _ _
      (both _ _ (eq-eqb (index_before m 0) before_first guard)
      (both _ _ (le-leb (index_before m n) top (omega (arith, pass-last rs 0 0 62 R G (omega arith), ap (index_before m) z)))
      (both _ _ (eq-eqb (offset_at m 0) 0 start)
      (both _ _ (eq-eqb (offset_at m n + 32 * n) (held_of m) (omega (arith, rows_end m rs 0 0 start R, ap (offset_at m) z)))
      (pass-indexes rs 0 0 62 R G (omega arith))))))
      (pass-texts rs 0 0 62 R G (omega arith))
