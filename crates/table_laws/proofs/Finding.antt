-- Where a search by index finds an entry or misses it, the table is split: what it is without the entry, or with one put in. By induction over the entries
-- whose rows are searched, one step of both at a time.
use Prim.Native.Nat.{ℕ, suc, ◌+◌, ◌<◌}
use mathlib.Core.Path.{◌≡◌, refl, sym, ap, subst, ◌∙◌}
use native.Mathlib.Omega.{arith}
use mathlib.Core.Option.{none, some}
use mathlib.Core.List.{List, [], ◌∷◌, ◌++◌, map}
use lib.Dec.{eqb, ltb}
use lib.ListN.{length, length-map}
use borrow.Author.Tests.{lt-ltb, le-ltb}
use Rattle.memory.specs.Choice.{pick}
use Rattle.memory.proofs.Order.{pick_true, pick-false}
use Rattle.model.specs.Table.{Ascending, look, put, cut}
use Rattle.model_laws.proofs.Tables.{nope, pick-eq, pick-lt, pick_yes, pick_no, look-below}
use Rattle.state.specs.Layout.{count_of, index_at}
use Rattle.state.specs.Rows.{Row, text_of}
use Rattle.state.specs.Front.{Front}
use Rattle.state_laws.proofs.FrontHolds.{HoldsFront}
use Rattle.state_laws.proofs.FrontRead.{read_count, read-each}
use Rattle.state_laws.proofs.RowsRead.{RowsRead}
use Rattle.table_search.specs.Search.{find_from}
use Rattle.std.specs.Prelude.{Result, Ok, Err}

-- ---- a list split at the entry with index x, which is at the place p
pub record FoundAt {X : Type 0} (index : X → ℕ) (x p : ℕ) (l : List X) : Type 0 where
  pub before : List X
  pub entry : X
  pub after : List X
  pub is : l ≡ before ++ entry ∷ after
  pub at : length before ≡ p
  pub has : index entry ≡ x
  pub looked : look index x l ≡ some entry
  pub rest : cut index x l ≡ before ++ after

-- and where such an entry is put in, at the place p
pub record MissingAt {X : Type 0} (index : X → ℕ) (x p : ℕ) (l : List X) : Type 0 where
  pub before : List X
  pub after : List X
  pub is : l ≡ before ++ after
  pub at : length before ≡ p
  pub looked : look index x l ≡ none
  pub into : (e : X) → index e ≡ x → put index e l ≡ before ++ e ∷ after

module _ {X : Type 0} (index : X → ℕ) (x : ℕ) (y : X) (l : List X) where
  pub found_here : index y ≡ x → FoundAt index x 0 (y ∷ l)
  unfolding look cut
  found_here h = record {
    before = [];
    entry = y;
    after = l;
    is = refl;
    at = refl;
    has = h;
    looked = pick_yes (index y) x (some y) (look index x l) h;
    rest = pick_yes (index y) x l (y ∷ cut index x l) h;
  }

  pub found-next : (p : ℕ) → (index y ≡ x → ⊥) → FoundAt index x p l → FoundAt index x (suc p) (y ∷ l)
  unfolding look cut
  found-next p n F = record {
    before = y ∷ F.before;
    entry = F.entry;
    after = F.after;
    is = ap (λ (r : List X). y ∷ r) F.is;
    at = ap suc F.at;
    has = F.has;
    looked = pick_no (index y) x (some y) (look index x l) n ∙ F.looked;
    rest = pick_no (index y) x l (y ∷ cut index x l) n ∙ ap (λ (r : List X). y ∷ r) F.rest;
  }

  missing-here : x < index y → Ascending index (suc (index y)) l → MissingAt index x 0 (y ∷ l)
  unfolding look put
  missing-here h A = record {
    before = [];
    after = y ∷ l;
    is = refl;
    at = refl;
    looked = pick_no (index y) x (some y) (look index x l) (λ e. omega arith) ∙ look-below index x (suc (index y)) l (omega arith) A;
    into = λ e d. pick_true (ltb (index e) (index y)) (e ∷ y ∷ l) (y ∷ put index e l) (lt-ltb (index e) (index y) (omega arith));
  }

  missing-next : (p : ℕ) → index y < x → MissingAt index x p l → MissingAt index x (suc p) (y ∷ l)
  unfolding look put
  missing-next p h F = record {
    before = y ∷ F.before;
    after = F.after;
    is = ap (λ (r : List X). y ∷ r) F.is;
    at = ap suc F.at;
    looked = pick_no (index y) x (some y) (look index x l) (λ e. omega arith) ∙ F.looked;
    into = λ e d. pick-false (ltb (index e) (index y)) (e ∷ y ∷ l) (y ∷ put index e l) (le-ltb (index e) (index y) (omega arith))
        ∙ ap (λ (r : List X). y ∷ r) (F.into e d);
  }

-- ---- the search
module _ {X : Type 0} (index : X → ℕ) (make : X → Row) (same : (e : X) → (make e).index ≡ index e) (m : List ℕ) (x : ℕ) where
  find-found : (l : List X) (i o p : ℕ) → RowsRead m i o (map make l) → find_from m x (length l) i ≡ Ok p
      → (q : ℕ) × (i + q ≡ p) × FoundAt index x q l
  unfolding find_from
  find-found [] i o p R e = nope (cc)
  find-found (y ∷ l) i o p R e =
      let d : index_at m i ≡ index y = R.0.index ∙ same y in
      pick-lt (λ (r : Result ℕ ℕ). r ≡ Ok p → (q : ℕ) × (i + q ≡ p) × FoundAt index x q (y ∷ l))
      (index_at m i) x (find_from m x (length l) (i + 1)) (pick (eqb (index_at m i) x) (Ok i) (Err i))
      (λ h k. let w = find-found l (i + 1) (o + length (text_of (make y).entry)) p R.1 k in
      (suc w.0, omega (arith, w.1), found-next index x y l w.0 (λ z. omega arith) w.2))
      (λ h. pick-eq (λ (r : Result ℕ ℕ). r ≡ Ok p → (q : ℕ) × (i + q ≡ p) × FoundAt index x q (y ∷ l)) (index_at m i) x (Ok i) (Err i)
      (λ q k. let z : i ≡ p = cc in (0, omega arith, found_here index x y l (sym d ∙ q)))
      (λ q k. nope (cc)))
      e

  find-missing : (l : List X) (i o lo p : ℕ) → RowsRead m i o (map make l) → Ascending index lo l → find_from m x (length l) i ≡ Err p
      → (q : ℕ) × (i + q ≡ p) × MissingAt index x q l
  unfolding find_from look put
  find-missing [] i o lo p R A e =
      let z : i ≡ p = cc in
      (0, omega arith, record { before = []; after = []; is = refl; at = refl; looked = refl; into = λ c d. refl })
  find-missing (y ∷ l) i o lo p R A e =
      let d : index_at m i ≡ index y = R.0.index ∙ same y in
      pick-lt (λ (r : Result ℕ ℕ). r ≡ Err p → (q : ℕ) × (i + q ≡ p) × MissingAt index x q (y ∷ l))
      (index_at m i) x (find_from m x (length l) (i + 1)) (pick (eqb (index_at m i) x) (Ok i) (Err i))
      (λ h k. let w = find-missing l (i + 1) (o + length (text_of (make y).entry)) (suc (index y)) p R.1 A.1 k in
      (suc w.0, omega (arith, w.1), missing-next index x y l w.0 (omega arith) w.2))
      (λ h. pick-eq (λ (r : Result ℕ ℕ). r ≡ Err p → (q : ℕ) × (i + q ≡ p) × MissingAt index x q (y ∷ l)) (index_at m i) x (Ok i) (Err i)
      (λ q k. nope (cc))
      (λ q k. let z : i ≡ p = cc in (0, omega arith, missing-here index x y l (omega arith) A.1)))
      e

  -- in memory that holds a front whose rows are made from the entries
  module _ (f : Front) (H : HoldsFront f m) (l : List X) (rows : f.rows ≡ map make l) (p : ℕ) where
    count : count_of m ≡ length l
    count = read_count f m H ∙ ap length rows ∙ length-map l make

    pub found_front : find_from m x (count_of m) 0 ≡ Ok p → FoundAt index x p l
    found_front e =
        let w = find-found l 0 0 p (subst (RowsRead m 0 0) rows (read-each f m H)) (rw count at e) in
        let z : w.0 ≡ p = omega (arith, w.1) in
        rw z at w.2

    pub missing-front : (lo : ℕ) → Ascending index lo l → find_from m x (count_of m) 0 ≡ Err p → MissingAt index x p l
    missing-front lo A e =
        let w = find-missing l 0 0 lo p (subst (RowsRead m 0 0) rows (read-each f m H)) A (rw count at e) in
        let z : w.0 ≡ p = omega (arith, w.1) in
        rw z at w.2
