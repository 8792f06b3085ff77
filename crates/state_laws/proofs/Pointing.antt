-- Rows and deletes: where as many rows point at a delete as there are deletes, each to one with its own index, every delete has one row; and the
-- other way round. By counting: rows have different indexes, so at most one row points at a delete, and the sum over the deletes is their number.
use mathlib.Core.Path.{◌≡◌, refl, sym, ap, ◌∙◌}
use mathlib.Core.Logic.{◌⊎◌, inl, inr, ⊎_elim}
use Prim.Native.Nat.{ℕ, zero, suc, ◌+◌, ◌≤◌, ◌<◌}
use native.Mathlib.Omega.{arith}
use mathlib.Core.Bool.{true}
use mathlib.Core.Option.{Option, none, some}
use mathlib.Core.List.{List, [], ◌∷◌, map}
use lib.ListN.{length, get_or}
use lib.Dec.{eqb, leb}
use borrow.Author.Tests.{le-leb, lt-leb}
use Rattle.memory.specs.Choice.{pick}
use Rattle.memory.proofs.Order.{split, pick_true, pick-false}
use Rattle.model.specs.Table.{Ascending, Distinct, look}
use Rattle.model.specs.Parts.{Delete}
use Rattle.model.specs.Decoder.{delete_index, is_some}
use Rattle.model_laws.proofs.Tables.{nope, pick-eq, pick_yes, pick_no, look-below, look-index, look_none}
use Rattle.model_laws.proofs.DecoderWays.{some-found}
use Rattle.state.specs.Rows.{Row, row_index}
use Rattle.state.specs.DecoderState.{place_from}
use Rattle.state_laws.proofs.Each.{Each, each-weak, each-found, found-each}

abbrev pub indexes : List Delete → List ℕ
indexes ds = map delete_index ds

-- a row that points at delete j, if it does at any, points at a delete with its index
abbrev pub Points : List Delete → Row → Type 0
Points ds r = (j : ℕ) → r.status ≡ suc j → (j < length ds) × (get_or (indexes ds) j 0 ≡ r.index)

-- how many rows point at a delete
unfoldable pub pointed : List Row → ℕ
pointed [] = 0
pointed (r ∷ rs) = pick (eqb r.status 0) 0 1 + pointed rs

pub pointed-few : (rs : List Row) → pointed rs ≤ length rs
unfolding pointed
pointed-few [] = omega arith
pointed-few (r ∷ rs) =
    let ih = pointed-few rs in
    pick-eq (λ (t : ℕ). t + pointed rs ≤ suc (length rs)) r.status 0 0 1 (λ e. omega arith) (λ e. omega arith)

-- ---- places in the deletes

-- no delete has the index i
abbrev pub Absent : ℕ → List Delete → Type 0
Absent i ds = (j : ℕ) → j < length ds → get_or (indexes ds) j 0 ≡ i → ⊥

absent-look : (i : ℕ) (ds : List Delete) → Absent i ds → look delete_index i ds ≡ none
unfolding look
absent-look i [] f = refl
absent-look i (d ∷ ds) f =
    pick_no d.index i (some d) (look delete_index i ds) (λ e. f 0 (omega arith) e) ∙ absent-look i ds (λ j h. f (suc j) (omega arith))

pub look-absent : (i : ℕ) (ds : List Delete) → look delete_index i ds ≡ none → Absent i ds
look-absent i [] e j h k = absurd (omega arith)
look-absent i (d ∷ ds) e zero h k = (look_none delete_index i d ds e).0 k
look-absent i (d ∷ ds) e (suc j) h k = look-absent i ds (look_none delete_index i d ds e).1 j (omega arith) k

-- no two deletes have one index
abbrev Apart : List Delete → Type 0
Apart ds = (j k : ℕ) → j < length ds → k < length ds → get_or (indexes ds) j 0 ≡ get_or (indexes ds) k 0 → j ≡ k

apart_distinct : (ds : List Delete) → Apart ds → Distinct delete_index ds
apart_distinct [] f = tt
apart_distinct (d ∷ ds) f = (
  absent-look d.index ds (λ j h e. let z = f (suc j) 0 (omega arith) (omega arith) e in omega arith),
  apart_distinct ds (λ j k h i e. let z = f (suc j) (suc k) (omega arith) (omega arith) e in omega arith),
)

distinct_apart : (ds : List Delete) → Distinct delete_index ds → Apart ds
distinct_apart [] d j k h i e = absurd (omega arith)
distinct_apart (x ∷ ds) d zero zero h i e = refl
distinct_apart (x ∷ ds) d zero (suc k) h i e = absurd (look-absent x.index ds d.0 k (omega arith) (sym e))
distinct_apart (x ∷ ds) d (suc j) zero h i e = absurd (look-absent x.index ds d.0 j (omega arith) e)
distinct_apart (x ∷ ds) d (suc j) (suc k) h i e = ap suc (distinct_apart ds d.1 j k (omega arith) (omega arith) e)

-- what holds of the index at every place holds of every delete's, and the other way round
each_index : (P : ℕ → Type 0) (ds : List Delete) → ((j : ℕ) → j < length ds → P (get_or (indexes ds) j 0)) → Each (λ d. P d.index) ds
each_index P [] f = tt
each_index P (d ∷ ds) f = (f 0 (omega arith), each_index P ds (λ j h. f (suc j) (omega arith)))

index-each : (P : ℕ → Type 0) (ds : List Delete) → Each (λ d. P d.index) ds → (j : ℕ) → j < length ds → P (get_or (indexes ds) j 0)
index-each P [] f j h = absurd (omega arith)
index-each P (d ∷ ds) f zero h = f.0
index-each P (d ∷ ds) f (suc j) h = index-each P ds f.1 j (omega arith)

-- the place of an index: none, or one where it stands
place-ways : (k i : ℕ) (ds : List Delete)
    → ((place_from k i ds ≡ 0) × Absent i ds) ⊎ ((j : ℕ) × (j < length ds) × (place_from k i ds ≡ k + suc j) × (get_or (indexes ds) j 0 ≡ i))
unfolding place_from
place-ways k i [] = inl (refl, λ j h e. omega arith)
place-ways k i (d ∷ ds) =
    pick-eq (λ (t : ℕ). ((t ≡ 0) × Absent i (d ∷ ds)) ⊎ ((j : ℕ) × (j < suc (length ds)) × (t ≡ k + suc j) × (get_or (indexes (d ∷ ds)) j 0 ≡ i)))
    d.index i (k + 1) (place_from (k + 1) i ds)
    (λ e. inr (0, omega arith, omega arith, e))
    (λ n. ⊎_elim (λ w. inl (w.0, more n w.1)) (λ w. inr (suc w.0, omega (arith, w.1), omega (arith, w.2), w.3)) (place-ways (k + 1) i ds))
  where
    more : (d.index ≡ i → ⊥) → Absent i ds → Absent i (d ∷ ds)
    more n f zero h e = n e
    more n f (suc j) h e = f j (omega arith) e

-- ---- counting

-- 1 for a status from 1 to n, else 0
unfoldable within : ℕ → ℕ → ℕ
within n s = pick (eqb s 0) 0 (pick (leb s n) 1 0)

within_none : (n : ℕ) → within n 0 ≡ 0
unfolding within
within_none n = pick_yes 0 0 0 (pick (leb 0 n) 1 0) refl

within-yes : (n s : ℕ) → 0 < s → s ≤ n → within n s ≡ 1
unfolding within
within-yes n s p h = pick_no s 0 0 _ (λ e. omega arith) ∙ pick_true (leb s n) 1 0 (le-leb s n h)

within-no : (n s : ℕ) → n < s → within n s ≡ 0
unfolding within
within-no n s h = pick_no s 0 0 _ (λ e. omega arith) ∙ pick-false (leb s n) 1 0 (lt-leb s n h)

-- how many rows have a status from 1 to n, and how many have the status s
unfoldable below : ℕ → List Row → ℕ
below n [] = 0
below n (r ∷ rs) = within n r.status + below n rs

unfoldable hits : ℕ → List Row → ℕ
hits s [] = 0
hits s (r ∷ rs) = pick (eqb r.status s) 1 0 + hits s rs

within_step : (n s : ℕ) → within (suc n) s ≡ within n s + pick (eqb s (suc n)) 1 0
within_step n zero = omega (arith, within_none n, within_none (suc n), pick_no {A = ℕ} 0 (suc n) 1 0 (λ e. omega arith))
within_step n (suc s) =
    pick-eq (λ (t : ℕ). within (suc n) (suc s) ≡ within n (suc s) + t) (suc s) (suc n) 1 0
    (λ e. omega (arith, within-yes (suc n) (suc s) (omega arith) (omega arith), within-no n (suc s) (omega arith)))
    (λ d. split s n
    (λ h. omega (arith, within-yes (suc n) (suc s) (omega arith) (omega arith), within-yes n (suc s) (omega arith) (omega arith)))
    (λ h. omega (arith, within-no (suc n) (suc s) (omega arith), within-no n (suc s) (omega arith))))

below_step : (n : ℕ) (rs : List Row) → below (suc n) rs ≡ below n rs + hits (suc n) rs
unfolding below hits
below_step n [] = refl
below_step n (r ∷ rs) = omega (arith, within_step n r.status, below_step n rs)

within-zero : (s : ℕ) → within 0 s ≡ 0
within-zero zero = within_none 0
within-zero (suc s) = within-no 0 (suc s) (omega arith)

within_all : (n s : ℕ) → s ≤ n → within n s ≡ pick (eqb s 0) 0 1
within_all n zero h = within_none n ∙ sym (pick_yes 0 0 0 1 refl)
within_all n (suc s) h = within-yes n (suc s) (omega arith) h ∙ sym (pick_no (suc s) 0 0 1 (λ e. omega arith))

below_none : (rs : List Row) → below 0 rs ≡ 0
unfolding below
below_none [] = refl
below_none (r ∷ rs) = omega (arith, within-zero r.status, below_none rs)

below_all : (n : ℕ) (rs : List Row) → Each (λ r. r.status ≤ n) rs → below n rs ≡ pointed rs
unfolding below pointed
below_all n [] f = refl
below_all n (r ∷ rs) f = omega (arith, within_all n r.status f.0, below_all n rs f.1)

-- ---- one row at most has a status, where its index is known

-- the index of a row with the status s is x
abbrev Tells : ℕ → ℕ → Row → Type 0
Tells s x r = r.status ≡ s → r.index ≡ x

hits-none : (s x lo : ℕ) (rs : List Row) → x < lo → Ascending row_index lo rs → Each (Tells s x) rs → hits s rs ≡ 0
unfolding hits
hits-none s x lo [] h a f = refl
hits-none s x lo (r ∷ rs) h a f =
    let k = a.0 in
    pick-eq (λ (t : ℕ). t + hits s rs ≡ 0) r.status s 1 0
    (λ e. absurd (omega (arith, f.0 e))) (λ e. omega (arith, hits-none s x (suc r.index) rs (omega arith) a.1 f.1))

hits-most : (s x lo : ℕ) (rs : List Row) → Ascending row_index lo rs → Each (Tells s x) rs → hits s rs ≤ 1
unfolding hits
hits-most s x lo [] a f = omega arith
hits-most s x lo (r ∷ rs) a f =
    pick-eq (λ (t : ℕ). t + hits s rs ≤ 1) r.status s 1 0
    (λ e. omega (arith, hits-none s x (suc r.index) rs (omega (arith, f.0 e)) a.1 f.1))
    (λ e. omega (arith, hits-most s x (suc r.index) rs a.1 f.1))

-- it is found at that index
hit-found : (s x lo : ℕ) (rs : List Row) → Ascending row_index lo rs → Each (Tells s x) rs → 0 < hits s rs
    → (r : Row) × (look row_index x rs ≡ some r) × (r.status ≡ s)
unfolding hits look
hit-found s x lo [] a f h = absurd (omega arith)
hit-found s x lo (r ∷ rs) a f h =
    pick-eq (λ (t : ℕ). 0 < t + hits s rs → (q : Row) × (look row_index x (r ∷ rs) ≡ some q) × (q.status ≡ s)) r.status s 1 0
    (λ e k. (r, pick_yes r.index x (some r) (look row_index x rs) (f.0 e), e))
    (λ e k. let w = hit-found s x (suc r.index) rs a.1 f.1 (omega arith) in (
      w.0,
      pick_no r.index x (some r) (look row_index x rs)
          (λ z. let n = look-below row_index x (suc r.index) rs (omega arith) a.1 in let q = w.1 in nope (cc)) ∙ w.1,
      w.2,
    ))
    h

found-hit : (s x : ℕ) (rs : List Row) (r : Row) → look row_index x rs ≡ some r → r.status ≡ s → 0 < hits s rs
unfolding hits look
found-hit s x [] r e h = nope (cc)
found-hit s x (q ∷ rs) r e h =
    pick-eq (λ (o : Option Row). o ≡ some r → 0 < pick (eqb q.status s) 1 0 + hits s rs) q.index x (some q) (look row_index x rs)
    (λ d k. let z : q ≡ r = cc in omega (arith, pick_yes {A = ℕ} q.status s 1 0 (ap (λ (t : Row). t.status) z ∙ h)))
    (λ d k. let v = found-hit s x rs r k h in omega arith) e

-- ---- rows in order that point at deletes with their indexes

points-tell : (ds : List Delete) (j : ℕ) (rs : List Row) → Each (Points ds) rs → Each (Tells (suc j) (get_or (indexes ds) j 0)) rs
points-tell ds j rs f = each-weak (Points ds) (Tells (suc j) (get_or (indexes ds) j 0)) (λ r p e. sym (p j e).1) rs f

-- each delete is pointed at by the row that has its index, and its place is that of its index; and no index has two
pub record Tied (ds : List Delete) (rs : List Row) : Type 0 where
  pub places : Each (λ r. r.status ≡ place_from 0 r.index ds) rs
  pub held : Each (λ d. is_some (look row_index d.index rs) ≡ true) ds
  pub once : Distinct delete_index ds

pub points-few : (ds : List Delete) (r : Row) → Points ds r → r.status ≤ length ds
points-few ds r p = go r.status refl
  where
    go : (s : ℕ) → r.status ≡ s → s ≤ length ds
    go zero e = omega arith
    go (suc j) e = (p j e).0

module _ (ds : List Delete) (lo : ℕ) (rs : List Row) (asc : Ascending row_index lo rs) (points : Each (Points ds) rs) where
  most : (j : ℕ) → hits (suc j) rs ≤ 1
  most j = hits-most (suc j) (get_or (indexes ds) j 0) lo rs asc (points-tell ds j rs points)

  below-most : (n : ℕ) → below n rs ≤ n
  below-most zero = omega (arith, below_none rs)
  below-most (suc n) = omega (arith, below_step n rs, below-most n, most n)

  all-hit : (n j : ℕ) → below n rs ≡ n → j < n → hits (suc j) rs ≡ 1
  all-hit zero j e h = absurd (omega arith)
  all-hit (suc n) j e h =
      let a = below_step n rs in
      let b = below-most n in
      let c = most n in
      split j n (λ k. all-hit n j (omega arith) k) (λ k. let z : j ≡ n = omega arith in rw z (omega arith))

  below-pointed : below (length ds) rs ≡ pointed rs
  below-pointed = below_all (length ds) rs (each-weak (Points ds) (λ r. r.status ≤ length ds) (points-few ds) rs points)

  module _ (full : pointed rs ≡ length ds) where
    pointer : (j : ℕ) → j < length ds → (r : Row) × (look row_index (get_or (indexes ds) j 0) rs ≡ some r) × (r.status ≡ suc j)
    pointer j h =
        hit-found (suc j) (get_or (indexes ds) j 0) lo rs asc (points-tell ds j rs points)
        (omega (arith, all-hit (length ds) j (below-pointed ∙ full) h))

    place : (i : ℕ) (r : Row) → look row_index i rs ≡ some r → r.status ≡ place_from 0 r.index ds
    place i r w = ⊎_elim none-there one-there (place-ways 0 r.index ds)
      where
        p : Points ds r
        p = each-found (Points ds) row_index rs points i r w

        none-there : (place_from 0 r.index ds ≡ 0) × Absent r.index ds → r.status ≡ place_from 0 r.index ds
        none-there v = go r.status refl
          where
            go : (s : ℕ) → r.status ≡ s → r.status ≡ place_from 0 r.index ds
            go zero e = e ∙ sym v.0
            go (suc j) e = absurd (v.1 j (p j e).0 (p j e).1)

        one-there : (j : ℕ) × (j < length ds) × (place_from 0 r.index ds ≡ 0 + suc j) × (get_or (indexes ds) j 0 ≡ r.index)
            → r.status ≡ place_from 0 r.index ds
        one-there v =
            let q = pointer v.0 v.1 in
            let a : look row_index i rs ≡ some q.0 = rw (v.3 ∙ look-index row_index i rs r w) at q.1 in
            let z : r ≡ q.0 = cc in
            omega (arith, ap (λ (t : Row). t.status) z, q.2, v.2)

    apart : Apart ds
    apart j k h i e =
        let p = pointer j h in
        let q = pointer k i in
        let a : look row_index (get_or (indexes ds) k 0) rs ≡ some p.0 = rw e at p.1 in
        let b = q.1 in
        let z : p.0 ≡ q.0 = cc in
        omega (arith, ap (λ (t : Row). t.status) z, p.2, q.2)

    pub counted-tied : Tied ds rs
    counted-tied = record {
      places = found-each (λ r. r.status ≡ place_from 0 r.index ds) row_index lo rs asc place;
      held = each_index (λ i. is_some (look row_index i rs) ≡ true) ds (λ j h. ap is_some (pointer j h).1);
      once = apart_distinct ds apart;
    }

-- ---- and the other way round

place-points : (ds : List Delete) (r : Row) → r.status ≡ place_from 0 r.index ds → Points ds r
place-points ds r e j h =
    ⊎_elim (λ w. absurd (omega (arith, w.0)))
    (λ w. let z : w.0 ≡ j = omega (arith, w.2) in (omega (arith, w.1), rw z at w.3)) (place-ways 0 r.index ds)

module _ (ds : List Delete) (lo : ℕ) (rs : List Row) (asc : Ascending row_index lo rs) (t : Tied ds rs) where
  pub tied-points : Each (Points ds) rs
  tied-points = each-weak (λ r. r.status ≡ place_from 0 r.index ds) (Points ds) (place-points ds) rs t.places

  hit : (j : ℕ) → j < length ds → 0 < hits (suc j) rs
  hit j h =
      let f = some-found (look row_index (get_or (indexes ds) j 0) rs) (index-each (λ i. is_some (look row_index i rs) ≡ true) ds t.held j h) in
      let r = f.0 in
      let i : r.index ≡ get_or (indexes ds) j 0 = look-index row_index (get_or (indexes ds) j 0) rs r f.1 in
      let s : r.status ≡ place_from 0 r.index ds =
      each-found (λ q. q.status ≡ place_from 0 q.index ds) row_index rs t.places (get_or (indexes ds) j 0) r f.1 in
      found-hit (suc j) (get_or (indexes ds) j 0) rs r f.1
      (⊎_elim (λ w. absurd (w.1 j h (sym i)))
      (λ w. omega (arith, s, w.2, distinct_apart ds t.once w.0 j w.1 h (w.3 ∙ i))) (place-ways 0 r.index ds))

  all-below : (n : ℕ) → n ≤ length ds → below n rs ≡ n
  all-below zero h = below_none rs
  all-below (suc n) h = omega (arith, below_step n rs, all-below n (omega arith), hit n h, most ds lo rs asc tied-points n)

  pub tied-counted : pointed rs ≡ length ds
  tied-counted = sym (below-pointed ds lo rs asc tied-points) ∙ all-below (length ds) (omega arith)
