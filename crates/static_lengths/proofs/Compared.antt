-- What the searches compare: the candidate, and the run of entries with its name. Each has a name of the right length, and what is found is among them.
use mathlib.Core.Path.{◌≡◌, refl, sym, ap, subst, ◌∙◌}
use mathlib.Core.Bool.{Bool, true, false}
use Prim.Native.Nat.{ℕ, suc, ◌+◌, ◌-◌, ◌≤◌}
use native.Mathlib.Omega.{arith}
use mathlib.Core.List.Memᴰ
use mathlib.Core.List.{List, [], ◌∷◌, Memᴰ}
use lib.Dec.{eqb}
use lib.ListN.{length}
use borrow.Author.Tests.{eqb-true, eq-eqb, le-leb}
use Rattle.memory.proofs.Order.{either, pick-both, pick_true, pick-false}
use Rattle.integers.specs.declared.number.TableIndex.{TableIndex}
use Rattle.statics.specs.Table.{static_name}
use Rattle.static_search.specs.Search.{has_name, has_both, lowest_static, lowest_name, lowest_both, find_name, find_both}
use Rattle.static_search.specs.Hash.{candidate_of, last_of}
use Rattle.static_search.specs.Compared.{indexes_from, candidates, compared_name, with_run, compared_both}
use Rattle.static_search.proofs.Finding.{has-name, has_both_lem, name-first, start-nothing}
use Rattle.static_search.proofs.Hashing.{candidate-none, candidate-fits, candidate-not, candidate-has}
use Rattle.static_search.proofs.Runs.{named, last-high, run-over, run-start}
use Rattle.static_lengths.specs.Lengths.{of_length, first_of}
use Rattle.static_lengths.specs.Claim.{Within}
use Rattle.static_lengths.proofs.Selecting.{first-all, from-length, from_in, first-from, enough}
use Rattle.static_lengths.proofs.Few.{exactly}
use Rattle.std.specs.Prelude.{Option, Some, None}

-- ---- nothing is lost by looking at names of the right length alone

module _ (name : List ℕ) where
  long : (k : ℕ) → static_name k ≡ name → eqb (length (static_name k)) (length name) ≡ true
  long k e = eq-eqb (length (static_name k)) (length name) (ap length e)

  pub name_there : find_name name ≡ first_of (λ k. has_name k name) (of_length (length name))
  unfolding lowest_name of_length
  name_there = first-all (λ k. eqb (length (static_name k)) (length name)) (λ k. has_name k name) (λ k t. long k (has-name name k t)) 61 1

  pub both_there : (value : List ℕ) → find_both name value ≡ first_of (λ k. has_both k name value) (of_length (length name))
  unfolding lowest_both of_length
  both_there value =
      first-all (λ k. eqb (length (static_name k)) (length name)) (λ k. has_both k name value) (λ k t. long k (has_both_lem name value k t).0) 61 1

-- ---- how many are compared

pub name_one : (name : List ℕ) → length (compared_name name) ≤ 1
unfolding compared_name
name_one name = go (candidate_of name)
  where
    go : (o : Option TableIndex) → length (candidates o) ≤ 1
    go (Some j) = omega arith
    go None = omega arith

-- an entry's run begins with it and has at most seven
abbrev Run : ℕ → ℕ → Type 0
Run i last = (i ≤ last) × (suc last - i ≤ 7)

run-seven : (i : ℕ) → Run i (last_of i)
unfolding last_of
run-seven i =
    pick-both (Run i) (eqb i 2) 3 _ (λ t. let e = eqb-true i 2 t in (omega arith, omega arith)) (λ t.
    pick-both (Run i) (eqb i 4) 5 _ (λ u. let e = eqb-true i 4 u in (omega arith, omega arith)) (λ u.
    pick-both (Run i) (eqb i 6) 7 _ (λ v. let e = eqb-true i 6 v in (omega arith, omega arith)) (λ v.
    pick-both (Run i) (eqb i 8) 14 i (λ w. let e = eqb-true i 8 w in (omega arith, omega arith)) (λ w. (omega arith, omega arith)))))

pub both_seven : (name : List ℕ) → length (compared_both name) ≤ 7
unfolding compared_both
both_seven name = go (candidate_of name)
  where
    go : (o : Option TableIndex) → length (with_run name o) ≤ 7
    go (Some j) =
        pick-both (λ (l : List ℕ). length l ≤ 7) (has_name j.value name) _ _
        (λ t. omega (arith, from-length (suc (last_of j.value) - j.value) j.value, (run-seven j.value).1)) (λ t. omega arith)
    go None = omega arith

-- ---- which

module _ (name : List ℕ) (i : TableIndex) (c : candidate_of name ≡ Some i) where
  right : Memᴰ i.value (of_length (length name))
  right = (exactly (length name) i.value).1 (candidate-fits name i c)

  pub one_right : Within (i.value ∷ []) (of_length (length name))
  one_right k m = subst (λ (x : ℕ). Memᴰ x (of_length (length name))) (sym (Memᴰ.eq_of_singleton m)) right

  module _ (t : has_name i.value name ≡ true) where
    abbrev here : (1 ≤ i.value) × (i.value ≤ 61) × (find_name (static_name i.value) ≡ Some i)
    here = name-first name i (sym (candidate-has name i c t))

    is_name : static_name i.value ≡ name
    is_name = has-name name i.value t

    abbrev size : ℕ
    size = suc (last_of i.value) - i.value

    pub run-right : Within (indexes_from size i.value) (of_length (length name))
    run-right k m =
        let b = from_in size i.value k m in
        let last = last-high i here.0 here.1 here.2 in
        let high : k ≤ last_of i.value = omega (arith, b.0, b.1) in
        let has = named i here.0 here.1 here.2 k b.0 (omega arith) ∙ le-leb k (last_of i.value) high in
        (exactly (length name) k).1 (omega (arith, here.0, b.0), omega arith, ap length (has-name _ k has ∙ is_name))

    pub run-finds : (value : List ℕ) → find_both name value ≡ first_of (λ k. has_both k name value) (indexes_from size i.value)
    unfolding lowest_both
    run-finds value =
        let a : ℕ = i.value in
        let low = (run-seven a).0 in
        let last = last-high i here.0 here.1 here.2 in
        let all : 62 - a ≡ size + (61 - last_of a) = omega arith in
        let left : 62 - suc (last_of a) ≡ 61 - last_of a = omega arith in
        let next : suc (last_of a) ≡ a + size = omega arith in
        let over = run-over i here.0 here.1 here.2 value (suc (last_of a)) (omega arith) (omega arith) in
        let g : ℕ → Bool = λ k. has_both k (static_name a) value in
        rw is_name at
        (run-start i here.0 here.1 here.2 value
        ∙ ap (λ (n : ℕ). lowest_static g n a) all
        ∙ enough g size (61 - last_of a) a (rw (left, next) at over)
        ∙ first-from g size a)

-- ---- what is found is among those compared

pub name_within : (name : List ℕ) → Within (compared_name name) (of_length (length name))
unfolding compared_name
name_within name = go (candidate_of name) refl
  where
    go : (o : Option TableIndex) → candidate_of name ≡ o → Within (candidates o) (of_length (length name))
    go (Some i) e = one_right name i e
    go None e = λ k m. absurd (Memᴰ.not-nil m)

pub both_within : (name : List ℕ) → Within (compared_both name) (of_length (length name))
unfolding compared_both
both_within name = go (candidate_of name) refl
  where
    go : (o : Option TableIndex) → candidate_of name ≡ o → Within (with_run name o) (of_length (length name))
    go (Some i) e =
        pick-both (λ (l : List ℕ). Within l (of_length (length name))) (has_name i.value name) _ _ (run-right name i e) (λ t. one_right name i e)
    go None e = λ k m. absurd (Memᴰ.not-nil m)

pub name_compared : (name : List ℕ) → find_name name ≡ first_of (λ k. has_name k name) (compared_name name)
unfolding compared_name first_of
name_compared name = go (candidate_of name) refl
  where
    go : (o : Option TableIndex) → candidate_of name ≡ o → find_name name ≡ first_of (λ k. has_name k name) (candidates o)
    go (Some i) e =
        either (has_name i.value name)
        (λ t. sym (candidate-has name i e t) ∙ sym (pick_true _ _ _ t))
        (λ t. sym (candidate-not name i e t) ∙ sym (pick-false _ _ _ t))
    go None e = sym (candidate-none name e)

pub both_compared : (name value : List ℕ) → find_both name value ≡ first_of (λ k. has_both k name value) (compared_both name)
unfolding compared_both first_of has_both
both_compared name value = go (candidate_of name) refl
  where
    unlike : (i : TableIndex) → has_name i.value name ≡ false → None ≡ first_of (λ k. has_both k name value) (i.value ∷ [])
    unlike i t = sym (pick-false _ _ _ (pick-false _ _ _ t))

    go : (o : Option TableIndex) → candidate_of name ≡ o → find_both name value ≡ first_of (λ k. has_both k name value) (with_run name o)
    go (Some i) e =
        pick-both (λ (l : List ℕ). find_both name value ≡ first_of (λ k. has_both k name value) l) (has_name i.value name) _ _
        (λ t. run-finds name i e t value)
        (λ t. start-nothing name value (sym (candidate-not name i e t)) ∙ unlike i t)
    go None e = start-nothing name value (sym (candidate-none name e))
