-- The hash of a name leaves at most the lowest entry with that name: a computed test over the entries, and what follows from it for every name.
use mathlib.Core.Path.{◌≡◌, refl, sym, ap, subst, ◌∙◌}
use mathlib.Core.Bool.{Bool, true, false}
use Prim.Native.Nat.{ℕ, ◌+◌, ◌*◌, ◌-◌, ◌/◌, ◌%◌, ◌≤◌}
use native.Mathlib.Omega.{arith}
use mathlib.Core.List.{List, [], ◌∷◌}
use lib.Dec.{T, eqb, eqb→eq}
use borrow.Author.Tests.{eqb-true, eqb-false, eq-eqb, ne_eqb}
use lib.ListN.{length}
use Rattle.memory.specs.Compare.{same}
use Rattle.memory.specs.Choice.{pick}
use Rattle.memory.proofs.Order.{either, pick_true, pick-false, not-both}
use Rattle.integers.specs.declared.number.TableIndex.{TableIndex}
use Rattle.statics.specs.Table.{Entry, entries, entry_at, static_name}
use Rattle.static_search.specs.Search.{has_name, lowest_static, lowest_name, find_name}
use Rattle.static_search.specs.Hash.{hash_of, hashed_at, hashed_of, candidate_of, stored_of}
use Rattle.statics.proofs.Arms.{NoneIn, among, not-among}
use Rattle.statics.proofs.Places.{every, every_in}
use Rattle.static_search.proofs.Finding.{is_at, found, has-name, name-has, name-found, name-nothing}
use Rattle.std.specs.Prelude.{Option, Some, None}

module _ (hash : ℕ) where
  abbrev left : Option TableIndex
  left = lowest_static (λ k. eqb (hash_of (static_name k)) hash) 61 1

  pub hash-within : (1 ≤ (hashed_of hash).index.value) × ((hashed_of hash).index.value ≤ 61)
  unfolding hashed_of
  hash-within = go left refl
    where
      go : (o : Option TableIndex) → left ≡ o → (1 ≤ (hashed_at o).index.value) × ((hashed_at o).index.value ≤ 61)
      go (Some j) e = let l = found (λ k. eqb (hash_of (static_name k)) hash) 61 1 j e in (l.low, omega (arith, l.high))
      go None e = (omega arith, omega arith)

  -- a length that is not 0 is that of the entry's name
  hash-named : (n : ℕ) → 1 ≤ n → (hashed_of hash).length ≡ n → length (static_name (hashed_of hash).index.value) ≡ n
  unfolding hashed_of
  hash-named n h = go left
    where
      go : (o : Option TableIndex) → (hashed_at o).length ≡ n → length (static_name (hashed_at o).index.value) ≡ n
      go (Some j) e = e
      go None e = absurd (omega arith)

  -- the two parts of the number
  pub hash-parts : (s : ℕ) → s ≡ stored_of hash → (s % 256 ≡ (hashed_of hash).index.value) × (s / 256 ≡ (hashed_of hash).length)
  unfolding stored_of
  hash-parts s e = (omega (arith, hash-within), omega (arith, hash-within))

-- ---- the computed test: each entry's name is found at its candidate

abbrev agreed : Option TableIndex → Option TableIndex → Bool
agreed (Some i) o = is_at o i.value
agreed None o = false

agreed-eq : (c o : Option TableIndex) → T (agreed c o) → c ≡ o
agreed-eq (Some i) (Some j) t = sym (ap (λ (k : ℕ). Some (record { value = k })) (eqb→eq j.value i.value t))
agreed-eq (Some i) None t = absurd t
agreed-eq None o t = absurd t

abbrev tested : Entry → Bool
tested e = agreed (candidate_of e.name) (find_name e.name)

tested-all : T (every tested entries)
unfolding entries entry_at lowest_name lowest_static has_name same hash_of hashed_of candidate_of
tested-all = tt

entry-candidate : (k : ℕ) → 1 ≤ k → k ≤ 61 → candidate_of (static_name k) ≡ find_name (static_name k)
unfolding entry_at entries
entry-candidate k lo hi = agreed-eq (candidate_of (static_name k)) (find_name (static_name k)) (every_in tested _ entries tested-all (k - 1) (omega arith))

-- ---- for every name

module _ (name : List ℕ) where
  -- an entry that is found is the candidate
  pub found-candidate : (j : TableIndex) → find_name name ≡ Some j → candidate_of name ≡ Some j
  found-candidate j e =
      let l = name-found name 61 1 j e in
      (rw l.holds at (entry-candidate j.value l.low (omega (arith, l.high)))) ∙ e

  pub candidate-empty : length name ≡ 0 → None ≡ candidate_of name
  unfolding candidate_of
  candidate-empty e = sym (pick_true (eqb (length name) 0) None _ (eq-eqb (length name) 0 e))

  module _ (some : length name ≡ 0 → ⊥) where
    candidate-hashed : candidate_of name ≡ pick (eqb (hashed_of (hash_of name)).length (length name)) (Some (hashed_of (hash_of name)).index) None
    unfolding candidate_of
    candidate-hashed = pick-false (eqb (length name) 0) None _ (ne_eqb (length name) 0 some)

    pub candidate-other : ((hashed_of (hash_of name)).length ≡ length name → ⊥) → None ≡ candidate_of name
    candidate-other f = sym (candidate-hashed ∙ pick-false _ _ _ (ne_eqb (hashed_of (hash_of name)).length (length name) f))

    pub candidate-here : (hashed_of (hash_of name)).length ≡ length name → Some (hashed_of (hash_of name)).index ≡ candidate_of name
    candidate-here e = sym (candidate-hashed ∙ pick_true _ _ _ (eq-eqb (hashed_of (hash_of name)).length (length name) e))

  pub candidate-none : candidate_of name ≡ None → None ≡ find_name name
  candidate-none c = go (find_name name) refl
    where
      go : (o : Option TableIndex) → find_name name ≡ o → None ≡ o
      go (Some j) e = sym c ∙ found-candidate j e
      go None e = refl

  module _ (i : TableIndex) (c : candidate_of name ≡ Some i) where
    -- a candidate is an entry whose name has the right length
    pub candidate-fits : (1 ≤ i.value) × (i.value ≤ 61) × (length (static_name i.value) ≡ length name)
    candidate-fits =
        either (eqb (length name) 0)
        (λ z. absurd (nothing-at (candidate-empty (eqb-true _ _ z) ∙ c)))
        (λ z. let some = eqb-false (length name) 0 z in
        either (eqb (hashed_of (hash_of name)).length (length name))
        (λ h. let e = eqb-true _ _ h in
        let same : Some (hashed_of (hash_of name)).index ≡ Some i = candidate-here some e ∙ c in
        let is : (hashed_of (hash_of name)).index ≡ i = cc in
        subst (λ (k : TableIndex). (1 ≤ k.value) × (k.value ≤ 61) × (length (static_name k.value) ≡ length name)) is
        ((hash-within (hash_of name)).0, (hash-within (hash_of name)).1, hash-named (hash_of name) (length name) (omega arith) e))
        (λ h. absurd (nothing-at (candidate-other some (eqb-false _ _ h) ∙ c))))
      where
        nothing-at : None ≡ Some i → ⊥
        nothing-at d = let z : ◌≡◌ {A = ℕ} 0 1 = cc in omega arith

    pub candidate-not : has_name i.value name ≡ false → None ≡ find_name name
    candidate-not t = go (find_name name) refl
      where
        go : (o : Option TableIndex) → find_name name ≡ o → None ≡ o
        go (Some j) e =
            let l = name-found name 61 1 j e in
            let same : Some i ≡ Some j = sym c ∙ found-candidate j e in
            let at : j.value ≡ i.value = cc in
            absurd (not-both (has_name i.value name) (name-has name i.value (ap static_name (sym at) ∙ l.holds)) t)
        go None e = refl

    pub candidate-has : has_name i.value name ≡ true → Some i ≡ find_name name
    candidate-has t = go (find_name name) refl
      where
        go : (o : Option TableIndex) → find_name name ≡ o → Some i ≡ o
        go (Some j) e = sym c ∙ found-candidate j e
        go None e = absurd (name-nothing name 61 1 e i.value candidate-fits.0 (omega (arith, candidate-fits.1)) (has-name name i.value t))

-- ---- the arms of the `match`: the hashes that occur, from the last arm to the first

abbrev hashes : List ℕ
hashes =
    119 ∷ 118 ∷ 117 ∷ 112 ∷ 111 ∷ 110 ∷ 108 ∷ 105 ∷ 103 ∷ 101 ∷ 97 ∷ 96 ∷ 95 ∷ 94 ∷ 91 ∷ 89 ∷ 88 ∷ 87 ∷ 84 ∷ 82 ∷ 80 ∷ 78 ∷ 76 ∷ 73 ∷ 72 ∷ 71 ∷ 70 ∷
    61 ∷ 58 ∷ 57 ∷ 56 ∷ 51 ∷ 50 ∷ 49 ∷ 40 ∷ 39 ∷ 37 ∷ 33 ∷ 32 ∷ 31 ∷ 29 ∷ 27 ∷ 24 ∷ 22 ∷ 21 ∷ 20 ∷ 12 ∷ 9 ∷ 7 ∷ 4 ∷ 3 ∷ 2 ∷ []

entry-among : (k : ℕ) → 1 ≤ k → k ≤ 61 → T (among hashes (hash_of (static_name k)))
unfolding entry_at entries hash_of
entry-among k lo hi = every_in (λ (e : Entry). among hashes (hash_of e.name)) _ entries tt (k - 1) (omega arith)

pub hash-rest : (hash : ℕ) → NoneIn hashes hash → 1 ≡ stored_of hash
unfolding stored_of hashed_of
hash-rest hash n = go (left hash) refl
  where
    go : (o : Option TableIndex) → left hash ≡ o → 1 ≡ 256 * (hashed_at o).length + (hashed_at o).index.value
    go (Some j) e =
        let l = found (λ k. eqb (hash_of (static_name k)) hash) 61 1 j e in
        let same = eqb-true (hash_of (static_name j.value)) hash l.holds in
        absurd (not-among hashes hash n (subst (λ (h : ℕ). T (among hashes h)) same (entry-among j.value l.low (omega (arith, l.high)))))
    go None e = refl
