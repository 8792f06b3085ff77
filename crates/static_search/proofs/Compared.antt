-- The entries that are compared: the candidate has a name of the right length, and the run of an entry is compared for its name.
use mathlib.Core.Path.{◌≡◌, refl, sym, subst}
use Prim.Native.Nat.{ℕ, zero, suc, ◌+◌, ◌-◌, ◌≤◌, ◌<◌}
use native.Mathlib.Nat.{add-zero}
use native.Mathlib.Omega.{arith}
use mathlib.Core.List.Memᴰ
use mathlib.Core.List.{List, [], ◌∷◌, Memᴰ}
use lib.ListN.{length}
use Rattle.memory.proofs.Order.{pick_true}
use Rattle.integers.specs.declared.number.TableIndex.{TableIndex}
use Rattle.statics.specs.Table.{static_name}
use Rattle.static_search.specs.Search.{has_name, find_name}
use Rattle.static_search.specs.Hash.{candidate_of, last_of}
use Rattle.static_search.specs.Compared.{indexes_from, candidates, compared_name, compared_both}
use Rattle.static_search.proofs.Finding.{name-has}
use Rattle.static_search.proofs.Hashing.{candidate-fits, found-candidate}
use Rattle.std.specs.Prelude.{Option, Some, None}

pub candidate-compared : (name : List ℕ) (i : TableIndex) → candidate_of name ≡ Some i → Memᴰ i.value (compared_name name)
unfolding compared_name
candidate-compared name i e = rw e (Memᴰ.head refl)

pub compared-fits : (name : List ℕ) (i : ℕ) → Memᴰ i (compared_name name) → (1 ≤ i) × (i ≤ 61) × (length (static_name i) ≡ length name)
unfolding compared_name
compared-fits name i = go (candidate_of name) refl
  where
    go : (o : Option TableIndex) → candidate_of name ≡ o → Memᴰ i (candidates o) → (1 ≤ i) × (i ≤ 61) × (length (static_name i) ≡ length name)
    go (Some j) e m =
        subst (λ (k : ℕ). (1 ≤ k) × (k ≤ 61) × (length (static_name k) ≡ length name)) (sym (Memᴰ.eq_of_singleton m)) (candidate-fits name j e)
    go None e m = absurd (Memᴰ.not-nil m)

-- ---- the run of an entry

pub in-from : (n i k : ℕ) → k < n → Memᴰ (i + k) (indexes_from n i)
unfolding indexes_from
in-from zero i k h = absurd (omega arith)
in-from (suc n) i zero h = Memᴰ.head (add-zero i)
in-from (suc n) i (suc k) h = let e : i + suc k ≡ i + 1 + k = omega arith in Memᴰ.tail (subst (λ (j : ℕ). Memᴰ j (indexes_from n (i + 1))) (sym e) (in-from n (i + 1) k (omega arith)))

pub run-compared : (first : TableIndex) → find_name (static_name first.value) ≡ Some first → (k : ℕ) → first.value + k ≤ last_of first.value
    → Memᴰ (first.value + k) (compared_both (static_name first.value))
unfolding compared_both
run-compared first here k h =
    let name : List ℕ = static_name first.value in
    rw (found-candidate name first here)
    (rw (pick_true (has_name first.value name) (indexes_from (suc (last_of first.value) - first.value) first.value) (first.value ∷ []) (name-has name first.value refl))
    (in-from (suc (last_of first.value) - first.value) first.value k (omega arith)))
