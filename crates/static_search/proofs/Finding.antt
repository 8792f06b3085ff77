-- What the searches of the static table find. By induction over the number of entries left, for any test.
use mathlib.Core.Path.{◌≡◌, refl, sym, ap, ◌∙◌}
use mathlib.Core.Bool.{Bool, true, false}
use Prim.Native.Nat.{ℕ, zero, suc, ◌+◌, ◌-◌, ◌≤◌, ◌<◌}
use native.Mathlib.Nat.{add-zero, zero-add, suc-add}
use native.Mathlib.Omega.{arith}
use mathlib.Core.List.{List}
use lib.Dec.{eqb}
use Rattle.memory.specs.Compare.{same}
use Rattle.memory.proofs.Order.{split, either, pick_true, pick-false, not-both}
use Rattle.memory.proofs.Sameness.{same-eq, eq-same}
use Rattle.integers.specs.declared.number.TableIndex.{TableIndex}
use Rattle.statics.specs.Table.{static_name, static_value}
use Rattle.static_search.specs.Search.{has_name, has_both, lowest_static, lowest_name, lowest_both, find_name, find_both}
use Rattle.std.specs.Prelude.{Option, Some, None}

-- i is the lowest number from `from` on, and below `end`, of which P holds
pub record Lowest (P : ℕ → Type 0) (from end i : ℕ) : Type 0 where
  pub low : from ≤ i
  pub high : i < end
  pub holds : P i
  pub first : (k : ℕ) → from ≤ k → k < i → P k → ⊥

-- of no number from `from` on, and below `end`, does P hold
abbrev pub HoldsOfNone : (ℕ → Type 0) → ℕ → ℕ → Type 0
HoldsOfNone P from end = (k : ℕ) → from ≤ k → k < end → P k → ⊥

-- is it the index i that was found?
abbrev pub is_at : Option TableIndex → ℕ → Bool
is_at (Some j) i = eqb j.value i
is_at None i = false

abbrev pub HasName : List ℕ → ℕ → Type 0
HasName name i = static_name i ≡ name

abbrev pub HasBoth : List ℕ → List ℕ → ℕ → Type 0
HasBoth name value i = (static_name i ≡ name) × (static_value i ≡ value)

-- ---- for any test

module _ (f : ℕ → Bool) where
  pub lowest-here : (n i : ℕ) → f i ≡ true → lowest_static f (suc n) i ≡ Some (record { value = i })
  unfolding lowest_static
  lowest-here n i e = pick_true (f i) (Some (record { value = i })) (lowest_static f n (i + 1)) e

  pub lowest-next : (n i : ℕ) → f i ≡ false → lowest_static f (suc n) i ≡ lowest_static f n (i + 1)
  unfolding lowest_static
  lowest-next n i e = pick-false (f i) (Some (record { value = i })) (lowest_static f n (i + 1)) e

  -- the turns of a search up to the last entry
  pub turn-here : (i : ℕ) → i ≤ 61 → f i ≡ true → lowest_static f (62 - i) i ≡ Some (record { value = i })
  turn-here i h e = let d : 62 - i ≡ suc (61 - i) = omega arith in ap (λ (n : ℕ). lowest_static f n i) d ∙ lowest-here (61 - i) i e

  pub turn-next : (i : ℕ) → i ≤ 61 → f i ≡ false → lowest_static f (62 - i) i ≡ lowest_static f (62 - (i + 1)) (i + 1)
  turn-next i h e =
      let d : 62 - i ≡ suc (62 - (i + 1)) = omega arith in
      ap (λ (n : ℕ). lowest_static f n i) d ∙ lowest-next (62 - (i + 1)) i e

  pub turn-done : (i : ℕ) → 61 < i → lowest_static f (62 - i) i ≡ None
  unfolding lowest_static
  turn-done i h = let d : 62 - i ≡ 0 = omega arith in ap (λ (n : ℕ). lowest_static f n i) d

  pub found : (n i : ℕ) (j : TableIndex) → lowest_static f n i ≡ Some j → Lowest (λ k. f k ≡ true) i (i + n) j.value
  unfolding lowest_static
  found zero i j e = let z : ◌≡◌ {A = ℕ} 0 1 = cc in absurd (omega arith)
  found (suc n) i j e =
      either (f i)
      (λ t. at (found-value (sym (lowest-here n i t) ∙ e)) t)
      (λ t. later t (found n (i + 1) j (sym (lowest-next n i t) ∙ e)))
    where
      found-value : Some (record { value = i }) ≡ Some j → i ≡ j.value
      found-value d = cc

      at : i ≡ j.value → f i ≡ true → Lowest (λ k. f k ≡ true) i (i + suc n) j.value
      at d t = record { low = omega arith; high = omega arith; holds = cc; first = λ k a b c. omega arith }

      later : f i ≡ false → Lowest (λ k. f k ≡ true) (i + 1) (i + 1 + n) j.value → Lowest (λ k. f k ≡ true) i (i + suc n) j.value
      later t l =
          record {
            low = omega arith;
            high = omega arith;
            holds = l.holds;
            first = λ k a b c. split i k (λ h. l.first k (omega arith) b c) (λ h. let d : i ≡ k = omega arith in not-both (f k) c (ap f (sym d) ∙ t));
          }

  pub nothing : (n i : ℕ) → lowest_static f n i ≡ None → HoldsOfNone (λ k. f k ≡ true) i (i + n)
  unfolding lowest_static
  nothing zero i e k a b t = omega arith
  nothing (suc n) i e k a b t =
      either (f i)
      (λ h. let z : ◌≡◌ {A = ℕ} 0 1 = cc (lowest-here n i h) in absurd (omega arith))
      (λ h. split i k (λ l. nothing n (i + 1) (sym (lowest-next n i h) ∙ e) k (omega arith) (omega arith) t)
      (λ l. let d : i ≡ k = omega arith in not-both (f k) t (ap f (sym d) ∙ h)))

  -- m entries of which the test fails may be passed over
  pub skip : (m n i : ℕ) → HoldsOfNone (λ k. f k ≡ true) i (i + m) → lowest_static f (m + n) i ≡ lowest_static f n (i + m)
  skip zero n i g = rw (zero-add n, add-zero i) refl
  skip (suc m) n i g =
      let d : i + 1 + m ≡ i + suc m = omega arith in
      rw (suc-add m n)
      (lowest-next (m + n) i (either (f i) (λ t. absurd (g i (omega arith) (omega arith) t)) (λ t. t))
      ∙ skip m n (i + 1) (λ k a b. g k (omega arith) (omega arith)) ∙ ap (lowest_static f n) d)

-- what implies a thing carries over
lowest-as : {P Q : ℕ → Type 0} {from end i : ℕ} → ((k : ℕ) → P k → Q k) → ((k : ℕ) → Q k → P k)
    → Lowest P from end i → Lowest Q from end i
lowest-as to back l = record { low = l.low; high = l.high; holds = to _ l.holds; first = λ k a b q. l.first k a b (back k q) }

-- ---- the two tests

pub has-name : (name : List ℕ) (i : ℕ) → has_name i name ≡ true → HasName name i
unfolding has_name
has-name name i e = same-eq (static_name i) name e

pub name-has : (name : List ℕ) (i : ℕ) → HasName name i → has_name i name ≡ true
unfolding has_name
name-has name i e = eq-same (static_name i) name e

pub has_both_lem : (name value : List ℕ) (i : ℕ) → has_both i name value ≡ true → HasBoth name value i
unfolding has_both
has_both_lem name value i e =
    either (has_name i name)
    (λ t. (has-name name i t, same-eq (static_value i) value (sym (pick_true (has_name i name) (same (static_value i) value) false t) ∙ e)))
    (λ t. not-both false (sym (pick-false (has_name i name) (same (static_value i) value) false t) ∙ e) refl)

pub both-has : (name value : List ℕ) (i : ℕ) → HasBoth name value i → has_both i name value ≡ true
unfolding has_both
both-has name value i e =
    pick_true (has_name i name) (same (static_value i) value) false (name-has name i e.0) ∙ eq-same (static_value i) value e.1

-- ---- the two searches

module _ (name : List ℕ) where
  pub name-found : (n i : ℕ) (j : TableIndex) → lowest_name n i name ≡ Some j → Lowest (HasName name) i (i + n) j.value
  unfolding lowest_name
  name-found n i j e = lowest-as (has-name name) (name-has name) (found (λ k. has_name k name) n i j e)

  pub name-nothing : (n i : ℕ) → lowest_name n i name ≡ None → HoldsOfNone (HasName name) i (i + n)
  unfolding lowest_name
  name-nothing n i e k a b h = nothing (λ x. has_name x name) n i e k a b (name-has name k h)

  -- the entry found for a name is the lowest with its own name, which is the one sought
  pub name-first : (j : TableIndex) → find_name name ≡ Some j → (1 ≤ j.value) × (j.value ≤ 61) × (find_name (static_name j.value) ≡ Some j)
  name-first j e = let l = name-found 61 1 j e in (l.low, omega (arith, l.high), ap find_name l.holds ∙ e)

  pub name-both : (j : TableIndex) → find_name name ≡ Some j → (value : List ℕ) → find_both (static_name j.value) value ≡ find_both name value
  name-both j e value = ap (λ (n : List ℕ). find_both n value) (name-found 61 1 j e).holds

module _ (name value : List ℕ) where
  pub both_found : (n i : ℕ) (j : TableIndex) → lowest_both n i name value ≡ Some j → Lowest (HasBoth name value) i (i + n) j.value
  unfolding lowest_both
  both_found n i j e = lowest-as (has_both_lem name value) (both-has name value) (found (λ k. has_both k name value) n i j e)

  pub both-nothing : (n i : ℕ) → lowest_both n i name value ≡ None → HoldsOfNone (HasBoth name value) i (i + n)
  unfolding lowest_both
  both-nothing n i e k a b h = nothing (λ x. has_both x name value) n i e k a b (both-has name value k h)

  -- where no entry has the name, none has both; and the first entry with the name is a good start
  both-skip : (m n : ℕ) → HoldsOfNone (HasName name) 1 (1 + m) → lowest_both (m + n) 1 name value ≡ lowest_both n (1 + m) name value
  unfolding lowest_both
  both-skip m n g = skip (λ k. has_both k name value) m n 1 (λ k a b t. g k a b (has_both_lem name value k t).0)

  pub start-nothing : find_name name ≡ None → find_both name value ≡ None
  unfolding lowest_both lowest_static
  start-nothing e = both-skip 61 0 (name-nothing name 61 1 e)

  pub start-at : (j : TableIndex) → find_name name ≡ Some j → lowest_both (62 - j.value) j.value name value ≡ find_both name value
  start-at j e =
      let l = name-found name 61 1 j e in
      let a : 1 + (j.value - 1) ≡ j.value = omega arith in
      let b : j.value - 1 + (62 - j.value) ≡ 61 = omega arith in
      sym (rw (a, b) at (both-skip (j.value - 1) (62 - j.value) (λ k low high. l.first k low (omega arith))))
