-- The lowest row that passes a test: the turns of walking up the rows, each one step of the definition; and that it is that of the entry that the model finds.
use mathlib.Core.Path.{◌≡◌, refl, ap, ap₂, ◌∙◌}
use Prim.Native.Nat.{ℕ, zero, suc, ◌+◌, ◌-◌, ◌≤◌, ◌<◌}
use native.Mathlib.Omega.{arith}
use mathlib.Core.Bool.{Bool, true, false}
use mathlib.Core.Option.{none, some}
use mathlib.Core.List.{List}
use Rattle.memory.proofs.Order.{pick-both, pick_true, pick-false}
use Rattle.model.specs.Table.{first}
use Rattle.model.specs.Encoder.{Sent}
use Rattle.model_laws.proofs.Tables.{nope}
use Rattle.state.specs.EncoderState.{sent_at, sents_of}
use Rattle.name_search.specs.Names.{lowest_row}
use Rattle.std.specs.Prelude.{Option, Some, None}

-- ---- the turns, of n rows

pub row-start : (test : ℕ → Bool) (n : ℕ) → lowest_row test n 0 ≡ lowest_row test (n - 0) 0
row-start test n = let f : n ≡ n - 0 = omega arith in ap (λ (k : ℕ). lowest_row test k 0) f

module _ (test : ℕ → Bool) (n i : ℕ) where
  pub row_more : i < n → test i ≡ false → lowest_row test (n - i) i ≡ lowest_row test (n - (i + 1)) (i + 1)
  unfolding lowest_row
  row_more h e =
      let f : n - i ≡ suc (n - (i + 1)) = omega arith in
      ap (λ (k : ℕ). lowest_row test k i) f ∙ pick-false (test i) _ _ e

  pub row_here : i < n → test i ≡ true → lowest_row test (n - i) i ≡ Some i
  unfolding lowest_row
  row_here h e =
      let f : n - i ≡ suc (n - (i + 1)) = omega arith in
      ap (λ (k : ℕ). lowest_row test k i) f ∙ pick_true (test i) _ _ e

  pub row_done : n ≤ i → lowest_row test (n - i) i ≡ None
  unfolding lowest_row
  row_done h = let f : n - i ≡ 0 = omega arith in ap (λ (k : ℕ). lowest_row test k i) f

-- the row that is found is one of those searched
pub row_within : (test : ℕ → Bool) (k i p : ℕ) → lowest_row test k i ≡ Some p → (i ≤ p) × (p < i + k)
unfolding lowest_row
row_within test zero i p e = nope (cc)
row_within test (suc k) i p e =
    pick-both (λ (r : Option ℕ). r ≡ Some p → (i ≤ p) × (p < i + suc k)) (test i) (Some i) (lowest_row test k (i + 1))
    (λ t d. let z : i ≡ p = cc in (omega arith, omega arith))
    (λ t d. let r = row_within test k (i + 1) p d in (omega (arith, r.0), omega (arith, r.1)))
    e

-- ---- two tests, where a row that passes the second passes the first

module _ (test test' : ℕ → Bool) (f : (j : ℕ) → test j ≡ false → test' j ≡ false) where
  -- none before the lowest that passes the first passes the second
  pub row-behind : (k i p : ℕ) → lowest_row test k i ≡ Some p → lowest_row test' k i ≡ lowest_row test' (i + k - p) p
  unfolding lowest_row
  row-behind zero i p e = nope (cc)
  row-behind (suc k) i p e =
      pick-both (λ (r : Option ℕ). r ≡ Some p → lowest_row test' (suc k) i ≡ lowest_row test' (i + suc k - p) p) (test i) (Some i) (lowest_row test k (i + 1))
      (λ t d. let z : i ≡ p = cc in
      let n : suc k ≡ i + suc k - p = omega arith in
      ap₂ (lowest_row test') n z)
      (λ t d. let n : i + 1 + k ≡ i + suc k = omega arith in
      pick-false (test' i) _ _ (f i t) ∙ (rw n at (row-behind k (i + 1) p d)))
      e

  pub row-neither : (k i : ℕ) → lowest_row test k i ≡ None → lowest_row test' k i ≡ None
  unfolding lowest_row
  row-neither zero i e = refl
  row-neither (suc k) i e =
      pick-both (λ (r : Option ℕ). r ≡ None → lowest_row test' (suc k) i ≡ None) (test i) (Some i) (lowest_row test k (i + 1))
      (λ t d. nope (cc))
      (λ t d. pick-false (test' i) _ _ (f i t) ∙ row-neither k (i + 1) d)
      e

-- ---- the model's search of the encoder's entries in those rows

module _ (m : List ℕ) (test : ℕ → Bool) (test' : Sent → Bool) where
  pub search-model : (k i p : ℕ) → ((j : ℕ) → i ≤ j → j < i + k → test' (sent_at m j) ≡ test j) → lowest_row test k i ≡ Some p
      → first test' (sents_of m i k) ≡ some (sent_at m p)
  unfolding lowest_row first sents_of
  search-model zero i p f e = nope (cc)
  search-model (suc k) i p f e =
      let b = f i (omega arith) (omega arith) in
      pick-both (λ (r : Option ℕ). r ≡ Some p → first test' (sents_of m i (suc k)) ≡ some (sent_at m p)) (test i) (Some i) (lowest_row test k (i + 1))
      (λ t d. let z : i ≡ p = cc in pick_true (test' (sent_at m i)) _ _ (b ∙ t) ∙ ap (λ (j : ℕ). some (sent_at m j)) z)
      (λ t d. pick-false (test' (sent_at m i)) _ _ (b ∙ t) ∙ search-model k (i + 1) p (λ j l h. f j (omega arith) (omega arith)) d)
      e

  pub search-model-none : (k i : ℕ) → ((j : ℕ) → i ≤ j → j < i + k → test' (sent_at m j) ≡ test j) → lowest_row test k i ≡ None
      → first test' (sents_of m i k) ≡ none
  unfolding lowest_row first sents_of
  search-model-none zero i f e = refl
  search-model-none (suc k) i f e =
      let b = f i (omega arith) (omega arith) in
      pick-both (λ (r : Option ℕ). r ≡ None → first test' (sents_of m i (suc k)) ≡ none) (test i) (Some i) (lowest_row test k (i + 1))
      (λ t d. nope (cc))
      (λ t d. pick-false (test' (sent_at m i)) _ _ (b ∙ t) ∙ search-model-none k (i + 1) (λ j l h. f j (omega arith) (omega arith)) d)
      e
