-- The searches of rows by index are the model's searches of the encoder's entries in those rows. By induction over the rows, one step of both at a time.
use mathlib.Core.Path.{◌≡◌, refl, sym, ap, ◌∙◌}
use Prim.Native.Nat.{ℕ, zero, suc, ◌+◌, ◌≤◌, ◌<◌}
use native.Mathlib.Omega.{arith}
use mathlib.Core.Option.{none, some}
use mathlib.Core.List.{List}
use lib.Dec.{eqb}
use Rattle.memory.specs.Choice.{pick}
use Rattle.model.specs.Encoder.{sent_index}
use Rattle.model.specs.Table.{Ascending, look, vacant_from as lowest_vacant}
use Rattle.model_laws.proofs.Tables.{nope, pick-eq, pick-lt, pick_yes, pick_no, look-below}
use Rattle.state.specs.Layout.{index_at}
use Rattle.state.specs.EncoderState.{sent_at, sents_of}
use Rattle.table_search.specs.Search.{find_from, vacant_row}
use Rattle.std.specs.Prelude.{Result, Ok, Err}

module _ (m : List ℕ) where
  -- ---- by index, of the k rows from row i on

  pub find-look : (x k i p : ℕ) → find_from m x k i ≡ Ok p → (look sent_index x (sents_of m i k) ≡ some (sent_at m p)) × (i ≤ p) × (p < i + k)
  unfolding find_from look sents_of sent_at
  find-look x zero i p e = nope (cc)
  find-look x (suc k) i p e =
      pick-lt (λ (r : Result ℕ ℕ). r ≡ Ok p → (look sent_index x (sents_of m i (suc k)) ≡ some (sent_at m p)) × (i ≤ p) × (p < i + suc k))
      (index_at m i) x (find_from m x k (i + 1)) (pick (eqb (index_at m i) x) (Ok i) (Err i))
      (λ l d. let r = find-look x k (i + 1) p d in
      (pick_no (index_at m i) x (some (sent_at m i)) (look sent_index x (sents_of m (i + 1) k)) (λ q. omega arith) ∙ r.0, omega (arith, r.1), omega (arith, r.2)))
      (λ l. pick-eq (λ (r : Result ℕ ℕ). r ≡ Ok p → (look sent_index x (sents_of m i (suc k)) ≡ some (sent_at m p)) × (i ≤ p) × (p < i + suc k))
      (index_at m i) x (Ok i) (Err i)
      (λ q d. let z : i ≡ p = cc in
      (pick_yes (index_at m i) x (some (sent_at m i)) (look sent_index x (sents_of m (i + 1) k)) q ∙ ap (λ (j : ℕ). some (sent_at m j)) z, omega arith, omega arith))
      (λ q d. nope (cc)))
      e

  pub find-look-none : (x k i lo p : ℕ) → Ascending sent_index lo (sents_of m i k) → find_from m x k i ≡ Err p → look sent_index x (sents_of m i k) ≡ none
  unfolding find_from look sents_of sent_at
  find-look-none x zero i lo p a e = refl
  find-look-none x (suc k) i lo p a e =
      pick-lt (λ (r : Result ℕ ℕ). r ≡ Err p → look sent_index x (sents_of m i (suc k)) ≡ none)
      (index_at m i) x (find_from m x k (i + 1)) (pick (eqb (index_at m i) x) (Ok i) (Err i))
      (λ l d. pick_no (index_at m i) x (some (sent_at m i)) (look sent_index x (sents_of m (i + 1) k)) (λ q. omega arith)
      ∙ find-look-none x k (i + 1) (suc (index_at m i)) p a.1 d)
      (λ l. pick-eq (λ (r : Result ℕ ℕ). r ≡ Err p → look sent_index x (sents_of m i (suc k)) ≡ none)
      (index_at m i) x (Ok i) (Err i)
      (λ q d. nope (cc))
      (λ q d. pick_no (index_at m i) x (some (sent_at m i)) (look sent_index x (sents_of m (i + 1) k)) q
      ∙ look-below sent_index x (suc (index_at m i)) (sents_of m (i + 1) k) (omega arith) a.1))
      e

  -- ---- the lowest vacant index

  pub vacant-model : (k i : ℕ) → 62 + vacant_row m k i ≡ lowest_vacant sent_index (62 + i) (sents_of m i k)
  unfolding vacant_row lowest_vacant sents_of sent_at
  vacant-model zero i = refl
  vacant-model (suc k) i =
      let e : 62 + (i + 1) ≡ suc (62 + i) = omega arith in
      pick-eq (λ (r : ℕ). 62 + r ≡ lowest_vacant sent_index (62 + i) (sents_of m i (suc k))) (index_at m i) (62 + i) (vacant_row m k (i + 1)) i
      (λ q. vacant-model k (i + 1) ∙ ap (λ (n : ℕ). lowest_vacant sent_index n (sents_of m (i + 1) k)) e ∙ sym (pick_yes (index_at m i) (62 + i) _ _ q))
      (λ q. sym (pick_no (index_at m i) (62 + i) _ _ q))
