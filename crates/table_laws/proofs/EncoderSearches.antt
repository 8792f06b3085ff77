-- What the searches of memory that holds an encoder's state find is what the model finds among its entries, which are read from the rows, one from each.
use Prim.Native.Nat.{ℕ, zero, suc, ◌+◌, ◌≤◌, ◌<◌}
use mathlib.Core.Path.{◌≡◌, refl, sym, ap, subst, ◌∙◌}
use native.Mathlib.Omega.{arith}
use mathlib.Core.Bool.{Bool, not, ◌&&◌}
use mathlib.Core.Option.{none, some}
use mathlib.Core.List.{List, map}
use lib.Dec.{eqb, ltb}
use lib.ListN.{length, length-map}
use borrow.Author.Tests.{lt-ltb, le-ltb}
use Rattle.memory.specs.Compare.{same}
use Rattle.memory.proofs.Order.{pick_true, pick-false}
use Rattle.model.specs.Table.{Ascending, look, first, vacant_from}
use Rattle.model.specs.Encoder.{Sent, sent_index, Encoder, sent_size, serves, serves_both}
use Rattle.model_laws.proofs.Tables.{pick-eq, pick_no}
use Rattle.state.specs.Layout.{limit_of, held_of, count_of, index_at, status_at}
use Rattle.state.specs.Rows.{row_index, rows_of, name_at, value_at}
use Rattle.state.specs.EncoderState.{sent_at, sents_of, row_of_sent, encoder_of, encoder_front}
use Rattle.state_laws.proofs.FrontRead.{read-limit, read_held, read_count, read-rows}
use Rattle.state_laws.proofs.RowsTest.{good-ascending}
use Rattle.state_laws.proofs.SentRows.{sents-size}
use Rattle.state_laws.proofs.EncoderHolds.{HoldsEncoder, fits_each, holds-status, holds-state-encoder}
use Rattle.state_laws.proofs.EncoderForms.{sents-good}
use Rattle.table_search.specs.Search.{find_from}
use Rattle.name_search.specs.Names.{serves_at, serves_both_at, lowest_row}
use Rattle.table_search.specs.Search as memory
use Rattle.table_search.proofs.Modelled.{find-look, find-look-none, vacant-model}
use Rattle.name_search.proofs.LowestRow.{row_within, search-model, search-model-none}
use Rattle.table_laws.specs.DecoderChanges.{found, missing}
use Rattle.std.specs.Prelude.{Ok, Err, Some, None}

module _ (m : List ℕ) where
  -- a search for the lowest vacant index misses it, at its place
  vacant-beyond : (k i : ℕ) → i ≤ memory.vacant_row m k i
  unfolding memory.vacant_row
  vacant-beyond zero i = omega arith
  vacant-beyond (suc k) i =
      let h = vacant-beyond k (i + 1) in
      pick-eq (λ (v : ℕ). i ≤ v) (index_at m i) (62 + i) (memory.vacant_row m k (i + 1)) i (λ e. omega arith) (λ e. omega arith)

  vacant-missing : (k i : ℕ) → Ascending row_index (62 + i) (rows_of m i k) → find_from m (62 + memory.vacant_row m k i) k i ≡ Err (memory.vacant_row m k i)
  unfolding memory.vacant_row find_from rows_of
  vacant-missing zero i a = refl
  vacant-missing (suc k) i a =
      let low = a.0 in
      pick-eq (λ (v : ℕ). find_from m (62 + v) (suc k) i ≡ Err v) (index_at m i) (62 + i) (memory.vacant_row m k (i + 1)) i
      (λ e.
      let v : ℕ = memory.vacant_row m k (i + 1) in
      let next : suc (index_at m i) ≡ 62 + (i + 1) = omega arith in
      pick_true (ltb (index_at m i) (62 + v)) _ _ (lt-ltb (index_at m i) (62 + v) (omega (arith, vacant-beyond k (i + 1))))
      ∙ vacant-missing k (i + 1) (rw next at a.1))
      (λ e.
      pick-false (ltb (index_at m i) (62 + i)) _ _ (le-ltb (index_at m i) (62 + i) low) ∙ pick_no (index_at m i) (62 + i) (Ok i) (Err i) e)

-- a status is 0 or 1: not the one is the other
status-not : (n : ℕ) → n ≤ 1 → not (eqb n 1) ≡ eqb n 0
status-not zero h = refl
status-not (suc zero) h = refl
status-not (suc (suc n)) h = absurd (omega arith)

module _ (E : Encoder) (m : List ℕ) (H : HoldsEncoder E m) where
  entries-are : sents_of m 0 (count_of m) ≡ E.entries
  unfolding encoder_of
  entries-are = ap (λ (F : Encoder). F.entries) (holds-state-encoder E m H)

  -- ---- the record

  pub says-limit : limit_of m ≡ E.limit
  unfolding encoder_front
  says-limit = read-limit (encoder_front E) m H.front

  pub says-held : held_of m ≡ sent_size E.entries
  unfolding encoder_front
  says-held = read_held (encoder_front E) m H.front ∙ sents-size E.entries

  pub says-count : count_of m ≡ length E.entries
  unfolding encoder_front
  says-count = read_count (encoder_front E) m H.front ∙ length-map E.entries row_of_sent

  -- ---- by index

  pub says-rise : Ascending row_index 62 (encoder_front E).rows
  unfolding encoder_front
  says-rise = good-ascending 189 62 (map row_of_sent E.entries) (sents-good 62 E.entries H.fits.forms.order (fits_each E H.fits))

  rows-rise : Ascending row_index 62 (rows_of m 0 (count_of m))
  rows-rise = subst (Ascending row_index 62) (sym (read-rows (encoder_front E) m H.front)) says-rise

  pub says_here : (x place : ℕ) → found m x place → (place < count_of m) × (look sent_index x E.entries ≡ some (sent_at m place))
  says_here x place f =
      let r = find-look m x (count_of m) 0 place f in
      let b = r.2 in (
        omega arith,
        ap (look sent_index x) (sym entries-are) ∙ r.0,
      )

  pub says-nowhere : (x place : ℕ) → missing m x place → look sent_index x E.entries ≡ none
  says-nowhere x place f =
      ap (look sent_index x) (sym entries-are)
      ∙ find-look-none m x (count_of m) 0 62 place (subst (Ascending sent_index 62) (sym entries-are) H.fits.forms.order) f

  -- ---- by a test

  module _ (test : Sent → Bool) (at : ℕ → Bool) (is : (j : ℕ) → j < count_of m → test (sent_at m j) ≡ at j) where
    test-found : (place : ℕ) → lowest_row at (count_of m) 0 ≡ Some place
        → (place < count_of m) × (first test E.entries ≡ some (sent_at m place))
    test-found place e =
        let b = (row_within at (count_of m) 0 place e).1 in
        (omega arith, ap (first test) (sym entries-are) ∙ search-model m at test (count_of m) 0 place (λ j l h. is j (omega arith)) e)

    test-missed : lowest_row at (count_of m) 0 ≡ None → first test E.entries ≡ none
    test-missed e =
        ap (first test) (sym entries-are) ∙ search-model-none m at test (count_of m) 0 (λ j l h. is j (omega arith)) e

  serves-is : (name : List ℕ) (j : ℕ) → j < count_of m → serves name (sent_at m j) ≡ serves_at m name j
  unfolding serves serves_at sent_at
  serves-is name j h = ap (λ (b : Bool). b && same (name_at m j) name) (status-not (status_at m j) (holds-status E m H j h))

  serves-both-is : (name value : List ℕ) (j : ℕ) → j < count_of m → serves_both name value (sent_at m j) ≡ serves_both_at m name value j
  unfolding serves_both serves_both_at sent_at
  serves-both-is name value j h = ap (λ (b : Bool). b && same (value_at m j) value) (serves-is name j h)

  pub says-serving : (name : List ℕ) (place : ℕ) → lowest_row (serves_at m name) (count_of m) 0 ≡ Some place
      → (place < count_of m) × (first (serves name) E.entries ≡ some (sent_at m place))
  says-serving name = test-found (serves name) (serves_at m name) (serves-is name)

  pub says-unserved : (name : List ℕ) → lowest_row (serves_at m name) (count_of m) 0 ≡ None → first (serves name) E.entries ≡ none
  says-unserved name = test-missed (serves name) (serves_at m name) (serves-is name)

  pub says-serving-both : (name value : List ℕ) (place : ℕ) → lowest_row (serves_both_at m name value) (count_of m) 0 ≡ Some place
      → (place < count_of m) × (first (serves_both name value) E.entries ≡ some (sent_at m place))
  says-serving-both name value = test-found (serves_both name value) (serves_both_at m name value) (serves-both-is name value)

  pub says-unserved-both : (name value : List ℕ) → lowest_row (serves_both_at m name value) (count_of m) 0 ≡ None
      → first (serves_both name value) E.entries ≡ none
  says-unserved-both name value = test-missed (serves_both name value) (serves_both_at m name value) (serves-both-is name value)

  -- ---- "the lowest from 62 that is not held"

  pub says-missing : missing m (62 + memory.vacant_row m (count_of m) 0) (memory.vacant_row m (count_of m) 0)
  says-missing = vacant-missing m (count_of m) 0 rows-rise

  pub says-vacant : 62 + memory.vacant_row m (count_of m) 0 ≡ vacant_from sent_index 62 E.entries
  says-vacant = vacant-model m (count_of m) 0 ∙ ap (vacant_from sent_index 62) entries-are
