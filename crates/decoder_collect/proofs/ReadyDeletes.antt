-- The turns of walking along the deletes, each one step of the definition; and that the first delete of memory that is ready is the one whose entry the
-- model frees next: no two deletes have one index, so each is found by its own.
use mathlib.Core.Path.{◌≡◌, refl, sym, ap, ◌∙◌, subst}
use Prim.Native.Nat.{ℕ, zero, suc, ◌+◌, ◌-◌, ◌≤◌, ◌<◌}
use native.Mathlib.Omega.{arith}
use mathlib.Core.Bool.{Bool, true, false}
use mathlib.Core.Option.{Option, none, some, map}
use mathlib.Core.List.{List}
use Rattle.memory.specs.Bytes.{Small}
use Rattle.memory.proofs.Order.{pick-both, pick_true, pick-false}
use Rattle.instructions.specs.Instruction.{FineIndex}
use Rattle.model.specs.Table.{look, first}
use Rattle.model.specs.Parts.{Delete, is_ready}
use Rattle.model.specs.Decoder.{Decoder, delete_index, delete_of, ready_delete, ready, next_freed, FormsDecoder}
use Rattle.model_laws.proofs.Tables.{nope, look-index}
use Rattle.model_laws.proofs.Collecting.{held-index}
use Rattle.model_laws.proofs.Forms.{delete-held}
use Rattle.state.specs.Layout.{delete_count, delete_index_at, status_at}
use Rattle.state.specs.Front.{marks_of}
use Rattle.state.specs.DecoderState.{delete_at, deletes_of, decoder_of}
use Rattle.state.specs.Forms.{forms_decoder}
use Rattle.state_laws.proofs.Each.{Each}
use Rattle.state_laws.proofs.Look.{distinct-each}
use Rattle.state_laws.proofs.DecoderLaws.{decoder-laws}
use Rattle.holds.specs.Hold.{GoodDelete}
use Rattle.table_laws.specs.DecoderChanges.{DecoderStands, found, missing, DecoderChanges}
use Rattle.table_laws.proofs.DecoderClaim.{decoder-claim}
use Rattle.decoder_collect.specs.Ready.{ready_at, next_from}
use Rattle.std.specs.Prelude.{Some, None}
use Rattle.std.specs.Prelude as std

-- what a slice lends forms a state where the test says so
pub formed : (m : List ℕ) → forms_decoder m ≡ true → Small m → DecoderStands m (decoder_of m)
formed m f s = record { small = s; forms = f; state = refl }

pub ready-is : (m : List ℕ) (k : ℕ) → ready_at m k ≡ is_ready (marks_of m) (delete_at m k)
unfolding ready_at
ready-is m k = refl

-- ---- the turns, of n deletes

pub next_start : (m : List ℕ) (n : ℕ) → next_from m n 0 ≡ next_from m (n - 0) 0
next_start m n = let f : n ≡ n - 0 = omega arith in ap (λ (k : ℕ). next_from m k 0) f

module _ (m : List ℕ) (n k : ℕ) where
  pub next_more : k < n → ready_at m k ≡ false → next_from m (n - k) k ≡ next_from m (n - (k + 1)) (k + 1)
  unfolding next_from
  next_more h e =
      let f : n - k ≡ suc (n - (k + 1)) = omega arith in
      ap (λ (j : ℕ). next_from m j k) f ∙ pick-false (ready_at m k) _ _ e

  pub next_here : k < n → ready_at m k ≡ true → next_from m (n - k) k ≡ Some k
  unfolding next_from
  next_here h e =
      let f : n - k ≡ suc (n - (k + 1)) = omega arith in
      ap (λ (j : ℕ). next_from m j k) f ∙ pick_true (ready_at m k) _ _ e

  pub next-done : n ≤ k → next_from m (n - k) k ≡ None
  unfolding next_from
  next-done h = let f : n - k ≡ 0 = omega arith in ap (λ (j : ℕ). next_from m j k) f

-- the delete that is found is one of those searched
next-within : (m : List ℕ) (n k j : ℕ) → next_from m n k ≡ Some j → j < k + n
unfolding next_from
next-within m zero k j e = nope (cc)
next-within m (suc n) k j e =
    pick-both (λ (r : std.Option ℕ). r ≡ Some j → j < k + suc n) (ready_at m k) (Some k) (next_from m n (k + 1))
    (λ t d. let z : k ≡ j = cc in omega arith) (λ t d. omega (arith, next-within m n (k + 1) j d)) e

-- ---- the model's choice among the deletes of memory

abbrev delete_in : List ℕ → std.Option ℕ → Option Delete
delete_in m (Some k) = some (delete_at m k)
delete_in m None = none

first_next : (m : List ℕ) (test : Delete → Bool) (n k : ℕ) → Each (λ d. test d ≡ is_ready (marks_of m) d) (deletes_of m k n)
    → first test (deletes_of m k n) ≡ delete_in m (next_from m n k)
unfolding first deletes_of next_from ready_at
first_next m test zero k f = refl
first_next m test (suc n) k f =
    pick-both (λ (r : std.Option ℕ). first test (deletes_of m k (suc n)) ≡ delete_in m r) (ready_at m k) (Some k) (next_from m n (k + 1))
    (λ t. pick_true (test (delete_at m k)) _ _ (f.0 ∙ t)) (λ t. pick-false (test (delete_at m k)) _ _ (f.0 ∙ t) ∙ first_next m test n (k + 1) f.1)

module _ (m : List ℕ) (S : DecoderStands m (decoder_of m)) where
  abbrev D : Decoder
  D = decoder_of m

  pub changes : DecoderChanges m D
  changes = decoder-claim.changes m D S

  forms : FormsDecoder D
  forms = (decoder-laws.fits m S.small S.forms).forms

  -- each delete is found by its index, so its entry is ready where it is
  each-ready : Each (λ d. ready D d.index ≡ is_ready (marks_of m) d) D.deletes
  unfolding ready ready_delete delete_of decoder_of
  each-ready =
      distinct-each delete_index (λ d. ready D d.index ≡ is_ready (marks_of m) d) D.deletes forms.once
      (λ i d e. ap (ready_delete (marks_of m)) (subst (λ (j : ℕ). look delete_index j D.deletes ≡ some d) (sym (look-index delete_index i D.deletes d e)) e))

  abbrev next : std.Option ℕ
  next = next_from m (delete_count m) 0

  next-is : next_freed D ≡ map delete_index (delete_in m next)
  unfolding next_freed decoder_of
  next-is = ap (map delete_index) (first_next m (λ d. ready D d.index) (delete_count m) 0 each-ready)

  pub none-next : next ≡ None → next_freed D ≡ none
  none-next e = next-is ∙ ap (λ (r : std.Option ℕ). map delete_index (delete_in m r)) e

  -- ---- one delete: its row, and what holds of it
  module _ (k : ℕ) (h : k < delete_count m) where
    abbrev place : ℕ
    place = (changes.kept k h).0

    deletion : delete_of D (delete_index_at m k) ≡ some (delete_at m k)
    deletion = let r = changes.kept k h in (changes.deleted (delete_index_at m k) place k r.1 r.2).0

    pub good : GoodDelete m k
    good = let r = changes.kept k h in (changes.deleted (delete_index_at m k) place k r.1 r.2).1

    -- the search finds its row, which points at it
    pub row_at : (p : ℕ) → found m (delete_index_at m k) p → status_at m p ≡ suc k
    row_at p e =
        let r = changes.kept k h in
        let d = r.1 in
        let z : place ≡ p = cc in
        rw (← z) r.2

    pub row-there : (p : ℕ) → missing m (delete_index_at m k) p → ⊥
    row-there p e = let d = (changes.kept k h).1 in nope (cc)

    pub fine : FineIndex (delete_index_at m k)
    fine = let e = delete-held D forms (delete_index_at m k) (delete_at m k) deletion in held-index D forms (delete_index_at m k) e.0 e.1

  module _ (k : ℕ) (e : next ≡ Some k) where
    pub next-below : k < delete_count m
    next-below = omega (arith, next-within m (delete_count m) 0 k e)

    pub next-index : next_freed D ≡ some (delete_index_at m k)
    unfolding delete_at
    next-index = next-is ∙ ap (λ (r : std.Option ℕ). map delete_index (delete_in m r)) e
