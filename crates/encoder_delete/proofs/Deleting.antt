-- The ways through a delete: the model's refusals in their order, each leaving everything as it was; and the entry put under deletion.
-- By the definitions at the facts that the tests tell, and by the laws of the changes.
use mathlib.Core.Path.{◌≡◌, refl, sym, ap, ◌∙◌}
use Prim.Native.Nat.{ℕ, ◌≤◌, ◌<◌}
use native.Mathlib.Omega.{arith}
use mathlib.Core.Bool.{true, false, not}
use mathlib.Core.Option.{Option, none, some}
use mathlib.Core.List.{List, map}
use lib.Dec.{eqb}
use lib.ListN.{length}
use borrow.Author.Tests.{le-leb, lt-leb, eq-eqb}
use Rattle.memory.specs.Bytes.{Small, overlay}
use Rattle.memory.specs.Numbers.{number_bytes}
use Rattle.memory.proofs.Order.{need-true, need-false}
use Rattle.integers.specs.Answers.{done, no_state, not_allowed, vacant, under_deletion, no_room}
use Rattle.integers.specs.Integer.{largest}
use Rattle.instructions.specs.Instruction.{Instruction, delete, FineInstruction, instruction_wire}
use Rattle.model.specs.Table.{look}
use Rattle.model.specs.Outcome.{Outcome, refuse, finish, instruction, output_bytes}
use Rattle.model.specs.Encoder.{Sent, sent_index, Encoder, with_sent, empty_list, mark_deleted, delete_of_sent, delete_found, delete_sent}
use Rattle.state.specs.Layout.{status_place, status_at}
use Rattle.state.specs.EncoderState.{nontrailer_at, trailer_at, sent_at, encoder_of, overlay_encoder}
use Rattle.state.specs.Forms.{forms_encoder}
use Rattle.table_rows.specs.Rows.{status_set}
use Rattle.table_laws.specs.DecoderChanges.{found, missing}
use Rattle.sizes.specs.Sizes.{delete_size}
use Rattle.sizes.proofs.Lengths.{delete-size}
use Rattle.reply.specs.Result.{refused, stepped}
use Rattle.encoder.specs.Calls.{delete_call}
use Rattle.encoder.specs.Steps.{found_delete}
use Rattle.encoder.proofs.Standing.{changes, stays, row-found}

-- ---- the model's ways, in order
module _ (E : Encoder) (i room : ℕ) where
  index-low : i < 62 → delete_sent E i room ≡ refuse E not_allowed
  unfolding delete_sent
  index-low h = need-false _ _ _ (lt-leb _ _ h)

  module _ (l : 62 ≤ i) where
    index-high : largest < i → delete_sent E i room ≡ refuse E not_allowed
    unfolding delete_sent
    index-high h = need-true _ _ _ (le-leb _ _ l) ∙ need-false _ _ _ (lt-leb _ _ h)

    index-looked : i ≤ largest → (o : Option Sent) → look sent_index i E.entries ≡ o → delete_sent E i room ≡ delete_found E room o
    unfolding delete_sent
    index-looked h o e = need-true _ _ _ (le-leb _ _ l) ∙ need-true _ _ _ (le-leb _ _ h) ∙ ap (delete_found E room) e

module _ (E : Encoder) (room : ℕ) where
  looked-none : delete_found E room none ≡ refuse E vacant
  unfolding delete_found
  looked-none = refl

  module _ (e : Sent) where
    deleted-already : e.deleted ≡ true → delete_found E room (some e) ≡ refuse E under_deletion
    unfolding delete_found
    deleted-already d = need-false (not e.deleted) _ _ (ap not d)

    module _ (lives : e.deleted ≡ false) where
      found-no-room : room < length (instruction_wire (delete_of_sent e)) → delete_found E room (some e) ≡ refuse E no_room
      unfolding delete_found
      found-no-room h = need-true (not e.deleted) _ _ (ap not lives) ∙ need-false _ _ _ (lt-leb _ _ h)

      found-room : length (instruction_wire (delete_of_sent e)) ≤ room
          → delete_found E room (some e)
          ≡ finish (with_sent E (map (mark_deleted e.index) E.entries)) (length (instruction_wire (delete_of_sent e))) 0 (instruction (delete_of_sent e))
      unfolding delete_found
      found-room h = need-true (not e.deleted) _ _ (ap not lives) ∙ need-true _ _ _ (le-leb _ _ h)

-- ---- the call's ways
module _ (m : List ℕ) (i : ℕ) (out : List ℕ) where
  pub delete-no-state : forms_encoder m ≡ false → delete_call m i out ≡ refused m out no_state
  unfolding delete_call
  delete-no-state e = need-false _ _ _ e

module _ (m : List ℕ) (small : Small m) (forms : forms_encoder m ≡ true) (i : ℕ) (out : List ℕ) where
  abbrev E : Encoder
  E = encoder_of m

  steps : (o : Outcome Encoder) → delete_sent E i (length out) ≡ o → delete_call m i out ≡ stepped overlay_encoder m out o
  unfolding delete_call
  steps o e = need-true _ _ _ forms ∙ ap (λ (o : Outcome Encoder). stepped overlay_encoder m out o) e

  refuses : (number : ℕ) → delete_sent E i (length out) ≡ refuse E number → delete_call m i out ≡ refused m out number
  refuses number e = steps (refuse E number) e ∙ stays m small forms out number

  pub delete-low : i < 62 → delete_call m i out ≡ refused m out not_allowed
  delete-low h = refuses not_allowed (index-low E i (length out) h)

  module _ (l : 62 ≤ i) where
    pub delete-high : largest < i → delete_call m i out ≡ refused m out not_allowed
    delete-high h = refuses not_allowed (index-high E i (length out) l h)

    module _ (k : i ≤ largest) (place : ℕ) where
      pub delete-vacant : missing m i place → delete_call m i out ≡ refused m out vacant
      delete-vacant f =
          refuses vacant
          (index-looked E i (length out) l k none ((changes m small forms).nowhere i place f) ∙ looked-none E (length out))

      pub delete-deleted : found m i place → (status_at m place ≡ 0 → ⊥) → delete_call m i out ≡ refused m out under_deletion
      unfolding sent_at
      delete-deleted f s =
          let row = row-found m small forms i place f in
          let one : status_at m place ≡ 1 = omega (arith, row.status) in
          refuses under_deletion
          (index-looked E i (length out) l k (some (sent_at m place)) row.looked
          ∙ deleted-already E (length out) (sent_at m place) (eq-eqb (status_at m place) 1 one))

      pub delete-found : found m i place → delete_call m i out ≡ found_delete m place out
      delete-found f =
          steps (delete_found E (length out) (some (sent_at m place)))
          (index-looked E i (length out) l k (some (sent_at m place)) (row-found m small forms i place f).looked)

-- ---- the entry with index x, found and not under deletion: its horizons are p and t, and n is the length of its delete
module _ (m : List ℕ) (small : Small m) (forms : forms_encoder m ≡ true) (x place : ℕ) (f : found m x place) (live : status_at m place ≡ 0)
    (p t n : ℕ) (nontrailer-is : p ≡ nontrailer_at m place) (trailer-is : t ≡ trailer_at m place) (s : n ≡ delete_size x p t) where
  abbrev said : Instruction
  said = delete x (empty_list p) (empty_list t)

  pub said-length : length (instruction_wire said) ≡ n
  said-length = delete-size x p t ∙ sym s

  pub said-fine : FineInstruction said
  said-fine =
      let row = row-found m small forms x place f in (
        (row.low, omega (arith, row.high)),
        (omega (arith, nontrailer-is, row.nontrailer), omega arith, tt),
        (omega (arith, trailer-is, row.trailer), omega arith, tt),
      )

  index_is : (sent_at m place).index ≡ x
  unfolding sent_at
  index_is = (row-found m small forms x place f).index

  lives : (sent_at m place).deleted ≡ false
  unfolding sent_at
  lives = ap (λ (y : ℕ). eqb y 1) live

  says : delete_of_sent (sent_at m place) ≡ said
  unfolding sent_at
  says = λ k. delete (index_is k) (empty_list (sym nontrailer-is k)) (empty_list (sym trailer-is k))

  wire-length : length (instruction_wire (delete_of_sent (sent_at m place))) ≡ n
  wire-length = ap (λ (d : Instruction). length (instruction_wire d)) says ∙ said-length

  module _ (out : List ℕ) where
    pub found-short : length out < n → found_delete m place out ≡ refused m out no_room
    found-short h =
        ap (λ (o : Outcome Encoder). stepped overlay_encoder m out o)
        (found-no-room (encoder_of m) (length out) (sent_at m place) lives (omega (arith, wire-length)))
        ∙ stays m small forms out no_room

    pub found-done : n ≤ length out
        → found_delete m place out
        ≡ record { answer = done n 0; memory = overlay m (status_place place) (number_bytes 2 1); output = overlay out 0 (instruction_wire said) }
    unfolding stepped output_bytes status_set
    found-done h =
        let marked = ap (λ (y : ℕ). overlay_encoder (with_sent (encoder_of m) (map (mark_deleted y) (encoder_of m).entries)) m) index_is
        ∙ sym ((changes m small forms).delete x place f) in
        ap (λ (o : Outcome Encoder). stepped overlay_encoder m out o)
        (found-room (encoder_of m) (length out) (sent_at m place) lives (omega (arith, wire-length)))
        ∙ (λ k. record { answer = done (wire-length k) 0; memory = marked k; output = overlay out 0 (instruction_wire (says k)) })
