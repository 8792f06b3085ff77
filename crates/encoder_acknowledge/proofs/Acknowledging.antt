-- The ways through an acknowledgement: the reader's and the model's refusals, each leaving everything as it was; and the entry freed.
-- By the definitions at the facts that the tests tell, and by the laws of the changes.
use mathlib.Core.Path.{◌≡◌, refl, sym, ap, ◌∙◌}
use Prim.Native.Nat.{ℕ}
use native.Mathlib.Omega.{arith}
use mathlib.Core.Bool.{true, false}
use mathlib.Core.Option.{Option, none, some}
use mathlib.Core.List.{List, []}
use lib.Dec.{eqb}
use borrow.Author.Tests.{eq-eqb}
use Rattle.memory.specs.Bytes.{Small}
use Rattle.memory.proofs.Order.{need-true, need-false}
use Rattle.integers.specs.Answers.{done, no_state, not_under_deletion, number_of, on_read}
use Rattle.integers.specs.declared.answer.Refusal.{Refusal}
use Rattle.instructions.specs.Reading.{read_for_encoder}
use Rattle.instructions.specs.declared.read.InstructionPlace.{InstructionPlace}
use Rattle.model.specs.Table.{look, cut}
use Rattle.model.specs.Outcome.{Outcome, nothing, refuse, finish, output_bytes}
use Rattle.model.specs.Encoder.{Sent, sent_index, Encoder, with_sent, acknowledge_found, read_ack}
use Rattle.state.specs.Layout.{count_of, status_at}
use Rattle.state.specs.EncoderState.{sent_at, encoder_of, overlay_encoder}
use Rattle.state.specs.Forms.{forms_encoder}
use Rattle.table.specs.Changes.{removed}
use Rattle.horizons.specs.Horizons.{horizons_closed}
use Rattle.table_laws.specs.DecoderChanges.{found, missing}
use Rattle.reply.specs.Result.{Result, refused, stepped}
use Rattle.encoder.specs.Calls.{acknowledged, acknowledge_call}
use Rattle.encoder.specs.Steps.{freed}
use Rattle.encoder.proofs.Standing.{changes, stays, row-found}
use Rattle.std.specs.Prelude.{Ok, Err}
use Rattle.integers.specs.Answers.{Read}

-- ---- reading
module _ (m s : List ℕ) where
  pub acknowledge-no-state : forms_encoder m ≡ false → acknowledge_call m s ≡ refused m [] no_state
  unfolding acknowledge_call
  acknowledge-no-state e = need-false _ _ _ e

  module _ (forms : forms_encoder m ≡ true) where
    -- a refusal of the reader's, passed on
    abbrev stop : Refusal → Result
    stop why = refused m [] (number_of why)

    reads : (r : Read InstructionPlace) → read_for_encoder s ≡ r → acknowledge_call m s ≡ on_read stop r (acknowledged m)
    unfolding acknowledge_call
    reads r e = need-true _ _ _ forms ∙ ap (λ (r : Read InstructionPlace). on_read stop r (acknowledged m)) e

    pub acknowledge-refused : (why : Refusal) → read_for_encoder s ≡ Err why → acknowledge_call m s ≡ refused m [] (number_of why)
    acknowledge-refused why e = reads (Err why) e

    pub acknowledge-found : (p : InstructionPlace) (taken : ℕ) → read_for_encoder s ≡ Ok (p, taken) → acknowledge_call m s ≡ acknowledged m p taken
    acknowledge-found p taken e = reads (Ok (p, taken)) e

-- ---- freeing
module _ (E : Encoder) (i taken : ℕ) where
  ack-looked : (o : Option Sent) → look sent_index i E.entries ≡ o → read_ack E i taken ≡ acknowledge_found E taken o
  unfolding read_ack
  ack-looked o e = ap (acknowledge_found E taken) e

  ack-none : acknowledge_found E taken none ≡ refuse E not_under_deletion
  unfolding acknowledge_found
  ack-none = refl

  ack-live : (e : Sent) → e.deleted ≡ false → acknowledge_found E taken (some e) ≡ refuse E not_under_deletion
  unfolding acknowledge_found
  ack-live e d = need-false _ _ _ d

  ack-free : (e : Sent) → e.deleted ≡ true
      → acknowledge_found E taken (some e) ≡ finish (with_sent E (cut sent_index e.index E.entries)) taken 0 nothing
  unfolding acknowledge_found
  ack-free e d = need-true _ _ _ d

module _ (m : List ℕ) (small : Small m) (forms : forms_encoder m ≡ true) (x place taken : ℕ) where
  abbrev E : Encoder
  E = encoder_of m

  steps : (o : Outcome Encoder) → read_ack E x taken ≡ o → freed m x taken ≡ stepped overlay_encoder m [] o
  steps o e = ap (λ (o : Outcome Encoder). stepped overlay_encoder m [] o) e

  pub freed-missing : missing m x place → freed m x taken ≡ refused m [] not_under_deletion
  freed-missing f =
      steps (refuse E not_under_deletion) (ack-looked E x taken none ((changes m small forms).nowhere x place f) ∙ ack-none E x taken)
      ∙ stays m small forms [] not_under_deletion

  module _ (f : found m x place) where
    looked : read_ack E x taken ≡ acknowledge_found E taken (some (sent_at m place))
    looked = ack-looked E x taken (some (sent_at m place)) (row-found m small forms x place f).looked

    pub freed-live : status_at m place ≡ 0 → freed m x taken ≡ refused m [] not_under_deletion
    unfolding sent_at
    freed-live s =
        steps (refuse E not_under_deletion) (looked ∙ ack-live E x taken (sent_at m place) (ap (λ (y : ℕ). eqb y 1) s))
        ∙ stays m small forms [] not_under_deletion

    pub freed-done : (status_at m place ≡ 0 → ⊥)
        → freed m x taken ≡ record { answer = done taken 0; memory = horizons_closed (removed m place) place (count_of m); output = [] }
    unfolding sent_at stepped output_bytes
    freed-done s =
        let row = row-found m small forms x place f in
        let one : status_at m place ≡ 1 = omega (arith, row.status) in
        let out = ap (λ (y : ℕ). overlay_encoder (with_sent E (cut sent_index y E.entries)) m) row.index
        ∙ sym ((changes m small forms).free x place f) in
        ap (λ (o : Outcome Encoder). stepped overlay_encoder m [] o)
        (looked ∙ ack-free E x taken (sent_at m place) (eq-eqb (status_at m place) 1 one))
        ∙ (λ k. record { answer = done taken 0; memory = out k; output = [] })
