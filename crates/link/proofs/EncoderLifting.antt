-- An encoder's call on memory that forms a state is the model's call on that state, and leaves memory that forms the state after it.
-- As at the decoder: the call's definition is the model's step laid over memory.
use mathlib.Core.Path.{◌≡◌, refl, sym, ap, subst, ◌∙◌}
use Prim.Native.Nat.{ℕ, ◌≤◌}
use native.Mathlib.Omega.{arith}
use mathlib.Core.Bool.{Bool, true, false}
use mathlib.Core.List.{List, []}
use lib.ListN.{length}
use lib.Dec.{leb}
use borrow.Author.Tests.{leb-true}
use Rattle.memory.specs.Choice.{pick, need}
use Rattle.memory.specs.Bytes.{Small}
use Rattle.memory.proofs.Order.{pick-both, need-both, need-true}
use Rattle.integers.specs.Answers.{refusal, done, over_limit, no_room, out_of_turn, on_read, Read, number_of}
use Rattle.fields.specs.Reading.{FieldListRead, read_field_list}
use Rattle.fields.specs.Reading as lists
use Rattle.fields.proofs.Lists.{list-forth}
use Rattle.instructions.specs.Reading.{read_for_encoder}
use Rattle.instructions.specs.declared.read.InstructionPlace.TheVariants.{Insert, Delete, Acknowledge}
use Rattle.model.specs.Parts.{part_of}
use Rattle.model.specs.Outcome.{output_bytes, refuse}
use Rattle.model.specs.Encoder.{Encoder, start_encoder, encode_block}
use Rattle.model.specs.EncoderCalls.{encoder_call}
use Rattle.model.specs.EncoderCalls as at-encoder
use Rattle.model.specs.Events.{encoder}
use Rattle.model_laws.specs.Link.{FineLinkCall}
use Rattle.state.specs.Layout.{encoder_length}
use Rattle.state.specs.EncoderState.{encoder_of, overlay_encoder}
use Rattle.state.specs.Forms.{forms_encoder}
use Rattle.state_laws.proofs.EncoderLaws.{encoder-laws}
use Rattle.state_laws.proofs.EncoderForms.{forms-holds-encoder}
use Rattle.parts.specs.Turn.{part_turn}
use Rattle.reply.specs.Result.{Result, refused, stepped}
use Rattle.encoder.specs.Calls.{start_call, insert_call, delete_call, on_list, block_call, acknowledged, acknowledge_call}
use Rattle.link.specs.Calls.{EncoderCall, encoder_result, encoder_lent, EncoderBytes}
use Rattle.link.specs.Calls as calls
use Rattle.link.proofs.Lifted.{read_list_call, acknowledged_call, encoder_call_of, StandsEncoder, LiftedEncoder, encoder_unread}
use Rattle.link.proofs.SmallStates.{small-encoder, encoder_small}
use Rattle.link.proofs.StatesKept.{SmallEncoderCall, KeptEncoder, kept-start-encoder, kept-encoder}
use Rattle.std.specs.Prelude.{Ok, Err}
use Rattle.instructions.specs.declared.read.InstructionPlace.{InstructionPlace}
use Rattle.integers.specs.declared.answer.Refusal.{Refusal}

-- ---- the model's calls that bytes give: fine fields, and strings of bytes

pub fine-encoder : (E : Encoder) (c : EncoderCall) → EncoderBytes c → FineLinkCall (encoder (encoder_call_of E c))
unfolding encoder_call_of
fine-encoder E (calls.EncoderCall.insert name value out) b = tt
fine-encoder E (calls.EncoderCall.delete index out) b = tt
fine-encoder E (calls.EncoderCall.block stream part s out) b =
    pick-both (λ (x : at-encoder.EncoderCall). FineLinkCall (encoder x)) (part_turn E.written stream (part_of part)) _ (at-encoder.unread out_of_turn)
    (λ e. go (read_field_list s) refl) (λ e. tt)
  where
    go : (r : FieldListRead) → read_field_list s ≡ r → FineLinkCall (encoder (read_list_call stream part (length out) r))
    go (lists.FieldListRead.list fs) e = (list-forth s b.0 fs e).1
    go (lists.FieldListRead.refused why) e = tt
fine-encoder E (calls.EncoderCall.acknowledge s) b = go (read_for_encoder s)
  where
    go : (r : Read InstructionPlace) → FineLinkCall (encoder (on_read encoder_unread r acknowledged_call))
    go (Ok (Insert i name value, taken)) = tt
    go (Ok (Delete i nontrailer trailer, taken)) = tt
    go (Ok (Acknowledge i, taken)) = tt
    go (Err why) = tt

small-encoder-call : (E : Encoder) (c : EncoderCall) → EncoderBytes c → SmallEncoderCall (encoder_call_of E c)
unfolding encoder_call_of
small-encoder-call E (calls.EncoderCall.insert name value out) b = (b.0, b.1)
small-encoder-call E (calls.EncoderCall.delete index out) b = tt
small-encoder-call E (calls.EncoderCall.block stream part s out) b =
    pick-both SmallEncoderCall (part_turn E.written stream (part_of part)) _ (at-encoder.unread out_of_turn) (λ e. go (read_field_list s)) (λ e. tt)
  where
    go : (r : FieldListRead) → SmallEncoderCall (read_list_call stream part (length out) r)
    go (lists.FieldListRead.list fs) = tt
    go (lists.FieldListRead.refused why) = tt
small-encoder-call E (calls.EncoderCall.acknowledge s) b = go (read_for_encoder s)
  where
    go : (r : Read InstructionPlace) → SmallEncoderCall (on_read encoder_unread r acknowledged_call)
    go (Ok (Insert i name value, taken)) = tt
    go (Ok (Delete i nontrailer trailer, taken)) = tt
    go (Ok (Acknowledge i, taken)) = tt
    go (Err why) = tt

-- ---- a state laid over memory

pub stands-over : (E : Encoder) (m : List ℕ) → Small m → encoder_length ≤ length m → KeptEncoder E → StandsEncoder (overlay_encoder E m) E
stands-over E m small long K = record {
  small = small-encoder E m small K.bytes;
  forms = encoder-laws.forms E m long K.fits;
  state = encoder-laws.back E m long K.fits;
}

module _ (m : List ℕ) (small : Small m) (forms : forms_encoder m ≡ true) where
  pub long-encoder : encoder_length ≤ length m
  long-encoder = (forms-holds-encoder m small forms).long

  pub kept-self-encoder : KeptEncoder (encoder_of m)
  kept-self-encoder = record { fits = encoder-laws.fits m small forms; bytes = encoder_small m small }

  pub stands-self-encoder : StandsEncoder m (encoder_of m)
  stands-self-encoder = record { small = small; forms = forms; state = refl }

  refused-step : (out : List ℕ) (number : ℕ) → refused m out number ≡ stepped overlay_encoder m out (refuse (encoder_of m) number)
  unfolding stepped output_bytes
  refused-step out number =
      ap (λ (l : List ℕ). record { answer = refusal number; memory = l; output = out }) (sym (encoder-laws.self m small forms))

  -- the call is the model's, laid over memory
  pub same-encoder : (c : EncoderCall)
      → encoder_result m c ≡ stepped overlay_encoder m (encoder_lent c) (encoder_call (encoder_of m) (encoder_call_of (encoder_of m) c))
  unfolding encoder_result insert_call delete_call block_call acknowledge_call encoder_call_of encoder_call
  same-encoder (calls.EncoderCall.insert name value out) = need-true (forms_encoder m) _ _ forms
  same-encoder (calls.EncoderCall.delete index out) = need-true (forms_encoder m) _ _ forms
  same-encoder (calls.EncoderCall.block stream part s out) =
      need-true (forms_encoder m) _ _ forms ∙ go (part_turn (encoder_of m).written stream (part_of part)) (read_field_list s)
    where
      go : (b : Bool) (r : FieldListRead)
          → need b (refused m out out_of_turn)
          (on_list (refused m out) r (λ fs. stepped overlay_encoder m out (encode_block (encoder_of m) stream part fs (length out))))
          ≡ stepped overlay_encoder m out (encoder_call (encoder_of m)
          (pick b (read_list_call stream part (length out) r) (at-encoder.unread out_of_turn)))
      go true (lists.FieldListRead.list fs) = refl
      go true (lists.FieldListRead.refused why) = refused-step out (number_of why)
      go false r = refused-step out out_of_turn
  same-encoder (calls.EncoderCall.acknowledge s) = need-true (forms_encoder m) _ _ forms ∙ go (read_for_encoder s)
    where
      go : (r : Read InstructionPlace)
          → on_read (λ (why : Refusal). refused m [] (number_of why)) r (acknowledged m)
          ≡ stepped overlay_encoder m [] (encoder_call (encoder_of m) (on_read encoder_unread r acknowledged_call))
      go (Ok (Insert i name value, taken)) = refused-step [] 5
      go (Ok (Delete i nontrailer trailer, taken)) = refused-step [] 5
      go (Ok (Acknowledge i, taken)) = refl
      go (Err why) = refused-step [] (number_of why)

  pub kept-next-encoder : (c : EncoderCall) → EncoderBytes c → KeptEncoder (encoder_call (encoder_of m) (encoder_call_of (encoder_of m) c)).state
  kept-next-encoder c b =
      let E = encoder_of m in
      kept-encoder E kept-self-encoder (encoder_call_of E c) (small-encoder-call E c b)

  lift-self : (c : EncoderCall) → EncoderBytes c → LiftedEncoder (encoder_of m) c (encoder_result m c)
  unfolding stepped
  lift-self c b =
      let o = encoder_call (encoder_of m) (encoder_call_of (encoder_of m) c) in
      subst (LiftedEncoder (encoder_of m) c) (sym (same-encoder c))
      (record { answer = refl; stands = stands-over o.state m small long-encoder (kept-next-encoder c b); output = refl })

-- ---- what others use

pub lift-encoder : (m : List ℕ) (E : Encoder) → StandsEncoder m E → (c : EncoderCall) → EncoderBytes c → LiftedEncoder E c (encoder_result m c)
lift-encoder m E S c b =
    subst (λ (X : Encoder). LiftedEncoder X c (encoder_result m c)) S.state (lift-self m S.small S.forms c b)

module _ (m : List ℕ) (limit : ℕ) where
  -- what a start answered "done" tells
  started : (P : Result → Type 0)
      → (limit ≤ 4096 → encoder_length ≤ length m → P (record { answer = done 0 0; memory = overlay_encoder (start_encoder limit) m; output = [] }))
      → (start_call m limit).answer.number ≡ 0 → P (start_call m limit)
  unfolding start_call
  started P f =
      need-both (λ (r : Result). r.answer.number ≡ 0 → P r) (leb limit 4096) (refused m [] over_limit) _
      (λ e z. absurd (omega arith))
      (λ e. need-both (λ (r : Result). r.answer.number ≡ 0 → P r) (leb encoder_length (length m)) (refused m [] no_room) _
      (λ d z. absurd (omega arith))
      (λ d z. f (leb-true limit 4096 e) (leb-true encoder_length (length m) d)))

  pub start-encoder : Small m → (start_call m limit).answer.number ≡ 0 → StandsEncoder (start_call m limit).memory (start_encoder limit)
  start-encoder small =
      started (λ r. StandsEncoder r.memory (start_encoder limit))
      (λ h long. stands-over (start_encoder limit) m small long (kept-start-encoder limit h))

  pub start-encoder-limit : (start_call m limit).answer.number ≡ 0 → limit ≤ 4096
  start-encoder-limit = started (λ r. limit ≤ 4096) (λ h long. h)
