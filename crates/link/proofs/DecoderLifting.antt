-- A decoder's call on memory that forms a state is the model's call on that state, and leaves memory that forms the state after it.
-- The call's definition is the model's step laid over memory; the state's laws and what the calls keep give the rest.
use mathlib.Core.Path.{◌≡◌, refl, sym, ap, subst, ◌∙◌}
use Prim.Native.Nat.{ℕ, ◌≤◌}
use native.Mathlib.Omega.{arith}
use mathlib.Core.Bool.{Bool, true, false}
use mathlib.Core.List.{List, []}
use lib.ListN.{length}
use lib.Dec.{leb}
use borrow.Author.Tests.{leb-true}
use Rattle.memory.specs.Choice.{pick, need}
use Rattle.memory.specs.Bytes.{Small}
use Rattle.memory.proofs.Order.{pick-both, need-both, need-true}
use Rattle.integers.specs.Answers.{refusal, done, over_limit, no_room, out_of_turn, on_read, Read, number_of}
use Rattle.wire.proofs.TextBounds.{string-bytes-small}
use Rattle.wire.specs.Name.{name_of}
use Rattle.wire.specs.declared.name.NamePlace.{NamePlace}
use Rattle.wire.specs.declared.name.NamePlace.TheVariants.{Index, Text}
use Rattle.instructions.specs.Reading.{read_for_decoder, instruction_of}
use Rattle.instructions.specs.declared.read.InstructionPlace.{InstructionPlace}
use Rattle.instructions.specs.declared.read.InstructionPlace.TheVariants.{Insert, Delete, Acknowledge}
use Rattle.instructions.proofs.Bounds.{decoder-good}
use Rattle.instructions.proofs.Lengths.{SmallName, SmallText}
use Rattle.blocks.specs.Reading.{BlockRead, read_block}
use Rattle.blocks.specs.Reading as blocks
use Rattle.model.specs.Parts.{part_of, over, ended}
use Rattle.model.specs.Outcome.{output_bytes, refuse}
use Rattle.model.specs.Decoder.{Decoder, start_decoder, read_instruction, decode_block}
use Rattle.model.specs.DecoderCalls.{decoder_call}
use Rattle.model.specs.DecoderCalls as at-decoder
use Rattle.model_laws.specs.Ready.{FineCall}
use Rattle.state.specs.Layout.{decoder_length}
use Rattle.state.specs.DecoderState.{decoder_of, overlay_decoder}
use Rattle.state.specs.Forms.{forms_decoder}
use Rattle.state_laws.proofs.DecoderLaws.{decoder-laws}
use Rattle.state_laws.proofs.DecoderForms.{forms-holds-decoder}
use Rattle.parts.specs.Turn.{part_turn}
use Rattle.reply.specs.Result.{Result, refused, stepped}
use Rattle.decoder.specs.Calls.{start_call, read_call, on_block, block_call, over_call, ended_call, hold_call, collect_call}
use Rattle.link.specs.Calls.{DecoderCall, decoder_result, decoder_lent, DecoderBytes}
use Rattle.link.specs.Calls as calls
use Rattle.link.proofs.Lifted.{read_block_call, decoder_call_of, StandsDecoder, LiftedDecoder, decoder_unread}
use Rattle.link.proofs.SmallStates.{small-decoder, decoder_small}
use Rattle.link.proofs.StatesKept.{SmallDecoderCall, KeptDecoder, kept-start-decoder, kept-decoder}
use Rattle.std.specs.Prelude.{Ok, Err}
use Rattle.integers.specs.declared.answer.Refusal.{Refusal}

-- ---- the model's calls that bytes give: fine instructions, with strings of bytes

name-bytes : (s : List ℕ) → Small s → (p : NamePlace) → SmallName (name_of s p)
name-bytes s b (Index i) = tt
name-bytes s b (Text p) = string-bytes-small s p b

place-bytes : (s : List ℕ) → Small s → (p : InstructionPlace) → SmallText (instruction_of s p)
place-bytes s b (Insert i name value) = (name-bytes s b name, string-bytes-small s value b)
place-bytes s b (Delete i nontrailer trailer) = tt
place-bytes s b (Acknowledge i) = tt

-- what the reader of instructions can give
pub fine-decoder : (D : Decoder) (c : DecoderCall) → FineCall (decoder_call_of D c)
unfolding decoder_call_of
fine-decoder D (calls.DecoderCall.read s) = go (read_for_decoder s) refl
  where
    go : (r : Read InstructionPlace) → read_for_decoder s ≡ r → FineCall (on_read decoder_unread r (λ p taken. at-decoder.read (instruction_of s p) taken))
    go (Ok (p, taken)) e = let g = decoder-good s p taken e in (g.kind, g.fine)
    go (Err why) e = tt
fine-decoder D (calls.DecoderCall.block stream part s out) =
    pick-both FineCall (part_turn D.finished stream (part_of part)) _ (at-decoder.unread out_of_turn) (λ e. go (read_block s)) (λ e. tt)
  where
    go : (r : BlockRead) → FineCall (read_block_call stream part (length out) r)
    go (blocks.BlockRead.block rs) = tt
    go (blocks.BlockRead.refused why) = tt
fine-decoder D (calls.DecoderCall.close k stream) = tt
fine-decoder D (calls.DecoderCall.collect out) = tt
fine-decoder D (calls.DecoderCall.hold index) = tt

-- a block brings no string
pub block-bytes : (D : Decoder) (stream part : ℕ) (s out : List ℕ) → SmallDecoderCall (decoder_call_of D (calls.DecoderCall.block stream part s out))
unfolding decoder_call_of
block-bytes D stream part s out =
    pick-both SmallDecoderCall (part_turn D.finished stream (part_of part)) _ (at-decoder.unread out_of_turn) (λ e. go (read_block s)) (λ e. tt)
  where
    go : (r : BlockRead) → SmallDecoderCall (read_block_call stream part (length out) r)
    go (blocks.BlockRead.block rs) = tt
    go (blocks.BlockRead.refused why) = tt

small-decoder-call : (D : Decoder) (c : DecoderCall) → DecoderBytes c → SmallDecoderCall (decoder_call_of D c)
unfolding decoder_call_of
small-decoder-call D (calls.DecoderCall.read s) b = go (read_for_decoder s)
  where
    go : (r : Read InstructionPlace) → SmallDecoderCall (on_read decoder_unread r (λ p taken. at-decoder.read (instruction_of s p) taken))
    go (Ok (p, taken)) = place-bytes s b p
    go (Err why) = tt
small-decoder-call D (calls.DecoderCall.block stream part s out) b = block-bytes D stream part s out
small-decoder-call D (calls.DecoderCall.close k stream) b = tt
small-decoder-call D (calls.DecoderCall.collect out) b = tt
small-decoder-call D (calls.DecoderCall.hold index) b = tt

-- ---- a state laid over memory

-- memory of a state that the calls keep
pub stands-over : (D : Decoder) (m : List ℕ) → Small m → decoder_length ≤ length m → KeptDecoder D → StandsDecoder (overlay_decoder D m) D
stands-over D m small long K = record {
  small = small-decoder D m small K.bytes;
  forms = decoder-laws.forms D m long K.fits;
  state = decoder-laws.back D m long K.fits;
}

module _ (m : List ℕ) (small : Small m) (forms : forms_decoder m ≡ true) where
  pub long-decoder : decoder_length ≤ length m
  long-decoder = (forms-holds-decoder m small forms).long

  pub kept-self-decoder : KeptDecoder (decoder_of m)
  kept-self-decoder = record { fits = decoder-laws.fits m small forms; bytes = decoder_small m small }

  pub stands-self-decoder : StandsDecoder m (decoder_of m)
  stands-self-decoder = record { small = small; forms = forms; state = refl }

  refused-step : (out : List ℕ) (number : ℕ) → refused m out number ≡ stepped overlay_decoder m out (refuse (decoder_of m) number)
  unfolding stepped output_bytes
  refused-step out number =
      ap (λ (l : List ℕ). record { answer = refusal number; memory = l; output = out }) (sym (decoder-laws.self m small forms))

  -- the call is the model's, laid over memory
  pub same-decoder : (c : DecoderCall)
      → decoder_result m c ≡ stepped overlay_decoder m (decoder_lent c) (decoder_call (decoder_of m) (decoder_call_of (decoder_of m) c))
  unfolding decoder_result read_call block_call over_call ended_call hold_call collect_call decoder_call_of decoder_call
  same-decoder (calls.DecoderCall.read s) = need-true (forms_decoder m) _ _ forms ∙ go (read_for_decoder s)
    where
      go : (r : Read InstructionPlace)
          → on_read (λ (why : Refusal). refused m [] (number_of why)) r (λ p taken. stepped overlay_decoder m [] (read_instruction (decoder_of m) (instruction_of s p) taken))
          ≡ stepped overlay_decoder m [] (decoder_call (decoder_of m)
          (on_read decoder_unread r (λ p taken. at-decoder.read (instruction_of s p) taken)))
      go (Ok (p, taken)) = refl
      go (Err why) = refused-step [] (number_of why)
  same-decoder (calls.DecoderCall.block stream part s out) =
      need-true (forms_decoder m) _ _ forms ∙ go (part_turn (decoder_of m).finished stream (part_of part)) (read_block s)
    where
      go : (b : Bool) (r : BlockRead)
          → need b (refused m out out_of_turn)
          (on_block (refused m out) r (λ rs. stepped overlay_decoder m out (decode_block (decoder_of m) stream part rs (length out))))
          ≡ stepped overlay_decoder m out (decoder_call (decoder_of m)
          (pick b (read_block_call stream part (length out) r) (at-decoder.unread out_of_turn)))
      go true (blocks.BlockRead.block rs) = refl
      go true (blocks.BlockRead.refused why) = refused-step out (number_of why)
      go false r = refused-step out out_of_turn
  same-decoder (calls.DecoderCall.close over stream) = need-true (forms_decoder m) _ _ forms
  same-decoder (calls.DecoderCall.close ended stream) = need-true (forms_decoder m) _ _ forms
  same-decoder (calls.DecoderCall.collect out) = need-true (forms_decoder m) _ _ forms
  same-decoder (calls.DecoderCall.hold index) = need-true (forms_decoder m) _ _ forms

  pub kept-next-decoder : (c : DecoderCall) → DecoderBytes c → KeptDecoder (decoder_call (decoder_of m) (decoder_call_of (decoder_of m) c)).state
  kept-next-decoder c b =
      let D = decoder_of m in
      kept-decoder D kept-self-decoder (decoder_call_of D c) (fine-decoder D c) (small-decoder-call D c b)

  lift-self : (c : DecoderCall) → DecoderBytes c → LiftedDecoder (decoder_of m) c (decoder_result m c)
  unfolding stepped
  lift-self c b =
      let o = decoder_call (decoder_of m) (decoder_call_of (decoder_of m) c) in
      subst (LiftedDecoder (decoder_of m) c) (sym (same-decoder c))
      (record { answer = refl; stands = stands-over o.state m small long-decoder (kept-next-decoder c b); output = refl })

-- ---- what others use

pub lift-decoder : (m : List ℕ) (D : Decoder) → StandsDecoder m D → (c : DecoderCall) → DecoderBytes c → LiftedDecoder D c (decoder_result m c)
lift-decoder m D S c b =
    subst (λ (X : Decoder). LiftedDecoder X c (decoder_result m c)) S.state (lift-self m S.small S.forms c b)

module _ (m : List ℕ) (limit : ℕ) where
  -- what a start answered "done" tells
  started : (P : Result → Type 0)
      → (limit ≤ 4096 → decoder_length ≤ length m → P (record { answer = done 0 0; memory = overlay_decoder (start_decoder limit) m; output = [] }))
      → (start_call m limit).answer.number ≡ 0 → P (start_call m limit)
  unfolding start_call
  started P f =
      need-both (λ (r : Result). r.answer.number ≡ 0 → P r) (leb limit 4096) (refused m [] over_limit) _
      (λ e z. absurd (omega arith))
      (λ e. need-both (λ (r : Result). r.answer.number ≡ 0 → P r) (leb decoder_length (length m)) (refused m [] no_room) _
      (λ d z. absurd (omega arith))
      (λ d z. f (leb-true limit 4096 e) (leb-true decoder_length (length m) d)))

  pub start-decoder : Small m → (start_call m limit).answer.number ≡ 0 → StandsDecoder (start_call m limit).memory (start_decoder limit)
  start-decoder small =
      started (λ r. StandsDecoder r.memory (start_decoder limit))
      (λ h long. stands-over (start_decoder limit) m small long (kept-start-decoder limit h))

  pub start-decoder-limit : (start_call m limit).answer.number ≡ 0 → limit ≤ 4096
  start-decoder-limit = started (λ r. limit ≤ 4096) (λ h long. h)
