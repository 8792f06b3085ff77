-- A call on memory and bytes is the model's call on the state that memory stands for. What is shown of a call is this record, for each end.
use mathlib.Core.Path.{◌≡◌}
use Prim.Native.Nat.{ℕ}
use mathlib.Core.Bool.{true}
use mathlib.Core.List.{List}
use lib.ListN.{length}
use Rattle.memory.specs.Choice.{pick}
use Rattle.memory.specs.Bytes.{Small, overlay}
use Rattle.integers.specs.Answers.{out_of_turn, on_read, number_of}
use Rattle.fields.specs.Reading.{FieldListRead}
use Rattle.fields.specs.Reading as lists
use Rattle.instructions.specs.Reading.{read_for_decoder, read_for_encoder, instruction_of}
use Rattle.instructions.specs.declared.read.InstructionPlace.{InstructionPlace}
use Rattle.instructions.specs.declared.read.InstructionPlace.TheVariants.{Insert, Delete, Acknowledge}
use Rattle.blocks.specs.Reading.{BlockRead, read_block}
use Rattle.blocks.specs.Reading as blocks
use Rattle.model.specs.Parts.{part_of}
use Rattle.model.specs.Outcome.{output_bytes}
use Rattle.model.specs.Decoder.{Decoder}
use Rattle.model.specs.DecoderCalls as at-decoder
use Rattle.model.specs.Encoder.{Encoder}
use Rattle.model.specs.EncoderCalls as at-encoder
use Rattle.state.specs.DecoderState.{decoder_of}
use Rattle.state.specs.EncoderState.{encoder_of}
use Rattle.state.specs.Forms.{forms_decoder, forms_encoder}
use Rattle.parts.specs.Turn.{part_turn}
use Rattle.reply.specs.Result.{Result}
use Rattle.link.specs.Calls.{DecoderCall, decoder_lent, EncoderCall, encoder_lent}
use Rattle.link.specs.Calls as calls
use Rattle.integers.specs.declared.answer.Refusal.{Refusal}

-- ---- the calls whose bytes the reading refuses
abbrev pub decoder_unread : Refusal → at-decoder.DecoderCall
decoder_unread why = at-decoder.unread (number_of why)

abbrev pub encoder_unread : Refusal → at-encoder.EncoderCall
encoder_unread why = at-encoder.unread (number_of why)

-- ---- the model's call. 11 comes before the reading of a block or of a list.
abbrev pub read_block_call : ℕ → ℕ → ℕ → BlockRead → at-decoder.DecoderCall
read_block_call stream part room (blocks.BlockRead.block rs) = at-decoder.block stream part rs room
read_block_call stream part room (blocks.BlockRead.refused why) = decoder_unread why

unfoldable pub decoder_call_of : Decoder → DecoderCall → at-decoder.DecoderCall
decoder_call_of D (calls.DecoderCall.read s) =
    on_read decoder_unread (read_for_decoder s) (λ p taken. at-decoder.read (instruction_of s p) taken)
decoder_call_of D (calls.DecoderCall.block stream part s out) =
    pick (part_turn D.finished stream (part_of part)) (read_block_call stream part (length out) (read_block s)) (at-decoder.unread out_of_turn)
decoder_call_of D (calls.DecoderCall.close k stream) = at-decoder.close k stream
decoder_call_of D (calls.DecoderCall.collect out) = at-decoder.collect (length out)
decoder_call_of D (calls.DecoderCall.hold index) = at-decoder.hold index

abbrev pub read_list_call : ℕ → ℕ → ℕ → FieldListRead → at-encoder.EncoderCall
read_list_call stream part room (lists.FieldListRead.list fs) = at-encoder.block stream part fs room
read_list_call stream part room (lists.FieldListRead.refused why) = encoder_unread why

abbrev pub acknowledged_call : InstructionPlace → ℕ → at-encoder.EncoderCall
acknowledged_call (Insert i name value) taken = at-encoder.unread 5
acknowledged_call (Delete i first last) taken = at-encoder.unread 5
acknowledged_call (Acknowledge i) taken = at-encoder.acknowledged i.value taken

unfoldable pub encoder_call_of : Encoder → EncoderCall → at-encoder.EncoderCall
encoder_call_of E (calls.EncoderCall.insert name value out) = at-encoder.insert name value (length out)
encoder_call_of E (calls.EncoderCall.delete index out) = at-encoder.delete index (length out)
encoder_call_of E (calls.EncoderCall.block stream part s out) =
    pick (part_turn E.written stream (part_of part)) (read_list_call stream part (length out) (lists.read_field_list s)) (at-encoder.unread out_of_turn)
encoder_call_of E (calls.EncoderCall.acknowledge s) = on_read encoder_unread (read_for_encoder s) acknowledged_call

-- ---- memory that forms a state, of bytes, and the state that it stands for
pub record StandsDecoder (m : List ℕ) (D : Decoder) : Type 0 where
  pub small : Small m
  pub forms : forms_decoder m ≡ true
  pub state : decoder_of m ≡ D

pub record StandsEncoder (m : List ℕ) (E : Encoder) : Type 0 where
  pub small : Small m
  pub forms : forms_encoder m ≡ true
  pub state : encoder_of m ≡ E

-- ---- what a call leaves is what the model's call gives
pub record LiftedDecoder (D : Decoder) (c : DecoderCall) (r : Result) : Type 0 where
  pub answer : r.answer ≡ (at-decoder.decoder_call D (decoder_call_of D c)).answer
  pub stands : StandsDecoder r.memory (at-decoder.decoder_call D (decoder_call_of D c)).state
  pub output : r.output ≡ overlay (decoder_lent c) 0 (output_bytes (at-decoder.decoder_call D (decoder_call_of D c)).output)

pub record LiftedEncoder (E : Encoder) (c : EncoderCall) (r : Result) : Type 0 where
  pub answer : r.answer ≡ (at-encoder.encoder_call E (encoder_call_of E c)).answer
  pub stands : StandsEncoder r.memory (at-encoder.encoder_call E (encoder_call_of E c)).state
  pub output : r.output ≡ overlay (encoder_lent c) 0 (output_bytes (at-encoder.encoder_call E (encoder_call_of E c)).output)
