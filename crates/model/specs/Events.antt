-- Both ends of a link: lists of calls, and what happened in them.
use Rattle.std.specs.Prelude.{ℕ, zero, suc, List, [], ◌∷◌, eqb}
use Rattle.std.proofs.Math.Option.{Option, none, some}
use Rattle.memory.specs.Choice.{pick}
use Rattle.integers.specs.Answers.{Answer}
use Rattle.fields.specs.Form.{Field}
use Rattle.instructions.specs.Instruction.{Instruction, insert, delete, acknowledge}
use Rattle.blocks.specs.Representation.{Representation}
use Rattle.model.specs.Outcome.{Output, nothing, instruction, block, fields, Outcome}
use Rattle.model.specs.Parts.{Closing}
use Rattle.model.specs.Decoder.{Decoder, start_decoder}
use Rattle.model.specs.DecoderCalls.{DecoderCall, decoder_call}
use Rattle.model.specs.DecoderCalls as at-decoder
use Rattle.model.specs.Encoder.{Encoder, start_encoder}
use Rattle.model.specs.EncoderCalls.{EncoderCall, encoder_call}
use Rattle.model.specs.EncoderCalls as at-encoder

-- the element at a place, from 0
unfoldable pub at : {X : Type 0} → ℕ → List X → Option X
at n [] = none
at zero (x ∷ l) = some x
at (suc n) (x ∷ l) = at n l

-- a call at either end, or a stream that is reset, which calls neither. An offered block says which it is of those that the encoder wrote: the n-th;
-- the decoder's other calls have no use for the number.
pub data LinkCall : Type 0 where
  encoder : EncoderCall → LinkCall
  decoder : ℕ → DecoderCall → LinkCall
  reset : ℕ → LinkCall

-- what happened in a call
pub data Event : Type 0 where
  -- the encoder wrote an insert or a delete
  said : Instruction → Event
  -- the encoder wrote a block: stream, part number, the fields put in, what was written
  wrote : ℕ → ℕ → List Field → List Representation → Event
  -- the encoder was given an acknowledgement: its index, the answer's number
  acknowledged : ℕ → ℕ → Event
  -- the decoder was given an instruction: the answer's number
  heard : Instruction → ℕ → Event
  -- the decoder was offered the n-th block written: stream, part number, what it says, the room lent, what was answered and written
  offered : ℕ → ℕ → ℕ → List Representation → ℕ → Answer → Output → Event
  -- a collect freed the entry with this index and wrote its acknowledgement
  freed : ℕ → Event
  -- the host closed parts of a stream, and was answered "done"
  told : Closing → ℕ → Event
  reset : ℕ → Event
  -- a call that was refused, or that none of the rules speaks of
  quiet : Event

pub record Ends : Type 0 where
  pub encoder : Encoder
  pub decoder : Decoder

pub record Turn : Type 0 where
  pub ends : Ends
  pub event : Event

-- ---- the event of a call, from its outcome
unfoldable pub said_by : Output → Event
said_by nothing = quiet
said_by (instruction i) = said i
said_by (block rs) = quiet
said_by (fields fs) = quiet

unfoldable pub wrote_by : ℕ → ℕ → List Field → Output → Event
wrote_by s part fs nothing = quiet
wrote_by s part fs (instruction i) = quiet
wrote_by s part fs (block rs) = wrote s part fs rs
wrote_by s part fs (fields gs) = quiet

unfoldable pub encoder_event : EncoderCall → Outcome Encoder → Event
encoder_event (at-encoder.insert name value room) o = said_by o.output
encoder_event (at-encoder.delete i room) o = said_by o.output
encoder_event (at-encoder.block s part fs room) o = wrote_by s part fs o.output
encoder_event (at-encoder.acknowledged i taken) o = acknowledged i o.answer.number
encoder_event (at-encoder.unread number) o = quiet

unfoldable pub freed_by : Output → Event
freed_by nothing = quiet
freed_by (instruction (insert i name value)) = quiet
freed_by (instruction (delete i first last)) = quiet
freed_by (instruction (acknowledge i)) = freed i
freed_by (block rs) = quiet
freed_by (fields fs) = quiet

unfoldable pub told_by : Closing → ℕ → Answer → Event
told_by k s a = pick (eqb a.number 0) (told k s) quiet

unfoldable pub decoder_event : ℕ → DecoderCall → Outcome Decoder → Event
decoder_event n (at-decoder.read i taken) o = heard i o.answer.number
decoder_event n (at-decoder.block s part rs room) o = offered n s part rs room o.answer o.output
decoder_event n (at-decoder.close k s) o = told_by k s o.answer
decoder_event n (at-decoder.collect room) o = freed_by o.output
decoder_event n (at-decoder.hold i) o = quiet
decoder_event n (at-decoder.unread number) o = quiet

abbrev pub at_encoder : Ends → Outcome Encoder → Event → Turn
at_encoder S o e = record { ends = record { encoder = o.state; decoder = S.decoder }; event = e }

abbrev pub at_decoder : Ends → Outcome Decoder → Event → Turn
at_decoder S o e = record { ends = record { encoder = S.encoder; decoder = o.state }; event = e }

-- ---- one call
unfoldable pub turn : Ends → LinkCall → Turn
turn S (encoder c) = let o = encoder_call S.encoder c in at_encoder S o (encoder_event c o)
turn S (decoder n c) = let o = decoder_call S.decoder c in at_decoder S o (decoder_event n c o)
turn S (reset s) = record { ends = S; event = reset s }

-- ---- a list of calls: "each call gets the memory that the call before it at its end left"
unfoldable pub events : Ends → List LinkCall → List Event
events S [] = []
events S (c ∷ cs) = (turn S c).event ∷ events (turn S c).ends cs

unfoldable pub ends_after : Ends → List LinkCall → Ends
ends_after S [] = S
ends_after S (c ∷ cs) = ends_after (turn S c).ends cs

-- "Both ends start fresh"
unfoldable pub fresh : ℕ → ℕ → Ends
fresh encoder_limit decoder_limit = record { encoder = start_encoder encoder_limit; decoder = start_decoder decoder_limit }
