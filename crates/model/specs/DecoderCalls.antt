-- The decoder's calls, all but start.
use Rattle.std.specs.Prelude.{ℕ, List, [], ◌∷◌}
use Rattle.instructions.specs.Instruction.{Instruction}
use Rattle.blocks.specs.Representation.{Representation}
use Rattle.model.specs.Parts.{Closing}
use Rattle.model.specs.Outcome.{Outcome, refuse}
use Rattle.model.specs.Decoder.{Decoder, read_instruction, decode_block, close_parts, collect_entry, enquire_hold}

-- read: an instruction, bytes taken. block: stream, part number, representations, room. close: which closing, stream. collect: room. hold: index.
-- `unread` is a call whose bytes the reading refuses, with that number.
pub data DecoderCall : Type 0 where
  read : Instruction → ℕ → DecoderCall
  block : ℕ → ℕ → List Representation → ℕ → DecoderCall
  close : Closing → ℕ → DecoderCall
  collect : ℕ → DecoderCall
  hold : ℕ → DecoderCall
  unread : ℕ → DecoderCall

unfoldable pub decoder_call : Decoder → DecoderCall → Outcome Decoder
decoder_call D (read i taken) = read_instruction D i taken
decoder_call D (block s part rs room) = decode_block D s part rs room
decoder_call D (close k s) = close_parts D k s
decoder_call D (collect room) = collect_entry D room
decoder_call D (hold i) = enquire_hold D i
decoder_call D (unread number) = refuse D number

-- the state after a list of calls
unfoldable pub after_decoder : Decoder → List DecoderCall → Decoder
after_decoder D [] = D
after_decoder D (c ∷ cs) = after_decoder (decoder_call D c).state cs
