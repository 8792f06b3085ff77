-- The encoder's calls, all but start.
use Rattle.std.specs.Prelude.{ℕ, List, [], ◌∷◌}
use Rattle.fields.specs.Form.{Field}
use Rattle.model.specs.Outcome.{Outcome, refuse}
use Rattle.model.specs.Encoder.{Encoder, insert_entry, delete_sent, encode_block, read_ack}

-- insert: name, value, room. delete: index, room. block: stream, part number, fields, room. acknowledged: index, bytes taken.
-- `unread` is a call whose bytes the reading refuses, with that number.
pub data EncoderCall : Type 0 where
  insert : List ℕ → List ℕ → ℕ → EncoderCall
  delete : ℕ → ℕ → EncoderCall
  block : ℕ → ℕ → List Field → ℕ → EncoderCall
  acknowledged : ℕ → ℕ → EncoderCall
  unread : ℕ → EncoderCall

unfoldable pub encoder_call : Encoder → EncoderCall → Outcome Encoder
encoder_call E (insert name value room) = insert_entry E name value room
encoder_call E (delete i room) = delete_sent E i room
encoder_call E (block s part fs room) = encode_block E s part fs room
encoder_call E (acknowledged i taken) = read_ack E i taken
encoder_call E (unread number) = refuse E number

-- the state after a list of calls
unfoldable pub after_encoder : Encoder → List EncoderCall → Encoder
after_encoder E [] = E
after_encoder E (c ∷ cs) = after_encoder (encoder_call E c).state cs
