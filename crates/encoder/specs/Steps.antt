-- The parts that the calls are made of.
use Rattle.std.proofs.Math.Option.{some}
use Rattle.std.specs.Prelude.{List, [], ℕ, length}
use Rattle.model.specs.Encoder.{delete_found, read_ack}
use Rattle.state.specs.EncoderState.{sent_at, encoder_of, overlay_encoder}
use Rattle.reply.specs.Result.{Result, stepped}

-- a delete of the entry in a row
abbrev pub found_delete : List ℕ → ℕ → List ℕ → Result
found_delete m place out = stepped overlay_encoder m out (delete_found (encoder_of m) (length out) (some (sent_at m place)))

-- the acknowledgement of an index
abbrev pub freed : List ℕ → ℕ → ℕ → Result
freed m index taken = stepped overlay_encoder m [] (read_ack (encoder_of m) index taken)
