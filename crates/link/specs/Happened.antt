-- What happened at each end, told by calls, bytes and answers: one definition for each end, from which the claims fold what they need
-- (model/specs/Happened.antt: held or empty, the deletion, the entry, the sizes). And what is ready, told by an answer.
use Rattle.std.specs.Prelude.{◌≡◌, ℕ, List, [], ◌∷◌, ◌++◌, eqb}
use Rattle.memory.specs.Choice.{pick}
use Rattle.wire.specs.Name.{literal}
use Rattle.instructions.specs.Reading.{read_for_decoder, read_for_encoder, instruction_of}
use Rattle.model.specs.Happened.{Happened, inserted, done_by}
use Rattle.reply.specs.Result.{Result}
use Rattle.link.specs.Calls.{DecoderCall, decoder_result, EncoderCall, encoder_result, done_bytes}
use Rattle.link.specs.Calls as calls
use Rattle.integers.specs.Answers.{on_read}

-- ---- the management instruction, or the acknowledgement, at the front of these bytes
abbrev pub managed : List ℕ → List Happened
managed s = on_read (λ why. []) (read_for_decoder s) (λ p taken. done_by (instruction_of s p))

abbrev pub acknowledged : List ℕ → List Happened
acknowledged s = on_read (λ why. []) (read_for_encoder s) (λ p taken. done_by (instruction_of s p))

-- ---- the decoder: an instruction was read and answered "done", a collect wrote an acknowledgement
unfoldable pub happened : DecoderCall → Result → List Happened
happened (calls.DecoderCall.read s) r = pick (eqb r.answer.number 0) (managed s) []
happened (calls.DecoderCall.block stream part s out) r = []
happened (calls.DecoderCall.close k stream) r = []
happened (calls.DecoderCall.collect out) r = acknowledged (done_bytes r)
happened (calls.DecoderCall.hold index) r = []

-- in a list of calls, from this memory on
unfoldable pub history : List ℕ → List DecoderCall → List Happened
history m [] = []
history m (c ∷ cs) = happened c (decoder_result m c) ++ history (decoder_result m c).memory cs

-- "It is ready when every part its two lists name is finished": a hold enquiry about it is answered "done" and first tells 0
abbrev pub Ready : List ℕ → ℕ → Type 0
Ready m i =
    ((decoder_result m (calls.DecoderCall.hold i)).answer.number ≡ 0) × ((decoder_result m (calls.DecoderCall.hold i)).answer.first ≡ 0)

-- ---- the encoder: an insert was answered "done" and told its index, a delete was written, an acknowledgement was read and answered "done"
unfoldable pub happened_there : EncoderCall → Result → List Happened
happened_there (calls.EncoderCall.insert name value out) r = pick (eqb r.answer.number 0) (inserted r.answer.second (literal name) value ∷ []) []
happened_there (calls.EncoderCall.delete index out) r = managed (done_bytes r)
happened_there (calls.EncoderCall.block stream part s out) r = []
happened_there (calls.EncoderCall.acknowledge s) r = pick (eqb r.answer.number 0) (acknowledged s) []

unfoldable pub history_there : List ℕ → List EncoderCall → List Happened
history_there m [] = []
history_there m (c ∷ cs) = happened_there c (encoder_result m c) ++ history_there (encoder_result m c).memory cs
