-- Calls on memory and bytes, one after another: each gets the memory that the call before it at its end left.
use Rattle.std.specs.Prelude.{ℕ, Bool, List, [], ◌∷◌, take, eqb}
use Rattle.memory.specs.Choice.{pick}
use Rattle.memory.specs.Bytes.{Small}
use Rattle.model.specs.Parts.{Closing, over, ended}
use Rattle.state.specs.Layout.{decoder_length, encoder_length}
use Rattle.state.specs.Forms.{forms_decoder, forms_encoder}
use Rattle.reply.specs.Result.{Result}
use Rattle.decoder.specs.Calls.{read_call, over_call, ended_call, hold_call, collect_call}
use Rattle.decoder.specs.Calls as decoder
use Rattle.encoder.specs.Calls.{insert_call, delete_call, acknowledge_call}
use Rattle.encoder.specs.Calls as encoder

-- a call at the decoder that is no start: the bytes given, the output lent
pub data DecoderCall : Type 0 where
  read : List ℕ → DecoderCall
  block : ℕ → ℕ → List ℕ → List ℕ → DecoderCall
  close : Closing → ℕ → DecoderCall
  collect : List ℕ → DecoderCall
  hold : ℕ → DecoderCall

-- parts of a stream closed by the host
abbrev pub close_call : List ℕ → Closing → ℕ → Result
close_call m over stream = over_call m stream
close_call m ended stream = ended_call m stream

unfoldable pub decoder_result : List ℕ → DecoderCall → Result
decoder_result m (read s) = read_call m s
decoder_result m (block stream part s out) = decoder.block_call m stream part s out
decoder_result m (close k stream) = close_call m k stream
decoder_result m (collect out) = collect_call m out
decoder_result m (hold index) = hold_call m index

-- a call at the encoder that is no start
pub data EncoderCall : Type 0 where
  insert : List ℕ → List ℕ → List ℕ → EncoderCall
  delete : ℕ → List ℕ → EncoderCall
  block : ℕ → ℕ → List ℕ → List ℕ → EncoderCall
  acknowledge : List ℕ → EncoderCall

unfoldable pub encoder_result : List ℕ → EncoderCall → Result
encoder_result m (insert name value out) = insert_call m name value out
encoder_result m (delete index out) = delete_call m index out
encoder_result m (block stream part s out) = encoder.block_call m stream part s out
encoder_result m (acknowledge s) = acknowledge_call m s

-- ---- all calls of both ends, starts included
pub data Call : Type 0 where
  decoder_start : ℕ → Call
  at_decoder : DecoderCall → Call
  encoder_start : ℕ → Call
  at_encoder : EncoderCall → Call

unfoldable pub result_of : List ℕ → Call → Result
result_of m (decoder_start limit) = decoder.start_call m limit
result_of m (at_decoder c) = decoder_result m c
result_of m (encoder_start limit) = encoder.start_call m limit
result_of m (at_encoder c) = encoder_result m c

-- the output lent to a call
abbrev pub decoder_lent : DecoderCall → List ℕ
decoder_lent (read s) = []
decoder_lent (block stream part s out) = out
decoder_lent (close k stream) = []
decoder_lent (collect out) = out
decoder_lent (hold index) = []

abbrev pub encoder_lent : EncoderCall → List ℕ
encoder_lent (insert name value out) = out
encoder_lent (delete index out) = out
encoder_lent (block stream part s out) = out
encoder_lent (acknowledge s) = []

abbrev pub lent : Call → List ℕ
lent (decoder_start limit) = []
lent (at_decoder c) = decoder_lent c
lent (encoder_start limit) = []
lent (at_encoder c) = encoder_lent c

-- what is given and lent are bytes
abbrev pub DecoderBytes : DecoderCall → Type 0
DecoderBytes (read s) = Small s
DecoderBytes (block stream part s out) = Small s × Small out
DecoderBytes (close k stream) = Unit {0}
DecoderBytes (collect out) = Small out
DecoderBytes (hold index) = Unit {0}

abbrev pub EncoderBytes : EncoderCall → Type 0
EncoderBytes (insert name value out) = Small name × Small value × Small out
EncoderBytes (delete index out) = Small out
EncoderBytes (block stream part s out) = Small s × Small out
EncoderBytes (acknowledge s) = Small s

abbrev pub CallBytes : Call → Type 0
CallBytes (decoder_start limit) = Unit {0}
CallBytes (at_decoder c) = DecoderBytes c
CallBytes (encoder_start limit) = Unit {0}
CallBytes (at_encoder c) = EncoderBytes c

abbrev pub AllDecoderBytes : List DecoderCall → Type 0
AllDecoderBytes [] = Unit {0}
AllDecoderBytes (c ∷ cs) = DecoderBytes c × AllDecoderBytes cs

abbrev pub AllEncoderBytes : List EncoderCall → Type 0
AllEncoderBytes [] = Unit {0}
AllEncoderBytes (c ∷ cs) = EncoderBytes c × AllEncoderBytes cs

-- the test and the length of the end that a call is made at
abbrev pub forms_at : Call → List ℕ → Bool
forms_at (decoder_start limit) = forms_decoder
forms_at (at_decoder c) = forms_decoder
forms_at (encoder_start limit) = forms_encoder
forms_at (at_encoder c) = forms_encoder

abbrev pub length_at : Call → ℕ
length_at (decoder_start limit) = decoder_length
length_at (at_decoder c) = decoder_length
length_at (encoder_start limit) = encoder_length
length_at (at_encoder c) = encoder_length

-- ---- lists of calls
unfoldable pub decoder_after : List ℕ → List DecoderCall → List ℕ
decoder_after m [] = m
decoder_after m (c ∷ cs) = decoder_after (decoder_result m c).memory cs

unfoldable pub encoder_after : List ℕ → List EncoderCall → List ℕ
encoder_after m [] = m
encoder_after m (c ∷ cs) = encoder_after (encoder_result m c).memory cs

-- ---- what a result says

-- the bytes that a call answered "done" wrote: its told count, from the front of the output
abbrev pub done_bytes : Result → List ℕ
done_bytes r = pick (eqb r.answer.number 0) (take r.answer.first r.output) []

-- "Bytes are read when a call answered "done" took them."
abbrev pub done_count : Result → ℕ
done_count r = pick (eqb r.answer.number 0) r.answer.first 0
