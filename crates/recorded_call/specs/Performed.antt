-- What a recorded call answers and leaves: the definition of its call (decoder/specs/Calls, encoder/specs/Calls) on the memory of its end.
use Rattle.std.specs.Prelude.{ℕ, List, take, drop}
use Rattle.integers.specs.Answers.{Answer}
use Rattle.reply.specs.Result.{Result}
use Rattle.decoder.specs.Calls as decoding
use Rattle.encoder.specs.Calls as encoding
use Rattle.recording.specs.declared.Call.{Call}
use Rattle.recording.specs.declared.Kind.{Kind}
use Rattle.recording.specs.declared.Kind.TheVariants.{DecoderStart, DecoderRead, DecoderBlock, DecoderOver, DecoderEnded, DecoderCollect, DecoderHold, EncoderStart, EncoderInsert, EncoderDelete, EncoderBlock, EncoderAcknowledge}

-- the answer, both memories and the output afterwards
pub record Performed : Type 0 where
  pub answer : Answer
  pub decoder : List ℕ
  pub encoder : List ℕ
  pub output : List ℕ

-- what a call with an output leaves, and one with none, at the decoder and at the encoder
abbrev pub at_decoder : List ℕ → Result → Performed
at_decoder e r = record { answer = r.answer; decoder = r.memory; encoder = e; output = r.output }

abbrev pub only_decoder : List ℕ → List ℕ → Result → Performed
only_decoder e out r = record { answer = r.answer; decoder = r.memory; encoder = e; output = out }

abbrev pub at_encoder : List ℕ → Result → Performed
at_encoder d r = record { answer = r.answer; decoder = d; encoder = r.memory; output = r.output }

abbrev pub only_encoder : List ℕ → List ℕ → Result → Performed
only_encoder d out r = record { answer = r.answer; decoder = d; encoder = r.memory; output = out }

-- the calls by kind: their two numbers, their bytes (a name and a value, for an insert), both memories and the lent output
unfoldable pub performed_as : Kind → ℕ → ℕ → List ℕ → ℕ → List ℕ → List ℕ → List ℕ → Performed
performed_as DecoderStart n k s at d e out = only_decoder e out (decoding.start_call d n)
performed_as DecoderRead n k s at d e out = only_decoder e out (decoding.read_call d s)
performed_as DecoderBlock n k s at d e out = at_decoder e (decoding.block_call d n k s out)
performed_as DecoderOver n k s at d e out = only_decoder e out (decoding.over_call d n)
performed_as DecoderEnded n k s at d e out = only_decoder e out (decoding.ended_call d n)
performed_as DecoderCollect n k s at d e out = at_decoder e (decoding.collect_call d out)
performed_as DecoderHold n k s at d e out = record { answer = (decoding.hold_call d n).answer; decoder = d; encoder = e; output = out }
performed_as EncoderStart n k s at d e out = only_encoder d out (encoding.start_call e n)
performed_as EncoderInsert n k s at d e out = at_encoder d (encoding.insert_call e (take at s) (drop at s) out)
performed_as EncoderDelete n k s at d e out = at_encoder d (encoding.delete_call e n out)
performed_as EncoderBlock n k s at d e out = at_encoder d (encoding.block_call e n k s out)
performed_as EncoderAcknowledge n k s at d e out = only_encoder d out (encoding.acknowledge_call e s)

abbrev pub performed : Call → List ℕ → List ℕ → List ℕ → List ℕ → Performed
performed c bytes d e out = performed_as c.kind c.first c.second (take c.end bytes) c.split d e out
