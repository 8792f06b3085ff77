-- Which calls have an output (docs/RECORDINGS.md): a decoder's block and collect, and what an encoder writes.
use Rattle.std.specs.Prelude.{Bool, true, false}
use Rattle.recording.specs.declared.Kind.{Kind}
use Rattle.recording.specs.declared.Kind.TheVariants.{DecoderStart, DecoderRead, DecoderBlock, DecoderOver, DecoderEnded, DecoderCollect, DecoderHold, EncoderStart, EncoderInsert, EncoderDelete, EncoderBlock, EncoderAcknowledge}

abbrev pub has_output : Kind → Bool
has_output DecoderStart = false
has_output DecoderRead = false
has_output DecoderBlock = true
has_output DecoderOver = false
has_output DecoderEnded = false
has_output DecoderCollect = true
has_output DecoderHold = false
has_output EncoderStart = false
has_output EncoderInsert = true
has_output EncoderDelete = true
has_output EncoderBlock = true
has_output EncoderAcknowledge = false
