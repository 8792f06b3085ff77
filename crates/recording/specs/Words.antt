-- What a call is about, and why a line is no call, in words.
use Rattle.std.specs.Prelude.{ℕ, List}
use lib.Chars.{codes}
use Rattle.recording.specs.declared.Kind.{Kind}
use Rattle.recording.specs.declared.Kind.TheVariants.{DecoderStart, DecoderRead, DecoderBlock, DecoderOver, DecoderEnded, DecoderCollect, DecoderHold, EncoderStart, EncoderInsert, EncoderDelete, EncoderBlock, EncoderAcknowledge}
use Rattle.recording.specs.declared.Fault.{Fault}
use Rattle.recording.specs.declared.Fault.TheVariants.{NoSuchCall, NoNumber, NoBytes, BadRoom, MoreWords, TooLong}

abbrev pub kind_text : Kind → List ℕ
kind_text DecoderStart = codes "decoder start"
kind_text DecoderRead = codes "management"
kind_text DecoderBlock = codes "block"
kind_text DecoderOver = codes "end of message"
kind_text DecoderEnded = codes "end of stream"
kind_text DecoderCollect = codes "collect"
kind_text DecoderHold = codes "hold enquiry"
kind_text EncoderStart = codes "encoder start"
kind_text EncoderInsert = codes "encoder insert"
kind_text EncoderDelete = codes "encoder delete"
kind_text EncoderBlock = codes "encoder block"
kind_text EncoderAcknowledge = codes "acknowledgement"

abbrev pub fault_text : Fault → List ℕ
fault_text NoSuchCall = codes "no such call"
fault_text NoNumber = codes "a number is missing, or is none of 0 to 2^64 - 1"
fault_text NoBytes = codes "bytes are missing, are no pairs of hexadecimal digits, or are more than 20,000"
fault_text BadRoom = codes "the room is no number of 0 to 65,536"
fault_text MoreWords = codes "more words than the call has"
fault_text TooLong = codes "longer than 65,535 characters"
