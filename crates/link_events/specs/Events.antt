-- What becomes of a call, and whether a refusal breaks the link (docs/RECORDINGS.md, "As the calls are made" and "Hours").
use Rattle.std.specs.Prelude.{Bool, true, false, [], ◌∷◌, ℕ, eqb, ltb, Option, Some, None}
use Rattle.memory.specs.Choice.{pick}
use Rattle.integers.specs.Answers.{among}
use Rattle.recording.specs.declared.Kind.{Kind}
use Rattle.recording.specs.declared.Kind.TheVariants.{DecoderStart, DecoderRead, DecoderBlock, DecoderOver, DecoderEnded, DecoderCollect, DecoderHold, EncoderStart, EncoderInsert, EncoderDelete, EncoderBlock, EncoderAcknowledge}
use Rattle.link_events.specs.declared.events.Side.{Side}
use Rattle.link_events.specs.declared.events.Side.TheVariants.{Decoder, Encoder}
use Rattle.link_events.specs.declared.events.Role.{Role}
use Rattle.link_events.specs.declared.events.Role.TheVariants.{Start, Read, Other}
use Rattle.link_events.specs.declared.events.Event.{Event}
use Rattle.link_events.specs.declared.events.Event.TheVariants.{Started, LeftOver, CutShort, Refused}

-- the end whose call it is
abbrev pub side_of : Kind → Side
side_of DecoderStart = Decoder
side_of DecoderRead = Decoder
side_of DecoderBlock = Decoder
side_of DecoderOver = Decoder
side_of DecoderEnded = Decoder
side_of DecoderCollect = Decoder
side_of DecoderHold = Decoder
side_of EncoderStart = Encoder
side_of EncoderInsert = Encoder
side_of EncoderDelete = Encoder
side_of EncoderBlock = Encoder
side_of EncoderAcknowledge = Encoder

-- starts; `decoder read` and `encoder acknowledge`; all others
abbrev pub role_of : Kind → Role
role_of DecoderStart = Start
role_of DecoderRead = Read
role_of DecoderBlock = Other
role_of DecoderOver = Other
role_of DecoderEnded = Other
role_of DecoderCollect = Other
role_of DecoderHold = Other
role_of EncoderStart = Start
role_of EncoderInsert = Other
role_of EncoderDelete = Other
role_of EncoderBlock = Other
role_of EncoderAcknowledge = Read

-- "a `decoder read` or `encoder acknowledge` that is done takes one instruction; where bytes follow it in the line": left over
abbrev pub done_event : Role → ℕ → Option Event
done_event Start left = Some Started
done_event Read left = pick (ltb 0 left) (Some (LeftOver left)) None
done_event Other left = None

-- "A `decoder read` or `encoder acknowledge` answered 2": cut short. "Another call that is refused"
abbrev pub refused_event : Role → ℕ → Event
refused_event Start answer = Refused
refused_event Read answer = pick (eqb answer 2) CutShort Refused
refused_event Other answer = Refused

abbrev pub event_of : Role → ℕ → ℕ → Option Event
event_of role answer left = pick (eqb answer 0) (done_event role left) (Some (refused_event role answer))

-- "A refused start, a `decoder read` or `encoder acknowledge` refused with another number than 2 .. break the link at their end"
abbrev pub refusal_breaks : Role → Bool
refusal_breaks Start = true
refusal_breaks Read = true
refusal_breaks Other = false

-- of a block offered to the decoder: "refused as faulty, with 2, 3, 5, 13, 18 or 19"
abbrev pub is_faulty : ℕ → Bool
is_faulty answer = among (2 ∷ 3 ∷ 5 ∷ 13 ∷ 18 ∷ 19 ∷ []) answer
