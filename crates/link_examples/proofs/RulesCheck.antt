-- The rules for the link, on bytes, as a test that computes. It walks the list of events with what the events before each one say.
-- RulesSound shows that a list that passes it keeps the rules.
use Prim.Native.Nat.{ℕ}
use mathlib.Core.Bool.{Bool, true, false, not, ◌&&◌, ◌||◌}
use mathlib.Core.List.{List, [], ◌∷◌, ◌++◌}
use lib.ListN.{length, drop}
use lib.Dec.{eqb, leb}
use Rattle.memory.specs.Compare.{same}
use Rattle.model.specs.Events.{at}
use Rattle.model.specs.Parts.{Closing, over, ended}
use Rattle.reply.specs.Result.{Result}
use Rattle.link.specs.Calls.{DecoderCall, EncoderCall}
use Rattle.link.specs.Calls as calls
use Rattle.link.specs.Claims.{Event, by_encoder, by_decoder, management_in, read_in, acknowledgements_in, acknowledged_in, Written, written_from, written_in}
use Rattle.link_examples.proofs.ListTests.{any, all_at, passes}

-- the bytes l begin with s
abbrev pub begins : List ℕ → List ℕ → Bool
begins [] l = true
begins (x ∷ s) [] = false
begins (x ∷ s) (y ∷ l) = eqb y x && begins s l

-- ---- what the events before one say

-- the call offers a block and is answered "done"
abbrev pub is_accepted : DecoderCall → Result → Bool
is_accepted (calls.DecoderCall.read s) r = false
is_accepted (calls.DecoderCall.block stream part s out) r = eqb r.answer.number 0
is_accepted (calls.DecoderCall.close k stream) r = false
is_accepted (calls.DecoderCall.collect out) r = false
is_accepted (calls.DecoderCall.hold index) r = false

-- the event offers the n-th block and answers "done"
abbrev pub is_done : ℕ → Event → Bool
is_done n (by_encoder c r) = false
is_done n (by_decoder m c r) = eqb m n && is_accepted c r
is_done n (Event.reset stream) = false

abbrev pub is_reset : ℕ → Event → Bool
is_reset t (by_encoder c r) = false
is_reset t (by_decoder m c r) = false
is_reset t (Event.reset stream) = eqb t stream

-- the unread bytes of both directions, the blocks written, those answered "done", the streams that were reset
pub record Past : Type 0 where
  pub management : List ℕ
  pub acknowledgements : List ℕ
  pub written : List Written
  pub accepted : ℕ → Bool
  pub reset : ℕ → Bool

unfoldable pub past : List Event → Past
past xs = record {
  management = drop (read_in xs) (management_in xs);
  acknowledgements = drop (acknowledged_in xs) (acknowledgements_in xs);
  written = written_in xs;
  accepted = λ n. any (is_done n) xs;
  reset = λ t. any (is_reset t) xs;
}

-- ---- the test

-- offered as it was written, with enough room
abbrev pub as_written : ℕ → ℕ → List ℕ → List ℕ → Written → Bool
as_written stream part s out w =
    eqb w.stream stream && eqb w.part part && same w.bytes s && leb (length w.list) (length out)

-- the n-th block is of another stream, or was answered "done"
abbrev pub other_or_accepted : Past → ℕ → ℕ → Written → Bool
other_or_accepted P stream n w = not (eqb w.stream stream) || P.accepted n

-- or it is a trailer
abbrev pub trailer_or_accepted : Past → ℕ → ℕ → Written → Bool
trailer_or_accepted P stream n w = not (eqb w.part 0) || other_or_accepted P stream n w

-- what is asked of every block ever written before parts of the stream are closed
abbrev pub before_closing : Closing → Past → ℕ → ℕ → Written → Bool
before_closing over P stream n w = trailer_or_accepted P stream n w
before_closing ended P stream n w = other_or_accepted P stream n w

-- one event, after a past, in a list in which these blocks are ever written
abbrev pub keeps_write : Past → EncoderCall → Bool
keeps_write P (calls.EncoderCall.insert name value out) = true
keeps_write P (calls.EncoderCall.delete index out) = true
keeps_write P (calls.EncoderCall.block stream part s out) = true
keeps_write P (calls.EncoderCall.acknowledge s) = begins s P.acknowledgements

abbrev pub keeps_read : List Written → Past → ℕ → DecoderCall → Result → Bool
keeps_read ever P n (calls.DecoderCall.read s) r = begins s P.management
keeps_read ever P n (calls.DecoderCall.block stream part s out) r =
    passes (as_written stream part s out) (at n P.written) && not (P.accepted n)
    && (not (eqb part 1) || all_at (trailer_or_accepted P stream) ever) && not (P.reset stream)
keeps_read ever P n (calls.DecoderCall.close k stream) r =
    not (eqb r.answer.number 0) || (all_at (before_closing k P stream) ever || P.reset stream)
keeps_read ever P n (calls.DecoderCall.collect out) r = true
keeps_read ever P n (calls.DecoderCall.hold index) r = true

abbrev pub keeps_event : List Written → Past → Event → Bool
keeps_event ever P (by_encoder c r) = keeps_write P c
keeps_event ever P (by_decoder n c r) = keeps_read ever P n c r
keeps_event ever P (Event.reset stream) = true

-- events after others; `ever` says of the events before one which blocks it is judged by
abbrev pub keeps_from : (List Event → List Written) → List Event → List Event → Bool
keeps_from ever before [] = true
keeps_from ever before (e ∷ rest) = keeps_event (ever before) (past before) e && keeps_from ever (before ++ (e ∷ [])) rest

-- `unfolding keeps` unfolds all that the test computes with
unfoldable pub keeps : List Event → Bool
unfolding same at management_in read_in acknowledgements_in acknowledged_in written_from past
keeps es = keeps_from (λ xs. written_in es) [] es

-- the same with "ever" read as "so far": each event is judged by the blocks written before it
unfoldable pub keeps_so_far : List Event → Bool
unfolding same at management_in read_in acknowledgements_in acknowledged_in written_from past
keeps_so_far es = keeps_from (λ xs. written_in xs) [] es
