-- "The yard manager asks whether two reports may be handled in either order" (request 8): which two calls of the decoder may change places, that is, commute;
-- and that a closing is idempotent. On every memory, one that forms no state too, whatever is in turn and whatever room is lent: refusals and waiting are in it.
use Rattle.std.specs.Prelude.{◌≡◌, ℕ, Bool, true, false, not, List, [], length, eqb}
use Rattle.memory.specs.Bytes.{Small}
use Rattle.model.specs.Parts.{Closing}
use Rattle.reply.specs.Result.{Result}
use Rattle.link.specs.Calls.{DecoderCall, read, block, close, collect, hold, decoder_result, AllDecoderBytes, decoder_after, done_bytes}

-- a call answers the same, tells the same and leaves the same bytes in its own output
pub record Alike (r q : Result) : Type 0 where
  pub answer : r.answer ≡ q.answer
  pub output : r.output ≡ q.output

-- c and d commute from the memory m: c and then d, or d and then c. Each call, with the same bytes and output lent either way, is alike both times, and the
-- memory after both is the same, byte for byte.
pub record EitherWay (m : List ℕ) (c d : DecoderCall) : Type 0 where
  pub one : Alike (decoder_result m c) (decoder_result (decoder_result m d).memory c)
  pub other : Alike (decoder_result (decoder_result m c).memory d) (decoder_result m d)
  pub memory : (decoder_result (decoder_result m c).memory d).memory ≡ (decoder_result (decoder_result m d).memory c).memory

-- another stream: by the numbers given, those above 4,095 too
unfoldable pub other_stream : ℕ → ℕ → Bool
other_stream s t = not (eqb s t)

-- "two blocks on different streams, or a block and an "ended" for another stream"
unfoldable pub apart_from_block : ℕ → DecoderCall → Bool
apart_from_block s (read b) = false
apart_from_block s (block t part b out) = other_stream s t
apart_from_block s (close k t) = other_stream s t
apart_from_block s (collect out) = false
apart_from_block s (hold index) = false

-- "or two "ended" calls on any streams"; what is asked of "ended" holds of "over" too
unfoldable pub apart_from_closing : ℕ → DecoderCall → Bool
apart_from_closing s (read b) = false
apart_from_closing s (block t part b out) = other_stream s t
apart_from_closing s (close k t) = true
apart_from_closing s (collect out) = false
apart_from_closing s (hold index) = false

-- the pairs that may change places. "Collect, insert and delete are not in this law", nor is the enquiry, which tells what "ended" changed.
unfoldable pub apart : DecoderCall → DecoderCall → Bool
apart (read s) d = false
apart (block s part b out) d = apart_from_block s d
apart (close k s) d = apart_from_closing s d
apart (collect out) d = false
apart (hold index) d = false

-- the same answer, the same memory and the same bytes written, whatever stood in the output before
pub record SameWritten (r q : Result) : Type 0 where
  pub answer : r.answer ≡ q.answer
  pub memory : r.memory ≡ q.memory
  pub written : done_bytes r ≡ done_bytes q

pub record OrderClaim : Type 0 where
  -- two such calls commute
  pub either_way : (m : List ℕ) → Small m → (c d : DecoderCall) → apart c d ≡ true → EitherWay m c d
  -- "each with the same bytes and room": room is a length, so of the output lent to a block its length alone counts
  pub room_alone : (m : List ℕ) → Small m → (s part : ℕ) (b out lent : List ℕ) → length out ≡ length lent
      → SameWritten (decoder_result m (block s part b out)) (decoder_result m (block s part b lent))
  -- "and a repeated "ended" changes nothing": a closing is idempotent, whatever calls but a start come between. The same answer, and every byte of memory as
  -- it was before the repeat; "over" likewise.
  pub again : (m : List ℕ) → Small m → (k : Closing) (s : ℕ) (cs : List DecoderCall) → AllDecoderBytes cs
      → let r = decoder_result m (close k s) in
      let l = decoder_after r.memory cs in
      decoder_result l (close k s) ≡ record { answer = r.answer; memory = l; output = [] }
