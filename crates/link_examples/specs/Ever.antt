-- Why the rules for the link say "ever": a list of calls that keeps them as long as only blocks written so far count, and that demand 3 does not serve. To be
-- read after Examples.
use Rattle.std.specs.Prelude.{◌≡◌, ◌⊎◌, ℕ, ◌≤◌, length}
use Rattle.std.proofs.Math.Option.{some}
use mathlib.Core.List.{List, [], ◌∷◌, ◌++◌, map, Memᴰ}
use Rattle.integers.specs.Answers.{done, refusal, out_of_turn}
use Rattle.statics.specs.Ascii.{bytes}
use Rattle.model.specs.Events.{at}
use Rattle.model.specs.Parts.{Closing, over, ended}
use Rattle.reply.specs.Result.{Result}
use Rattle.link.specs.Calls.{DecoderCall, close, EncoderCall, insert, delete, acknowledge}
use Rattle.link.specs.Claims.{LinkCall, at_encoder, at_decoder, Ends, Event, by_encoder, by_decoder, events, AllLinkBytes, Opening, Started}
use Rattle.link.specs.Claims.{management_in, read_in, acknowledgements_in, acknowledged_in, MayRead, Written, written_in, Accepted, NontrailersDone, Rules, Served}
use Rattle.link_examples.specs.Examples.{Shown, call, shown, read, offer, collect, calls_of, room, h_is_9, insert_9, by_62, delete_9, acknowledge_62, largest}

-- ---- the rules of link/specs/Claims.antt, with one change: where `trailers`, `overs` and `ends` speak of the blocks written in the whole list es, these speak of
-- those written in xs, before the event
pub record RulesSoFar (es : List Event) : Type 0 where
  pub management : (xs ys : List Event) (n : ℕ) (s : List ℕ) (r : Result) → es ≡ xs ++ (by_decoder n (DecoderCall.read s) r ∷ ys)
      → MayRead (management_in xs) (read_in xs) s
  pub acknowledgements : (xs ys : List Event) (s : List ℕ) (r : Result) → es ≡ xs ++ (by_encoder (acknowledge s) r ∷ ys)
      → MayRead (acknowledgements_in xs) (acknowledged_in xs) s
  pub unchanged : (xs ys : List Event) (n s part : ℕ) (b out : List ℕ) (r : Result) → es ≡ xs ++ (by_decoder n (DecoderCall.block s part b out) r ∷ ys)
      → (w : Written) × (at n (written_in xs) ≡ some w) × (w.stream ≡ s) × (w.part ≡ part) × (w.bytes ≡ b) × (length w.list ≤ length out)
  pub once : (xs ys : List Event) (n s part : ℕ) (b out : List ℕ) (r : Result) → es ≡ xs ++ (by_decoder n (DecoderCall.block s part b out) r ∷ ys)
      → Accepted n xs → ⊥
  pub trailers : (xs ys : List Event) (n s : ℕ) (b out : List ℕ) (r : Result) → es ≡ xs ++ (by_decoder n (DecoderCall.block s 1 b out) r ∷ ys)
      → NontrailersDone xs s xs
  pub overs : (xs ys : List Event) (n s : ℕ) (r : Result) → es ≡ xs ++ (by_decoder n (close over s) r ∷ ys) → r.answer.number ≡ 0
      → NontrailersDone xs s xs ⊎ Memᴰ (Event.reset s) xs
  pub ends : (xs ys : List Event) (n s : ℕ) (r : Result) → es ≡ xs ++ (by_decoder n (close ended s) r ∷ ys) → r.answer.number ≡ 0
      → ((k : ℕ) (w : Written) → at k (written_in xs) ≡ some w → w.stream ≡ s → Accepted k xs) ⊎ Memᴰ (Event.reset s) xs
  pub resets : (xs ys : List Event) (n s part : ℕ) (b out : List ℕ) (r : Result) → es ≡ xs ++ (by_decoder n (DecoderCall.block s part b out) r ∷ ys)
      → Memᴰ (Event.reset s) xs → ⊥

-- ---- the list: "over", or "ended", is said when the only block written so far is done, and then another block is written
unfoldable pub late : Closing → List Shown
late k =
    call (at_encoder (insert (bytes "h") (bytes "9") room)) (done 6 62) insert_9 ∷
    call (read insert_9) (done 6 0) [] ∷
    call (at_encoder (EncoderCall.block 0 0 h_is_9 room)) (done 1 0) by_62 ∷
    call (offer 0 0 0 by_62 room) (done 5 0) h_is_9 ∷
    call (at_decoder 0 (close k 0)) (done 0 0) [] ∷
    -- the encoder has not closed the part: it writes a second block, which names the entry too
    call (at_encoder (EncoderCall.block 0 0 h_is_9 room)) (done 1 0) by_62 ∷
    -- the entry is deleted. Its delete names the part, but the part is finished: the entry is freed while the block that names it is out
    call (at_encoder (delete 62 room)) (done 5 0) delete_9 ∷
    call (read delete_9) (done 5 0) [] ∷
    call (collect room) (done 1 0) acknowledge_62 ∷
    call (at_encoder (acknowledge acknowledge_62)) (done 1 0) [] ∷
    -- the late block is lost
    call (offer 1 0 0 by_62 room) (refusal out_of_turn) [] ∷
    []

-- ---- the claim
pub record TooEarly (k : Closing) (S : Ends) : Type 0 where
  -- every call answers, tells and writes what the table says
  pub happens : map shown (events S (calls_of (late k))) ≡ late k
  -- no event breaks a rule at its time
  pub so_far : RulesSoFar (events S (calls_of (late k)))
  -- but with "ever" the closing breaks one
  pub not_ever : Rules (events S (calls_of (late k))) → ⊥
  -- and "no offered block is refused as faulty" does not hold
  pub not_served : Served (events S (calls_of (late k))) → ⊥

pub record EverClaim : Type 0 where
  pub too_early : (k : Closing) (S : Ends) → Started largest S → TooEarly k S
  -- so demand 3 with the weaker rules is false
  pub needed : ((o : Opening) (S : Ends) → Started o S → (cs : List LinkCall) → AllLinkBytes cs → RulesSoFar (events S cs) → Served (events S cs)) → ⊥
