-- Demand 3, on the very definitions that the calls' contracts cite: memory, bytes, answers. To be read from top to bottom, after Calls and Happened.
-- Beside it: Answers (demand 1), Checks (document 01's ten checks), Histories (what each table holds by the history of its calls).
use Rattle.std.specs.Prelude.{◌≡◌, ◌↔◌, ◌⊎◌, ℕ, ◌+◌, ◌≤◌, ◌<◌, Bool, true, false, length, drop, eqb}
use Rattle.std.proofs.Math.Option.{Option, none, some}
use mathlib.Core.List.{List, [], ◌∷◌, ◌++◌, Memᴰ}
use Rattle.memory.specs.Choice.{pick}
use Rattle.memory.specs.Bytes.{Small, overlay}
use Rattle.integers.specs.Answers.{done, no_room}
use Rattle.stream_lists.specs.StreamList.{names}
use Rattle.instructions.specs.Instruction.{Instruction, acknowledge, FineIndex, FineInstruction, Manages, instruction_wire}
use Rattle.blocks.specs.Representation.{Representation}
use Rattle.blocks.specs.Reading.{block, read_block}
use Rattle.blocks.specs.Meaning.{Refers}
use Rattle.model.specs.Parts.{Part, nontrailer, trailer, part_number, over, ended, Delete}
use Rattle.model.specs.Decoder.{delete_of, without}
use Rattle.model.specs.Happened.{Happened, after, held_by, deletion_by, deletes_by}
use Rattle.model.specs.Events.{at}
use Rattle.state.specs.Forms.{forms_decoder}
use Rattle.state.specs.DecoderState.{decoder_of, overlay_decoder}
use Rattle.reply.specs.Result.{Result, refused}
use Rattle.decoder.specs.Calls.{collect_call}
use Rattle.decoder.specs.Calls as decoder
use Rattle.encoder.specs.Calls as encoder
use Rattle.link.specs.Calls.{
  DecoderCall,
  decoder_result,
  EncoderCall,
  encoder_result,
  DecoderBytes,
  EncoderBytes,
  AllDecoderBytes,
  decoder_after,
  done_bytes,
  done_count,
}
use Rattle.link.specs.Calls as calls
use Rattle.link.specs.Happened.{happened, history, Ready}

-- ==== demand 3, what stands before "Hence"

-- "a block "could still be accepted" if some further calls with room, none of them a start, lead to its being answered "done"; calls and
-- answers say so, not marks of finished parts"
pub record CouldStill (m : List ℕ) (s : ℕ) (p : Part) (b : List ℕ) : Type 0 where
  pub first : List DecoderCall
  pub bytes : AllDecoderBytes first
  pub output : List ℕ
  pub accepted : (decoder_result (decoder_after m first) (calls.DecoderCall.block s (part_number p) b output)).answer.number ≡ 0

-- a collect frees the entry with index i: with room for its acknowledgement it writes that, and without says so
pub record Frees (m : List ℕ) (i : ℕ) : Type 0 where
  pub freed : (out : List ℕ) → length (instruction_wire (acknowledge i)) ≤ length out
      → collect_call m out
      ≡ record {
        answer = done (length (instruction_wire (acknowledge i))) 0;
        memory = overlay_decoder (without (decoder_of m) i) m;
        output = overlay out 0 (instruction_wire (acknowledge i));
      }
  pub no_room : (out : List ℕ) → length out < length (instruction_wire (acknowledge i)) → collect_call m out ≡ refused m out no_room

-- "a stream list for non-trailer blocks and one for trailer blocks": the deletion names the part by its own list
abbrev pub NamedPart : Delete → ℕ → Part → Type 0
NamedPart d s nontrailer = names d.nontrailer s ≡ true
NamedPart d s trailer = names d.trailer s ≡ true

-- of the memory m that a list of calls left; by those calls `deletions` gives the deletion that each slot is under, and `arrived` has the deletes done and
-- not freed, in the order in which they were read
pub record ReadyHalf (m : List ℕ) (deletions : ℕ → Option Delete) (arrived : List Delete) : Type 0 where
  -- "a slot under deletion is ready to be freed exactly when no block that could still be accepted, in a part of a stream that the deletion
  -- names, might refer to it"
  pub exactly : (i : ℕ) (d : Delete) → deletions i ≡ some d
      → Ready m i
      ↔ ((s : ℕ) (p : Part) (b : List ℕ) (rs : List Representation) → Small b → read_block b ≡ block rs → NamedPart d s p → Refers rs i
      → CouldStill m s p b → ⊥)
  -- "A collect with room for its answer then frees one exactly when one is ready": it frees one that is under deletion and ready
  pub none_ready : ((i : ℕ) → Ready m i → ⊥) → (out : List ℕ) → collect_call m out ≡ record { answer = done 0 0; memory = m; output = out }
  pub one_ready : (k : ℕ) → Ready m k → (i : ℕ) × (d : Delete) × (deletions i ≡ some d) × Ready m i × Frees m i
  -- which: "the ready entry whose delete arrived first"
  pub first_freed : (k : ℕ) → Ready m k
      → (before : List Delete) × (d : Delete) × (behind : List Delete) × (arrived ≡ before ++ (d ∷ behind)) × Ready m d.index × Frees m d.index
      × ((e : Delete) → Memᴰ e before → Ready m e.index → ⊥)

-- "For every list of decoder calls from a fresh table .. after it"; "What stands before "Hence" also holds from other memory that forms a state",
-- where deletions begin with what that memory holds.
pub record ReadyClaim : Type 0 where
  pub from_start : (m : List ℕ) (limit : ℕ) → Small m → (decoder.start_call m limit).answer.number ≡ 0
      → (cs : List DecoderCall) → AllDecoderBytes cs
      → ReadyHalf (decoder_after (decoder.start_call m limit).memory cs) (λ i. after (deletion_by i) none (history (decoder.start_call m limit).memory cs))
      (after deletes_by [] (history (decoder.start_call m limit).memory cs))
  pub from_state : (m : List ℕ) → Small m → forms_decoder m ≡ true → (cs : List DecoderCall) → AllDecoderBytes cs
      → ReadyHalf (decoder_after m cs) (λ i. after (deletion_by i) (delete_of (decoder_of m) i) (history m cs))
      (after deletes_by (decoder_of m).deletes (history m cs))

-- ==== demand 3, from "Hence" on: one list that interleaves both ends

-- a call at either end, or a stream that is reset, which calls neither. An offered block says which it is of those that the encoder wrote: the n-th;
-- the decoder's other calls have no use for the number.
pub data LinkCall : Type 0 where
  at_encoder : EncoderCall → LinkCall
  at_decoder : ℕ → DecoderCall → LinkCall
  reset : ℕ → LinkCall

-- the memory of both ends
pub record Ends : Type 0 where
  pub encoder : List ℕ
  pub decoder : List ℕ

-- what happened: the call and what it left; a reset leaves nothing
pub data Event : Type 0 where
  by_encoder : EncoderCall → Result → Event
  by_decoder : ℕ → DecoderCall → Result → Event
  reset : ℕ → Event

pub record Turn : Type 0 where
  pub ends : Ends
  pub event : Event

-- "each call gets the memory that the call before it at its end left"
unfoldable pub turn : Ends → LinkCall → Turn
turn S (at_encoder c) =
    let r = encoder_result S.encoder c in record { ends = record { encoder = r.memory; decoder = S.decoder }; event = by_encoder c r }
turn S (at_decoder n c) =
    let r = decoder_result S.decoder c in record { ends = record { encoder = S.encoder; decoder = r.memory }; event = by_decoder n c r }
turn S (LinkCall.reset stream) = record { ends = S; event = Event.reset stream }

unfoldable pub events : Ends → List LinkCall → List Event
events S [] = []
events S (c ∷ cs) = (turn S c).event ∷ events (turn S c).ends cs

-- ---- what a list of events says

-- the management bytes that the encoder wrote, and how many of them the decoder read
abbrev pub management_by : EncoderCall → Result → List ℕ
management_by (calls.EncoderCall.insert name value out) r = done_bytes r
management_by (calls.EncoderCall.delete index out) r = done_bytes r
management_by (calls.EncoderCall.block stream part s out) r = []
management_by (calls.EncoderCall.acknowledge s) r = []

abbrev pub management_of : Event → List ℕ
management_of (by_encoder c r) = management_by c r
management_of (by_decoder n c r) = []
management_of (Event.reset stream) = []

unfoldable pub management_in : List Event → List ℕ
management_in [] = []
management_in (e ∷ es) = management_of e ++ management_in es

abbrev pub read_by : DecoderCall → Result → ℕ
read_by (calls.DecoderCall.read s) r = done_count r
read_by (calls.DecoderCall.block stream part s out) r = 0
read_by (calls.DecoderCall.close k stream) r = 0
read_by (calls.DecoderCall.collect out) r = 0
read_by (calls.DecoderCall.hold index) r = 0

abbrev pub read_of : Event → ℕ
read_of (by_encoder c r) = 0
read_of (by_decoder n c r) = read_by c r
read_of (Event.reset stream) = 0

unfoldable pub read_in : List Event → ℕ
read_in [] = 0
read_in (e ∷ es) = read_of e + read_in es

-- the acknowledgement bytes that the decoder wrote, and how many of them the encoder read
abbrev pub acknowledgement_by : DecoderCall → Result → List ℕ
acknowledgement_by (calls.DecoderCall.read s) r = []
acknowledgement_by (calls.DecoderCall.block stream part s out) r = []
acknowledgement_by (calls.DecoderCall.close k stream) r = []
acknowledgement_by (calls.DecoderCall.collect out) r = done_bytes r
acknowledgement_by (calls.DecoderCall.hold index) r = []

abbrev pub acknowledgement_of : Event → List ℕ
acknowledgement_of (by_encoder c r) = []
acknowledgement_of (by_decoder n c r) = acknowledgement_by c r
acknowledgement_of (Event.reset stream) = []

unfoldable pub acknowledgements_in : List Event → List ℕ
acknowledgements_in [] = []
acknowledgements_in (e ∷ es) = acknowledgement_of e ++ acknowledgements_in es

abbrev pub acknowledged_by : EncoderCall → Result → ℕ
acknowledged_by (calls.EncoderCall.insert name value out) r = 0
acknowledged_by (calls.EncoderCall.delete index out) r = 0
acknowledged_by (calls.EncoderCall.block stream part s out) r = 0
acknowledged_by (calls.EncoderCall.acknowledge s) r = done_count r

abbrev pub acknowledged_of : Event → ℕ
acknowledged_of (by_encoder c r) = acknowledged_by c r
acknowledged_of (by_decoder n c r) = 0
acknowledged_of (Event.reset stream) = 0

unfoldable pub acknowledged_in : List Event → ℕ
acknowledged_in [] = 0
acknowledged_in (e ∷ es) = acknowledged_of e + acknowledged_in es

-- a block that the encoder wrote: stream, part number, the list put in, the bytes, and how many management bytes were written before it
pub record Written : Type 0 where
  pub stream : ℕ
  pub part : ℕ
  pub list : List ℕ
  pub bytes : List ℕ
  pub before : ℕ

abbrev pub written_by : ℕ → EncoderCall → Result → List Written
written_by k (calls.EncoderCall.insert name value out) r = []
written_by k (calls.EncoderCall.delete index out) r = []
written_by k (calls.EncoderCall.block stream part s out) r =
    pick (eqb r.answer.number 0) (record { stream = stream; part = part; list = s; bytes = done_bytes r; before = k } ∷ []) []
written_by k (calls.EncoderCall.acknowledge s) r = []

abbrev pub written_of : ℕ → Event → List Written
written_of k (by_encoder c r) = written_by k c r
written_of k (by_decoder n c r) = []
written_of k (Event.reset stream) = []

-- the blocks that the encoder wrote, in order, after k management bytes
unfoldable pub written_from : ℕ → List Event → List Written
written_from k [] = []
written_from k (e ∷ es) = written_of k e ++ written_from (k + length (management_of e)) es

abbrev pub written_in : List Event → List Written
written_in es = written_from 0 es

-- what happened at the decoder
abbrev pub happened_of : Event → List Happened
happened_of (by_encoder c r) = []
happened_of (by_decoder n c r) = happened c r
happened_of (Event.reset stream) = []

unfoldable pub happened_in : List Event → List Happened
happened_in [] = []
happened_in (e ∷ es) = happened_of e ++ happened_in es

-- "At the decoder a slot is empty except from an insert there answered "done" to the collect that frees it."
abbrev pub held_after : List Event → ℕ → Bool
held_after es i = after (held_by i) false (happened_in es)

-- the n-th block was answered "done" in these events
pub record Accepted (n : ℕ) (es : List Event) : Type 0 where
  pub stream : ℕ
  pub part : ℕ
  pub bytes : List ℕ
  pub output : List ℕ
  pub result : Result
  pub done : result.answer.number ≡ 0
  pub when : Memᴰ (by_decoder n (calls.DecoderCall.block stream part bytes output) result) es

-- ---- the rules. Each speaks of an event and of those before it, xs; "ever" is anywhere in the whole list, es.

-- "management and acknowledgement bytes are the other end's, whole, in order, none again once read": of the bytes written, of which so many were read, a
-- read gets a beginning of those unread, which may be cut inside an instruction
abbrev pub MayRead : List ℕ → ℕ → List ℕ → Type 0
MayRead written count s = (rest : List ℕ) × (drop count written ≡ s ++ rest)

-- all non-trailer blocks ever written on the stream s were answered "done" in xs
abbrev pub NontrailersDone : List Event → ℕ → List Event → Type 0
NontrailersDone es s xs = (k : ℕ) (w : Written) → at k (written_in es) ≡ some w → w.stream ≡ s → w.part ≡ 0 → Accepted k xs

pub record Rules (es : List Event) : Type 0 where
  pub management : (xs ys : List Event) (n : ℕ) (s : List ℕ) (r : Result) → es ≡ xs ++ (by_decoder n (calls.DecoderCall.read s) r ∷ ys)
      → MayRead (management_in xs) (read_in xs) s
  pub acknowledgements : (xs ys : List Event) (s : List ℕ) (r : Result) → es ≡ xs ++ (by_encoder (calls.EncoderCall.acknowledge s) r ∷ ys)
      → MayRead (acknowledgements_in xs) (acknowledged_in xs) s
  -- "blocks reach the decoder unchanged, under their own stream and part"; "enough room is lent": the output is at least as long as the list put in
  pub unchanged : (xs ys : List Event) (n s part : ℕ) (b out : List ℕ) (r : Result)
      → es ≡ xs ++ (by_decoder n (calls.DecoderCall.block s part b out) r ∷ ys)
      → (w : Written) × (at n (written_in xs) ≡ some w) × (w.stream ≡ s) × (w.part ≡ part) × (w.bytes ≡ b) × (length w.list ≤ length out)
  -- "and never again once answered "done""
  pub once : (xs ys : List Event) (n s part : ℕ) (b out : List ℕ) (r : Result)
      → es ≡ xs ++ (by_decoder n (calls.DecoderCall.block s part b out) r ∷ ys) → Accepted n xs → ⊥
  -- "a trailer is offered, and "over" is said, only after all non-trailer blocks ever written on its stream were answered "done", or for "over" the stream
  -- was reset"
  pub trailers : (xs ys : List Event) (n s : ℕ) (b out : List ℕ) (r : Result) → es ≡ xs ++ (by_decoder n (calls.DecoderCall.block s 1 b out) r ∷ ys)
      → NontrailersDone es s xs
  pub overs : (xs ys : List Event) (n s : ℕ) (r : Result) → es ≡ xs ++ (by_decoder n (calls.DecoderCall.close over s) r ∷ ys) → r.answer.number ≡ 0
      → NontrailersDone es s xs ⊎ Memᴰ (Event.reset s) xs
  -- "a stream is told as ended only after every block ever written on it was answered "done", or it was reset"
  pub ends : (xs ys : List Event) (n s : ℕ) (r : Result) → es ≡ xs ++ (by_decoder n (calls.DecoderCall.close ended s) r ∷ ys) → r.answer.number ≡ 0
      → ((k : ℕ) (w : Written) → at k (written_in es) ≡ some w → w.stream ≡ s → Accepted k xs) ⊎ Memᴰ (Event.reset s) xs
  -- "and a reset stream brings nothing more, its waiting blocks included"
  pub resets : (xs ys : List Event) (n s part : ℕ) (b out : List ℕ) (r : Result)
      → es ≡ xs ++ (by_decoder n (calls.DecoderCall.block s part b out) r ∷ ys) → Memᴰ (Event.reset s) xs → ⊥

-- the block names the slot i, by index or for a name
abbrev pub Names : List ℕ → ℕ → Type 0
Names b i = (rs : List Representation) × (read_block b ≡ block rs) × Refers rs i

-- what the encoder can write to the decoder, and the decoder to the encoder
abbrev pub Managed : Instruction → Type 0
Managed i = Manages i × FineInstruction i

abbrev pub Acknowledges : Instruction → Type 0
Acknowledges i = (k : ℕ) × (i ≡ acknowledge k) × FineIndex k

-- bytes that end inside an instruction that the other end can write, the empty ones included
abbrev pub Cut : (Instruction → Type 0) → List ℕ → Type 0
Cut Says s = (i : Instruction) × Says i × (x : ℕ) × (rest : List ℕ) × (instruction_wire i ≡ s ++ (x ∷ rest))

-- ---- what follows, for one offered block: the events before it, the block written, and what the call left
pub record ServedBlock (xs : List Event) (w : Written) (r : Result) : Type 0 where
  -- "no offered block is refused as faulty" (faulty: any but 0 and 1)
  pub no_fault : (r.answer.number ≡ 0) ⊎ (r.answer.number ≡ 1)
  -- "each decoded one gives the list of fields put in, byte for byte"
  pub right : r.answer.number ≡ 0 → done_bytes r ≡ w.list
  -- "a block is told to wait exactly when a slot it names is empty at that moment"
  pub waits : (r.answer.number ≡ 1) ↔ ((i : ℕ) × (61 < i) × Names w.bytes i × (held_after xs i ≡ false))
  -- "once all management bytes written before it have been read, a block is never told to wait"
  pub prompt : w.before ≤ read_in xs → r.answer.number ≡ 0

-- and for the whole list
pub record Served (es : List Event) : Type 0 where
  pub blocks : (xs ys : List Event) (n s part : ℕ) (b out : List ℕ) (r : Result)
      → es ≡ xs ++ (by_decoder n (calls.DecoderCall.block s part b out) r ∷ ys) → (w : Written) → at n (written_in xs) ≡ some w → ServedBlock xs w r
  -- no management read and no acknowledgement is refused, but one whose bytes end inside an instruction: that is answered 2
  pub management : (xs ys : List Event) (n : ℕ) (s : List ℕ) (r : Result) → es ≡ xs ++ (by_decoder n (calls.DecoderCall.read s) r ∷ ys)
      → (r.answer.number ≡ 0) ⊎ ((r.answer.number ≡ 2) × Cut Managed s)
  pub acknowledgements : (xs ys : List Event) (s : List ℕ) (r : Result) → es ≡ xs ++ (by_encoder (calls.EncoderCall.acknowledge s) r ∷ ys)
      → (r.answer.number ≡ 0) ⊎ ((r.answer.number ≡ 2) × Cut Acknowledges s)

-- what is given and lent are bytes
abbrev pub LinkBytes : LinkCall → Type 0
LinkBytes (at_encoder c) = EncoderBytes c
LinkBytes (at_decoder n c) = DecoderBytes c
LinkBytes (LinkCall.reset stream) = Unit {0}

abbrev pub AllLinkBytes : List LinkCall → Type 0
AllLinkBytes [] = Unit {0}
AllLinkBytes (c ∷ cs) = LinkBytes c × AllLinkBytes cs

-- how a link is opened
pub record Opening : Type 0 where
  pub encoder_limit : ℕ
  pub decoder_limit : ℕ

-- "Both ends start fresh", in any memory that is lent; "encoder limit not above the decoder's"
pub record Started (o : Opening) (S : Ends) : Type 0 where
  pub encoder_memory : List ℕ
  pub decoder_memory : List ℕ
  pub encoder_small : Small encoder_memory
  pub decoder_small : Small decoder_memory
  pub encoder_done : (encoder.start_call encoder_memory o.encoder_limit).answer.number ≡ 0
  pub decoder_done : (decoder.start_call decoder_memory o.decoder_limit).answer.number ≡ 0
  pub encoder_is : (encoder.start_call encoder_memory o.encoder_limit).memory ≡ S.encoder
  pub decoder_is : (decoder.start_call decoder_memory o.decoder_limit).memory ≡ S.decoder
  pub limits : o.encoder_limit ≤ o.decoder_limit

-- "Hence, for every list of calls, refused ones too, at an encoder .. and such a decoder, if the list keeps document 01's rules for the link,
-- whatever order the streams arrive in"
pub record LinkClaim : Type 0 where
  pub served : (o : Opening) (S : Ends) → Started o S → (cs : List LinkCall) → AllLinkBytes cs → Rules (events S cs) → Served (events S cs)

-- ==== demand 3, entire
pub record Demand3 : Type 0 where
  pub before_hence : ReadyClaim
  pub hence : LinkClaim
