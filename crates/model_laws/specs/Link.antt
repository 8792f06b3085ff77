-- A lemma on abstract data that the claim is proved from: the rules for the link over lists of the model's events, and what follows from them.
-- The claim itself, on memory and bytes, is link/specs/Claims.antt.
use Rattle.std.specs.Prelude.{◌≡◌, ◌↔◌, ◌⊎◌, ℕ, suc, ◌+◌, ◌≤◌, ◌<◌, Bool, true, false, ◌&&◌, length, eqb}
use Rattle.std.proofs.Math.Option.{some}
use mathlib.Core.List.{List, [], ◌∷◌, ◌++◌, Memᴰ}
use Rattle.memory.specs.Choice.{pick}
use Rattle.integers.specs.Answers.{Answer}
use Rattle.fields.specs.Form.{Field, AllFine, list_form}
use Rattle.instructions.specs.Instruction.{Instruction, insert, delete, acknowledge}
use Rattle.blocks.specs.Representation.{Representation}
use Rattle.blocks.specs.Meaning.{Refers}
use Rattle.model.specs.Parts.{over, ended}
use Rattle.model.specs.Outcome.{Output, fields, start_answer}
use Rattle.model.specs.EncoderCalls as at-encoder
use Rattle.model.specs.Events.{at, LinkCall, encoder, decoder, Event, said, wrote, acknowledged, heard, offered, freed, told, quiet, events, ends_after, fresh}
use Rattle.model.specs.Events as link

-- ---- what a list of events says

-- the instructions that the encoder wrote, in order
unfoldable pub said_in : List Event → List Instruction
said_in [] = []
said_in (said i ∷ es) = i ∷ said_in es
said_in (wrote s part fs rs ∷ es) = said_in es
said_in (acknowledged i n ∷ es) = said_in es
said_in (heard i n ∷ es) = said_in es
said_in (offered n s part rs room a o ∷ es) = said_in es
said_in (freed i ∷ es) = said_in es
said_in (told k s ∷ es) = said_in es
said_in (link.Event.reset s ∷ es) = said_in es
said_in (quiet ∷ es) = said_in es

-- "Bytes are read when a call answered "done" took them": how many instructions were read
unfoldable pub heard_in : List Event → ℕ
heard_in [] = 0
heard_in (said i ∷ es) = heard_in es
heard_in (wrote s part fs rs ∷ es) = heard_in es
heard_in (acknowledged i n ∷ es) = heard_in es
heard_in (heard i n ∷ es) = pick (eqb n 0) 1 0 + heard_in es
heard_in (offered n s part rs room a o ∷ es) = heard_in es
heard_in (freed i ∷ es) = heard_in es
heard_in (told k s ∷ es) = heard_in es
heard_in (link.Event.reset s ∷ es) = heard_in es
heard_in (quiet ∷ es) = heard_in es

-- the indexes whose acknowledgements the decoder wrote, in order
unfoldable pub freed_in : List Event → List ℕ
freed_in [] = []
freed_in (said i ∷ es) = freed_in es
freed_in (wrote s part fs rs ∷ es) = freed_in es
freed_in (acknowledged i n ∷ es) = freed_in es
freed_in (heard i n ∷ es) = freed_in es
freed_in (offered n s part rs room a o ∷ es) = freed_in es
freed_in (freed i ∷ es) = i ∷ freed_in es
freed_in (told k s ∷ es) = freed_in es
freed_in (link.Event.reset s ∷ es) = freed_in es
freed_in (quiet ∷ es) = freed_in es

-- how many acknowledgements were read
unfoldable pub acknowledged_in : List Event → ℕ
acknowledged_in [] = 0
acknowledged_in (said i ∷ es) = acknowledged_in es
acknowledged_in (wrote s part fs rs ∷ es) = acknowledged_in es
acknowledged_in (acknowledged i n ∷ es) = pick (eqb n 0) 1 0 + acknowledged_in es
acknowledged_in (heard i n ∷ es) = acknowledged_in es
acknowledged_in (offered n s part rs room a o ∷ es) = acknowledged_in es
acknowledged_in (freed i ∷ es) = acknowledged_in es
acknowledged_in (told k s ∷ es) = acknowledged_in es
acknowledged_in (link.Event.reset s ∷ es) = acknowledged_in es
acknowledged_in (quiet ∷ es) = acknowledged_in es

-- a block that the encoder wrote: its stream and part number, what it says, the fields put in, and how many instructions were written before it
pub record Written : Type 0 where
  pub stream : ℕ
  pub part : ℕ
  pub says : List Representation
  pub fields : List Field
  pub before : ℕ

-- the blocks that the encoder wrote, in order, after k instructions
unfoldable pub written_from : ℕ → List Event → List Written
written_from k [] = []
written_from k (said i ∷ es) = written_from (suc k) es
written_from k (wrote s part fs rs ∷ es) = record { stream = s; part = part; says = rs; fields = fs; before = k } ∷ written_from k es
written_from k (acknowledged i n ∷ es) = written_from k es
written_from k (heard i n ∷ es) = written_from k es
written_from k (offered n s part rs room a o ∷ es) = written_from k es
written_from k (freed i ∷ es) = written_from k es
written_from k (told c s ∷ es) = written_from k es
written_from k (link.Event.reset s ∷ es) = written_from k es
written_from k (quiet ∷ es) = written_from k es

abbrev pub written_in : List Event → List Written
written_in es = written_from 0 es

-- "At the decoder a slot is empty except from an insert there answered "done" to the collect that frees it."
abbrev pub held_by : Instruction → ℕ → ℕ → Bool → Bool
held_by (insert j name value) n i h = pick (eqb n 0 && eqb j i) true h
held_by (delete j first last) n i h = h
held_by (acknowledge j) n i h = h

unfoldable pub held_from : Bool → List Event → ℕ → Bool
held_from h [] i = h
held_from h (said j ∷ es) i = held_from h es i
held_from h (wrote s part fs rs ∷ es) i = held_from h es i
held_from h (acknowledged j n ∷ es) i = held_from h es i
held_from h (heard j n ∷ es) i = held_from (held_by j n i h) es i
held_from h (offered n s part rs room a o ∷ es) i = held_from h es i
held_from h (freed j ∷ es) i = held_from (pick (eqb j i) false h) es i
held_from h (told k s ∷ es) i = held_from h es i
held_from h (link.Event.reset s ∷ es) i = held_from h es i
held_from h (quiet ∷ es) i = held_from h es i

abbrev pub held_after : List Event → ℕ → Bool
held_after es i = held_from false es i

-- the n-th block was answered "done" in these events
pub record Accepted (n : ℕ) (es : List Event) : Type 0 where
  pub stream : ℕ
  pub part : ℕ
  pub says : List Representation
  pub room : ℕ
  pub answer : Answer
  pub output : Output
  pub done : answer.number ≡ 0
  pub when : Memᴰ (offered n stream part says room answer output) es

-- ---- the rules. Each speaks of an event and of those before it, xs; "ever" is anywhere in the whole list, es.
-- all non-trailer blocks ever written on the stream s were answered "done" in xs
abbrev pub NontrailersDone : List Event → ℕ → List Event → Type 0
NontrailersDone es s xs = (n : ℕ) (w : Written) → at n (written_in es) ≡ some w → w.stream ≡ s → w.part ≡ 0 → Accepted n xs

pub record AbstractRules (es : List Event) : Type 0 where
  -- "management and acknowledgement bytes are the other end's, whole, in order, none again once read"
  pub management : (xs ys : List Event) (i : Instruction) (n : ℕ) → es ≡ xs ++ (heard i n ∷ ys) → at (heard_in xs) (said_in xs) ≡ some i
  pub acknowledgements : (xs ys : List Event) (i n : ℕ) → es ≡ xs ++ (acknowledged i n ∷ ys) → at (acknowledged_in xs) (freed_in xs) ≡ some i
  -- "blocks reach the decoder unchanged, under their own stream and part"; "enough room is lent": the output is at least as long as the list put in
  pub unchanged : (xs ys : List Event) (n s part : ℕ) (rs : List Representation) (room : ℕ) (a : Answer) (o : Output)
      → es ≡ xs ++ (offered n s part rs room a o ∷ ys)
      → (w : Written) × (at n (written_in xs) ≡ some w) × (w.stream ≡ s) × (w.part ≡ part) × (w.says ≡ rs) × (length (list_form w.fields) ≤ room)
  -- "and never again once answered "done""
  pub once : (xs ys : List Event) (n s part : ℕ) (rs : List Representation) (room : ℕ) (a : Answer) (o : Output)
      → es ≡ xs ++ (offered n s part rs room a o ∷ ys) → Accepted n xs → ⊥
  -- "a trailer is offered, and "over" is said, only after all non-trailer blocks ever written on its stream were answered "done", or for "over" the stream
  -- was reset"
  pub trailers : (xs ys : List Event) (n s : ℕ) (rs : List Representation) (room : ℕ) (a : Answer) (o : Output)
      → es ≡ xs ++ (offered n s 1 rs room a o ∷ ys) → NontrailersDone es s xs
  pub overs : (xs ys : List Event) (s : ℕ) → es ≡ xs ++ (told over s ∷ ys) → NontrailersDone es s xs ⊎ Memᴰ (link.Event.reset s) xs
  -- "a stream is told as ended only after every block ever written on it was answered "done", or it was reset"
  pub ends : (xs ys : List Event) (s : ℕ) → es ≡ xs ++ (told ended s ∷ ys)
      → ((n : ℕ) (w : Written) → at n (written_in es) ≡ some w → w.stream ≡ s → Accepted n xs) ⊎ Memᴰ (link.Event.reset s) xs
  -- "and a reset stream brings nothing more, its waiting blocks included"
  pub resets : (xs ys : List Event) (n s part : ℕ) (rs : List Representation) (room : ℕ) (a : Answer) (o : Output)
      → es ≡ xs ++ (offered n s part rs room a o ∷ ys) → Memᴰ (link.Event.reset s) xs → ⊥

-- ---- what follows, for one offered block: the events before it, the block written, the answer and the output
pub record AbstractServedBlock (xs : List Event) (w : Written) (a : Answer) (o : Output) : Type 0 where
  -- "no offered block is refused as faulty" (faulty: any but 0 and 1)
  pub no_fault : (a.number ≡ 0) ⊎ (a.number ≡ 1)
  -- "each decoded one gives the list of fields put in, byte for byte"
  pub right : a.number ≡ 0 → o ≡ fields w.fields
  -- "a block is told to wait exactly when a slot it names is empty at that moment"
  pub waits : (a.number ≡ 1) ↔ ((i : ℕ) × (61 < i) × Refers w.says i × (held_after xs i ≡ false))
  -- "once all management bytes written before it have been read, a block is never told to wait"
  pub prompt : w.before ≤ heard_in xs → a.number ≡ 0

-- and for the whole list
pub record AbstractServed (es : List Event) : Type 0 where
  pub blocks : (xs ys : List Event) (n s part : ℕ) (rs : List Representation) (room : ℕ) (a : Answer) (o : Output)
      → es ≡ xs ++ (offered n s part rs room a o ∷ ys) → (w : Written) → at n (written_in xs) ≡ some w → AbstractServedBlock xs w a o
  -- no whole management instruction and no acknowledgement is refused
  pub management : (xs ys : List Event) (i : Instruction) (n : ℕ) → es ≡ xs ++ (heard i n ∷ ys) → n ≡ 0
  pub acknowledgements : (xs ys : List Event) (i n : ℕ) → es ≡ xs ++ (acknowledged i n ∷ ys) → n ≡ 0

-- the fields put in are such as the host's list can say
abbrev pub FineLinkCall : LinkCall → Type 0
FineLinkCall (encoder (at-encoder.insert name value room)) = Unit {0}
FineLinkCall (encoder (at-encoder.delete i room)) = Unit {0}
FineLinkCall (encoder (at-encoder.block s part fs room)) = AllFine fs
FineLinkCall (encoder (at-encoder.acknowledged i taken)) = Unit {0}
FineLinkCall (encoder (at-encoder.unread number)) = Unit {0}
FineLinkCall (decoder n c) = Unit {0}
FineLinkCall (link.LinkCall.reset s) = Unit {0}

abbrev pub FineLinkCalls : List LinkCall → Type 0
FineLinkCalls [] = Unit {0}
FineLinkCalls (c ∷ cs) = FineLinkCall c × FineLinkCalls cs

-- "Hence, for every list of calls, refused ones too, at an encoder .. and such a decoder, if the list keeps document 01's rules for the link,
-- whatever order the streams arrive in"; "a list follows a start answered "done" and has no other"; "encoder limit not above the decoder's"
pub record AbstractLink : Type 0 where
  pub served : (encoder_limit decoder_limit : ℕ) → (start_answer encoder_limit).number ≡ 0 → (start_answer decoder_limit).number ≡ 0
      → encoder_limit ≤ decoder_limit → (cs : List LinkCall) → FineLinkCalls cs
      → AbstractRules (events (fresh encoder_limit decoder_limit) cs) → AbstractServed (events (fresh encoder_limit decoder_limit) cs)
