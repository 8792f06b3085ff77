-- A step of the link: what a call left, on bytes, beside what the model says happened in it, with all that ties the two.
-- Lists of steps are both lists of events at once.
use mathlib.Core.Path.{◌≡◌, refl}
use mathlib.Core.Logic.{◌⊎◌, inl, inr}
use Prim.Native.Nat.{ℕ}
use mathlib.Core.List.{List, [], map}
use lib.ListN.{length}
use Rattle.integers.specs.Answers.{Answer, Read, number_of}
use Rattle.fields.specs.Form.{Field, list_form}
use Rattle.instructions.specs.Instruction.{Instruction, acknowledge, FineIndex, FineInstruction, Manages, instruction_wire}
use Rattle.instructions.specs.Reading.{read_for_decoder, read_for_encoder, instruction_of}
use Rattle.instructions.specs.declared.read.InstructionPlace.{InstructionPlace}
use Rattle.blocks.specs.Representation.{Representation}
use Rattle.blocks.specs.Reading.{block, read_block}
use Rattle.blocks.specs.Reading as reading
use Rattle.model.specs.Parts.{Closing}
use Rattle.model.specs.Outcome.{Output, output_bytes}
use Rattle.model.specs.Events as model
use Rattle.reply.specs.Result.{Result}
use Rattle.link.specs.Calls.{DecoderCall, EncoderCall, done_bytes}
use Rattle.link.specs.Calls as calls
use Rattle.link.specs.Claims.{Event, management_of, read_of, acknowledgement_of, acknowledged_of, written_of, happened_of}
use Rattle.std.specs.Prelude.{Ok, Err}
use Rattle.integers.specs.declared.answer.Refusal.{Refusal}

-- ---- what ties the two

-- an insert or a delete
abbrev pub Speaks : EncoderCall → Type 0
Speaks (calls.EncoderCall.insert name value out) = Unit {0}
Speaks (calls.EncoderCall.delete index out) = Unit {0}
Speaks (calls.EncoderCall.block stream part s out) = ⊥
Speaks (calls.EncoderCall.acknowledge s) = ⊥

-- the bytes written are an instruction's
pub record SaidAs (c : EncoderCall) (r : Result) (i : Instruction) : Type 0 where
  pub speaks : Speaks c
  pub manages : Manages i
  pub fine : FineInstruction i
  pub bytes : done_bytes r ≡ instruction_wire i

-- the bytes written are a block's, which reads as what was said; the list put in is the fields'
pub record WrittenAs (s : List ℕ) (r : Result) (fs : List Field) (rs : List Representation) : Type 0 where
  pub done : r.answer.number ≡ 0
  pub list : list_form fs ≡ s
  pub reads : read_block (done_bytes r) ≡ block rs

-- the bytes given read as an instruction, and "done" tells how many were taken
pub record ReadAs (reads : List ℕ → Read InstructionPlace) (s : List ℕ) (r : Result) (i : Instruction) : Type 0 where
  pub place : InstructionPlace
  pub taken : ℕ
  pub found : reads s ≡ Ok (place, taken)
  pub same : instruction_of s place ≡ i
  pub told : r.answer.number ≡ 0 → r.answer.first ≡ taken

-- the reading refused the bytes
abbrev pub Misread : (List ℕ → Read InstructionPlace) → List ℕ → Result → Type 0
Misread reads s r = (why : Refusal) × (reads s ≡ Err why) × (r.answer.number ≡ number_of why) × (r.answer.number ≡ 0 → ⊥)

-- the bytes offered read as a block, and "done" wrote the model's output
pub record OfferedAs (s : List ℕ) (r : Result) (rs : List Representation) (o : Output) : Type 0 where
  pub reads : read_block s ≡ block rs
  pub written : r.answer.number ≡ 0 → done_bytes r ≡ output_bytes o

abbrev pub Unreadable : List ℕ → Result → Type 0
Unreadable s r = (why : Refusal) × (read_block s ≡ reading.BlockRead.refused why) × (r.answer.number ≡ 0 → ⊥)

-- ---- where nothing happened in the model: what is known of the event
abbrev pub IdleWrite : EncoderCall → Result → Type 0
IdleWrite (calls.EncoderCall.insert name value out) r = Unit {0}
IdleWrite (calls.EncoderCall.delete index out) r = Unit {0}
IdleWrite (calls.EncoderCall.block stream part s out) r = Unit {0}
IdleWrite (calls.EncoderCall.acknowledge s) r = Misread read_for_encoder s r

abbrev pub IdleRead : DecoderCall → Result → Type 0
IdleRead (calls.DecoderCall.read s) r = Misread read_for_decoder s r
IdleRead (calls.DecoderCall.block stream part s out) r = Unreadable s r
IdleRead (calls.DecoderCall.close k stream) r = r.answer.number ≡ 0 → ⊥
IdleRead (calls.DecoderCall.collect out) r = Unit {0}
IdleRead (calls.DecoderCall.hold index) r = Unit {0}

abbrev pub Idle : Event → Type 0
Idle (Event.by_encoder c r) = IdleWrite c r
Idle (Event.by_decoder n c r) = IdleRead c r
Idle (Event.reset stream) = ⊥

pub record Quiet (e : Event) : Type 0 where
  pub management : management_of e ≡ []
  pub read : read_of e ≡ 0
  pub acknowledgement : acknowledgement_of e ≡ []
  pub acknowledged : acknowledged_of e ≡ 0
  pub written : (k : ℕ) → written_of k e ≡ []
  pub happened : happened_of e ≡ []
  pub idle : Idle e

-- ---- steps
pub data Step : Type 0 where
  said : (c : EncoderCall) (r : Result) (i : Instruction) → SaidAs c r i → Step
  wrote : (stream part : ℕ) (s out : List ℕ) (r : Result) (fs : List Field) (rs : List Representation) → WrittenAs s r fs rs → Step
  acknowledged : (s : List ℕ) (r : Result) (i : ℕ) → ReadAs read_for_encoder s r (acknowledge i) → Step
  heard : (n : ℕ) (s : List ℕ) (r : Result) (i : Instruction) → ReadAs read_for_decoder s r i → Step
  offered : (n stream part : ℕ) (s out : List ℕ) (r : Result) (rs : List Representation) (o : Output) → OfferedAs s r rs o → Step
  freed : (n : ℕ) (out : List ℕ) (r : Result) (i : ℕ) → FineIndex i → done_bytes r ≡ instruction_wire (acknowledge i) → Step
  told : (n : ℕ) (k : Closing) (stream : ℕ) (r : Result) → r.answer.number ≡ 0 → Step
  reset : ℕ → Step
  quiet : (e : Event) → Quiet e → Step

abbrev pub byte_of : Step → Event
byte_of (said c r i f) = Event.by_encoder c r
byte_of (wrote stream part s out r fs rs f) = Event.by_encoder (calls.EncoderCall.block stream part s out) r
byte_of (acknowledged s r i f) = Event.by_encoder (calls.EncoderCall.acknowledge s) r
byte_of (heard n s r i f) = Event.by_decoder n (calls.DecoderCall.read s) r
byte_of (offered n stream part s out r rs o f) = Event.by_decoder n (calls.DecoderCall.block stream part s out) r
byte_of (freed n out r i f e) = Event.by_decoder n (calls.DecoderCall.collect out) r
byte_of (told n k stream r z) = Event.by_decoder n (calls.DecoderCall.close k stream) r
byte_of (reset stream) = Event.reset stream
byte_of (quiet e q) = e

abbrev pub model_of : Step → model.Event
model_of (said c r i f) = model.said i
model_of (wrote stream part s out r fs rs f) = model.wrote stream part fs rs
model_of (acknowledged s r i f) = model.acknowledged i r.answer.number
model_of (heard n s r i f) = model.heard i r.answer.number
model_of (offered n stream part s out r rs o f) = model.offered n stream part rs (length out) r.answer o
model_of (freed n out r i f e) = model.freed i
model_of (told n k stream r z) = model.told k stream
model_of (reset stream) = model.Event.reset stream
model_of (quiet e q) = model.quiet

abbrev pub bytes : List Step → List Event
bytes ss = map byte_of ss

abbrev pub modelled : List Step → List model.Event
modelled ss = map model_of ss

-- ---- from an event on bytes to the model's, m
abbrev pub HeardAs : List ℕ → Result → model.Event → Type 0
HeardAs s r m = (i : Instruction) × ReadAs read_for_decoder s r i × (m ≡ model.heard i r.answer.number)

abbrev pub AcknowledgedAs : List ℕ → Result → model.Event → Type 0
AcknowledgedAs s r m = (i : ℕ) × ReadAs read_for_encoder s r (acknowledge i) × (m ≡ model.acknowledged i r.answer.number)

pub record OfferStep (n stream part : ℕ) (s out : List ℕ) (r : Result) (m : model.Event) : Type 0 where
  pub says : List Representation
  pub output : Output
  pub tied : OfferedAs s r says output
  pub is : m ≡ model.offered n stream part says (length out) r.answer output

abbrev WriteTold : EncoderCall → Result → model.Event → Type 0
WriteTold (calls.EncoderCall.insert name value out) r m = Unit {0}
WriteTold (calls.EncoderCall.delete index out) r m = Unit {0}
WriteTold (calls.EncoderCall.block stream part s out) r m = Unit {0}
WriteTold (calls.EncoderCall.acknowledge s) r m = AcknowledgedAs s r m ⊎ Misread read_for_encoder s r

abbrev ReadTold : ℕ → DecoderCall → Result → model.Event → Type 0
ReadTold n (calls.DecoderCall.read s) r m = HeardAs s r m ⊎ Misread read_for_decoder s r
ReadTold n (calls.DecoderCall.block stream part s out) r m = OfferStep n stream part s out r m ⊎ Unreadable s r
ReadTold n (calls.DecoderCall.close k stream) r m = Unit {0}
ReadTold n (calls.DecoderCall.collect out) r m = Unit {0}
ReadTold n (calls.DecoderCall.hold index) r m = Unit {0}

abbrev pub ByteTold : Event → model.Event → Type 0
ByteTold (Event.by_encoder c r) m = WriteTold c r m
ByteTold (Event.by_decoder n c r) m = ReadTold n c r m
ByteTold (Event.reset stream) m = m ≡ model.Event.reset stream

said-told : (c : EncoderCall) (r : Result) (m : model.Event) → Speaks c → WriteTold c r m
said-told (calls.EncoderCall.insert name value out) r m f = tt
said-told (calls.EncoderCall.delete index out) r m f = tt
said-told (calls.EncoderCall.block stream part s out) r m f = tt
said-told (calls.EncoderCall.acknowledge s) r m f = absurd f

idle-write : (c : EncoderCall) (r : Result) (m : model.Event) → IdleWrite c r → WriteTold c r m
idle-write (calls.EncoderCall.insert name value out) r m f = tt
idle-write (calls.EncoderCall.delete index out) r m f = tt
idle-write (calls.EncoderCall.block stream part s out) r m f = tt
idle-write (calls.EncoderCall.acknowledge s) r m f = inr f

idle-read : (n : ℕ) (c : DecoderCall) (r : Result) (m : model.Event) → IdleRead c r → ReadTold n c r m
idle-read n (calls.DecoderCall.read s) r m f = inr f
idle-read n (calls.DecoderCall.block stream part s out) r m f = inr f
idle-read n (calls.DecoderCall.close k stream) r m f = tt
idle-read n (calls.DecoderCall.collect out) r m f = tt
idle-read n (calls.DecoderCall.hold index) r m f = tt

idle-told : (e : Event) (m : model.Event) → Idle e → ByteTold e m
idle-told (Event.by_encoder c r) m f = idle-write c r m f
idle-told (Event.by_decoder n c r) m f = idle-read n c r m f
idle-told (Event.reset stream) m f = absurd f

pub byte-told : (st : Step) → ByteTold (byte_of st) (model_of st)
byte-told (said c r i f) = said-told c r (model.said i) f.speaks
byte-told (wrote stream part s out r fs rs f) = tt
byte-told (acknowledged s r i f) = inl (i, f, refl)
byte-told (heard n s r i f) = inl (i, f, refl)
byte-told (offered n stream part s out r rs o f) = inl (record { says = rs; output = o; tied = f; is = refl })
byte-told (freed n out r i f e) = tt
byte-told (told n k stream r z) = tt
byte-told (reset stream) = refl
byte-told (quiet e q) = idle-told e model.quiet q.idle

-- ---- from the model's event to that on bytes, e
pub record HeardStep (i : Instruction) (number : ℕ) (e : Event) : Type 0 where
  pub which : ℕ
  pub given : List ℕ
  pub result : Result
  pub tied : ReadAs read_for_decoder given result i
  pub is : e ≡ Event.by_decoder which (calls.DecoderCall.read given) result

pub record AcknowledgedStep (i n : ℕ) (e : Event) : Type 0 where
  pub given : List ℕ
  pub result : Result
  pub tied : ReadAs read_for_encoder given result (acknowledge i)
  pub is : e ≡ Event.by_encoder (calls.EncoderCall.acknowledge given) result

pub record OfferedStep (n stream part : ℕ) (rs : List Representation) (room : ℕ) (a : Answer) (e : Event) : Type 0 where
  pub given : List ℕ
  pub lent : List ℕ
  pub result : Result
  pub reads : read_block given ≡ block rs
  pub room-is : length lent ≡ room
  pub answer-is : result.answer ≡ a
  pub is : e ≡ Event.by_decoder n (calls.DecoderCall.block stream part given lent) result

abbrev pub ModelTold : model.Event → Event → Type 0
ModelTold (model.said i) e = Unit {0}
ModelTold (model.wrote s part fs rs) e = Unit {0}
ModelTold (model.acknowledged i n) e = AcknowledgedStep i n e
ModelTold (model.heard i n) e = HeardStep i n e
ModelTold (model.offered n s part rs room a o) e = OfferedStep n s part rs room a e
ModelTold (model.freed i) e = Unit {0}
ModelTold (model.told k s) e = (n : ℕ) × (r : Result) × (r.answer.number ≡ 0) × (e ≡ Event.by_decoder n (calls.DecoderCall.close k s) r)
ModelTold (model.Event.reset s) e = e ≡ Event.reset s
ModelTold model.quiet e = Unit {0}

pub model-told : (st : Step) → ModelTold (model_of st) (byte_of st)
model-told (said c r i f) = tt
model-told (wrote stream part s out r fs rs f) = tt
model-told (acknowledged s r i f) = record { given = s; result = r; tied = f; is = refl }
model-told (heard n s r i f) = record { which = n; given = s; result = r; tied = f; is = refl }
model-told (offered n stream part s out r rs o f) =
    record { given = s; lent = out; result = r; reads = f.reads; room-is = refl; answer-is = refl; is = refl }
model-told (freed n out r i f e) = tt
model-told (told n k stream r z) = (n, r, z, refl)
model-told (reset stream) = refl
model-told (quiet e q) = tt
