-- A lemma on abstract data: what is ready and what a collect frees, of one state, for every state that forms one, so after every list of calls.
-- The claim itself, on memory and bytes, is link/specs/Claims.antt.
use Rattle.std.specs.Prelude.{◌≡◌, ◌↔◌, ℕ, ◌≤◌, ◌<◌, true, false, length}
use Rattle.std.proofs.Math.Option.{some}
use mathlib.Core.List.{List, [], ◌∷◌, ◌++◌, Memᴰ}
use Rattle.integers.specs.Answers.{no_room}
use Rattle.instructions.specs.Instruction.{acknowledge, Manages, FineInstruction, instruction_wire}
use Rattle.blocks.specs.Representation.{Representation, AllFine}
use Rattle.blocks.specs.Meaning.{Refers}
use Rattle.model.specs.Parts.{Part, part_number, Delete, names_part}
use Rattle.model.specs.Outcome.{nothing, instruction, refuse, start_answer, finish}
use Rattle.model.specs.Decoder.{Decoder, start_decoder, delete_of, ready, without, FormsDecoder}
use Rattle.model.specs.DecoderCalls.{DecoderCall, read, block, close, collect, hold, unread, decoder_call, after_decoder}

-- what the reader of instructions can give: fine inserts and deletes
abbrev pub FineCall : DecoderCall → Type 0
FineCall (read i taken) = Manages i × FineInstruction i
FineCall (block s part rs room) = Unit {0}
FineCall (close k s) = Unit {0}
FineCall (collect room) = Unit {0}
FineCall (hold i) = Unit {0}
FineCall (unread number) = Unit {0}

abbrev pub FineCalls : List DecoderCall → Type 0
FineCalls [] = Unit {0}
FineCalls (c ∷ cs) = FineCall c × FineCalls cs

-- "a block "could still be accepted" if some further calls with room, none of them a start, lead to its being answered "done"; calls and
-- answers say so, not marks of finished parts". Blocks and calls are such as bytes can say.
pub record AbstractCouldStill (D : Decoder) (s : ℕ) (p : Part) (rs : List Representation) : Type 0 where
  pub says : AllFine rs
  pub first : List DecoderCall
  pub calls : FineCalls first
  pub room : ℕ
  pub accepted : (decoder_call (after_decoder D first) (block s (part_number p) rs room)).answer.number ≡ 0

-- d is "the ready entry whose delete arrived first": it is ready, and none is whose delete arrived before it
pub record FirstReady (D : Decoder) (d : Delete) : Type 0 where
  pub before : List Delete
  pub behind : List Delete
  pub arrived : D.deletes ≡ before ++ (d ∷ behind)
  pub ready_now : ready D d.index ≡ true
  pub none_before : (e : Delete) → Memᴰ e before → ready D e.index ≡ false

pub record AbstractReadyHalf (D : Decoder) : Type 0 where
  -- "a slot under deletion is ready to be freed exactly when no block that could still be accepted, in a part of a stream that the deletion
  -- names, might refer to it"
  pub exactly : (i : ℕ) (d : Delete) → delete_of D i ≡ some d
      → (ready D i ≡ true)
      ↔ ((s : ℕ) (p : Part) (rs : List Representation) → names_part d s p ≡ true → Refers rs i → AbstractCouldStill D s p rs → ⊥)
  -- "A collect with room for its answer then frees one exactly when one is ready."
  pub none_ready : ((i : ℕ) → ready D i ≡ false) → (room : ℕ) → decoder_call D (collect room) ≡ finish D 0 0 nothing
  pub one_ready : (k : ℕ) → ready D k ≡ true → (d : Delete) × FirstReady D d
      × ((room : ℕ) → length (instruction_wire (acknowledge d.index)) ≤ room
      → decoder_call D (collect room)
      ≡ finish (without D d.index) (length (instruction_wire (acknowledge d.index))) 0 (instruction (acknowledge d.index)))
      × ((room : ℕ) → room < length (instruction_wire (acknowledge d.index)) → decoder_call D (collect room) ≡ refuse D no_room)

-- "For every list of decoder calls from a fresh table .. after it"; "What stands before "Hence" also holds from other memory that forms a state."
pub record AbstractReady : Type 0 where
  pub from_start : (limit : ℕ) → (start_answer limit).number ≡ 0 → (cs : List DecoderCall) → FineCalls cs → AbstractReadyHalf (after_decoder (start_decoder limit) cs)
  pub from_state : (D : Decoder) → FormsDecoder D → (cs : List DecoderCall) → FineCalls cs → AbstractReadyHalf (after_decoder D cs)
