-- Demand 2 at the encoder: what its calls write is what the model's choice says, and reads back.
use Rattle.std.specs.Prelude.{◌≡◌, ℕ, List, map, length, take, Ok}
use Rattle.std.proofs.Math.Option.{Option, none, some}
use Rattle.memory.specs.Bytes.{Small}
use Rattle.fields.specs.Form.{Field, list_form}
use Rattle.fields.specs.Reading.{read_field_list}
use Rattle.fields.specs.Reading as lists
use Rattle.instructions.specs.Instruction.{Instruction, insert}
use Rattle.instructions.specs.Reading.{read_for_decoder, instruction_of}
use Rattle.instructions.specs.declared.read.InstructionPlace.{InstructionPlace}
use Rattle.blocks.specs.Reading.{block, read_block}
use Rattle.blocks.specs.Meaning.{Slot, vacant, holds, with_statics, list, block_meaning}
use Rattle.model.specs.Table.{look}
use Rattle.model.specs.Encoder.{Sent, sent_index, choose_name, choose, delete_of_sent}
use Rattle.state.specs.EncoderState.{encoder_of}
use Rattle.reply.specs.Result.{Result}
use Rattle.encoder.specs.Calls.{insert_call, delete_call, block_call}

-- the bytes that a call wrote: its told count, from the front of the output
abbrev pub wrote : Result → List ℕ
wrote r = take r.answer.first r.output

-- the bytes read, whole, as this instruction at the decoder's reader
pub record ReadsAs (b : List ℕ) (i : Instruction) : Type 0 where
  pub place : InstructionPlace
  pub found : read_for_decoder b ≡ Ok (place, length b)
  pub is : instruction_of b place ≡ i

-- what an index names at the encoder: a static entry, or one that it holds, those under deletion included
abbrev pub slot_of : Option Sent → Slot
slot_of none = vacant
slot_of (some e) = holds e.entry

abbrev pub encoder_lookup : List ℕ → ℕ → Slot
encoder_lookup m = with_statics (λ i. slot_of (look sent_index i (encoder_of m).entries))

-- a written block: it reads as the representations chosen for the fields of the list, and against the same table these mean those fields,
-- whose list is the very list put in
pub record BlockBack (m s b : List ℕ) : Type 0 where
  pub fields : List Field
  pub read : read_field_list s ≡ lists.FieldListRead.list fields
  pub chosen : read_block b ≡ block (map (choose (encoder_of m).entries) fields)
  pub means : block_meaning (encoder_lookup m) (map (choose (encoder_of m).entries) fields) ≡ list fields
  pub same : list_form fields ≡ s

pub record WrittenClaim : Type 0 where
  -- "every written instruction reads back as itself": an insert, with the index told and the name that the model's choice says
  pub insert : (m name value out : List ℕ) → Small m → Small name → Small value → (insert_call m name value out).answer.number ≡ 0
      → ReadsAs (wrote (insert_call m name value out))
      (insert (insert_call m name value out).answer.second (choose_name (encoder_of m).entries name) value)
  -- a delete, with the horizons of the entry
  pub delete : (m : List ℕ) (index : ℕ) (out : List ℕ) → Small m → (delete_call m index out).answer.number ≡ 0
      → (e : Sent) × (look sent_index index (encoder_of m).entries ≡ some e) × ReadsAs (wrote (delete_call m index out)) (delete_of_sent e)
  -- a block
  pub block : (m : List ℕ) (stream part : ℕ) (s out : List ℕ) → Small m → Small s → (block_call m stream part s out).answer.number ≡ 0
      → BlockBack m s (wrote (block_call m stream part s out))
