-- Demand 2's addition, "No padded numbers": what is refused as padded, and that numbers, instructions and blocks each have one accepted form.
use Rattle.std.specs.Prelude.{◌≡◌, ℕ, ◌+◌, ◌*◌, ◌^◌, ◌≤◌, List, length, Ok, Err}
use Rattle.memory.specs.Bytes.{part, Small}
use Rattle.integers.specs.Integer.{largest, value, read_int, PaddedInt, IntForm, int_wire}
use Rattle.wire.specs.Text.{read_string}
use Rattle.wire.specs.Name.{read_name}
use Rattle.stream_lists.specs.StreamList.{horizon_limit, read_delta, read_list}
use Rattle.instructions.specs.Instruction.{Instruction, acknowledge, FineIndex, FineInstruction, Manages, instruction_wire}
use Rattle.instructions.specs.Reading.{read_index, read_for_decoder, read_for_encoder, instruction_of}
use Rattle.instructions.specs.declared.read.InstructionPlace.{InstructionPlace}
use Rattle.blocks.specs.Representation.{Representation, block_wire}
use Rattle.blocks.specs.Reading.{read_indexed, block, block_limit, read_block}
use Rattle.forms.specs.Forms.{Packed, instruction_form, block_form}
use Rattle.forms.specs.Packed.{none, packed_instruction, packed_block, our_instruction, our_block, AcceptedInstruction, AcceptedBlock, FitInstruction, FitBlock}
use Rattle.integers.specs.Answers.{Read}
use Rattle.integers.specs.declared.answer.Refusal.TheVariants.{Padded}

-- "exactly one accepted form": w is one, and no other list of bytes is
abbrev pub OnlyForm : (List ℕ → Type 0) → List ℕ → Type 0
OnlyForm Accepted w = Accepted w × ((s : List ℕ) → Accepted s → s ≡ w)

-- what the reader takes of two lists of bytes, where that says the same with the same strings packed, is the same bytes
abbrev pub Alike : (List ℕ → Read InstructionPlace) → Type 0
Alike reader = (s t : List ℕ) → Small s → Small t → (p q : InstructionPlace) (n m : ℕ) → reader s ≡ Ok (p, n) → reader t ≡ Ok (q, m)
    → instruction_of s p ≡ instruction_of t q → packed_instruction p ≡ packed_instruction q → part s 0 n ≡ part t 0 m

-- "This holds in every place an integer is read", whatever the value: before 5, 13 and 14. The readers of instructions and blocks pass on what these answer.
pub record PaddedPlaces : Type 0 where
  -- the index of an insert (7 bits), of a delete and of an acknowledgement (6 bits)
  pub index : (k : ℕ) (s : List ℕ) → k ≤ 8 → PaddedInt k s 0 → read_index k s ≡ Err Padded
  -- the name index of an insert (8 bits) and of a literal (6 bits)
  pub name_index : (k : ℕ) (s : List ℕ) (at : ℕ) → k ≤ 8 → PaddedInt k s at → read_name k s at ≡ Err Padded
  -- a string's length, plain or packed, of a name or of a value
  pub string_length_lem : (s : List ℕ) (at limit : ℕ) → PaddedInt 7 s at → read_string s at limit ≡ Err Padded
  -- a stream list's horizon, its count and its deltas
  pub horizon : (s : List ℕ) (at : ℕ) → PaddedInt 8 s at → read_list s at ≡ Err Padded
  pub count : (s : List ℕ) (at h next : ℕ) → read_int 8 s at ≡ value h next → h ≤ horizon_limit → PaddedInt 8 s next → read_list s at ≡ Err Padded
  pub delta : (s : List ℕ) (at last : ℕ) → PaddedInt 8 s at → read_delta s at last ≡ Err Padded
  -- the index of a block's indexed representation
  pub indexed : (s : List ℕ) (at : ℕ) → PaddedInt 7 s at → read_indexed s at ≡ Err Padded

pub record FormsClaim : Type 0 where
  -- "each integer up to 2^27 − 1 has exactly one accepted form per prefix width, shown once over the width": for every width k from 1 to 8 (a wider
  -- prefix is no part of a byte), every setting t * 2^k of the bits above it and every value
  pub one_integer : (k t v : ℕ) → t * 2 ^ k + 2 ^ k ≤ 256 → v ≤ largest → OnlyForm (IntForm k (t * 2 ^ k) v) (int_wire k (t * 2 ^ k) v)
  -- "A wire integer whose last group is zero, and is not its only group, now gets new answer 19", and nothing else gets it
  pub padded : (k : ℕ) (s : List ℕ) (at : ℕ) → k ≤ 8 → PaddedInt k s at → read_int k s at ≡ Err Padded
  pub only_padded : (k : ℕ) (s : List ℕ) (at : ℕ) → read_int k s at ≡ Err Padded → PaddedInt k s at
  pub everywhere : PaddedPlaces
  -- "An insurer compares recordings byte by byte": given what it says and which of its strings are packed, exactly one form is accepted,
  -- for the decoder of an insert or a delete,
  pub one_for_decoder : (packed : Packed) (i : Instruction) → Manages i → FineInstruction i → FitInstruction packed i
      → OnlyForm (AcceptedInstruction read_for_decoder packed i) (instruction_form packed i)
  -- for the encoder of an acknowledgement,
  pub one_for_encoder : (i : ℕ) → FineIndex i
      → OnlyForm (AcceptedInstruction read_for_encoder none (acknowledge i)) (instruction_form none (acknowledge i))
  -- and of a block
  pub one_block : (packed : List Packed) (rs : List Representation) → FitBlock packed rs → length (block_form packed rs) ≤ block_limit
      → OnlyForm (AcceptedBlock packed rs) (block_form packed rs)
  -- the same with other bytes behind an instruction
  pub decoder_alike : Alike read_for_decoder
  pub encoder_alike : Alike read_for_encoder
  -- and of two blocks that are read as the same
  pub blocks_alike : (s t : List ℕ) → Small s → Small t → (rs : List Representation) → read_block s ≡ block rs → read_block t ≡ block rs
      → packed_block s ≡ packed_block t → s ≡ t
  -- what our encoder writes is the form with the strings packed that it packs
  pub our_instruction_lem : (i : Instruction) → instruction_wire i ≡ instruction_form (our_instruction i) i
  pub our_block_lem : (rs : List Representation) → block_wire rs ≡ block_form (our_block rs) rs
