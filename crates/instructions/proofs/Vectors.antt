-- Instructions of document 01 as bytes, written and read, from the definitions.
-- By computing: each is `refl`.
use mathlib.Core.Path.{◌≡◌, refl}
use mathlib.Core.List.{List, [], ◌∷◌}
use Prim.Native.Nat.{ℕ}
use Rattle.integers.specs.Integer.{read_int, groups, int_wire, group_wire}
use Rattle.huffman.specs.Codes.{codes, code_of}
use Rattle.huffman.specs.Packing.{codes_size, packed_size}
use Rattle.wire.specs.Text.{plain_place, text_at, string_bytes, string_after, string_end, read_string, all_bytes, packs, string_wire}
use Rattle.wire.specs.Name.{Name, read_name, name_wire}
use Rattle.stream_lists.specs.StreamList.{StreamList, read_delta, read_deltas, streams_from, read_list, deltas_wire, list_wire}
use Rattle.wire.specs.declared.name.NamePlace.TheVariants.{Text}
use Rattle.instructions.specs.Instruction.{Instruction, insert, delete, acknowledge, instruction_wire}
use Rattle.instructions.specs.Reading.{read_index, read_insert, read_delete, read_acknowledgement, read_for_decoder, read_for_encoder, instruction_of}
use Rattle.instructions.specs.declared.read.InstructionPlace.{InstructionPlace}
use Rattle.instructions.specs.declared.read.InstructionPlace.TheVariants.{Insert, Delete, Acknowledge}
use Rattle.std.specs.Prelude.{Ok, Err}
use Rattle.integers.specs.declared.answer.Refusal.TheVariants.{NotAllowed, TooLarge, Truncated}

abbrev none : StreamList
none = record { horizon = 0; streams = [] }

-- h = 9 at 62
abbrev pub bytes : List ℕ
bytes = 0xbe ∷ 0x00 ∷ 0x01 ∷ 0x68 ∷ 0x01 ∷ 0x39 ∷ []

abbrev pub inserted : Instruction
inserted = insert 62 (Name.literal (0x68 ∷ [])) (0x39 ∷ [])

-- the largest index starts FF 80 FF FF 3F, and a list of none follows a delete's index as 00 00
abbrev Written : Type 0
Written = (instruction_wire (insert 127 (Name.indexed 1) []) ≡ 0xff ∷ 0x00 ∷ 0x01 ∷ 0x00 ∷ [])
    × (instruction_wire (insert 134217727 (Name.indexed 1) []) ≡ 0xff ∷ 0x80 ∷ 0xff ∷ 0xff ∷ 0x3f ∷ 0x01 ∷ 0x00 ∷ [])
    × (instruction_wire (delete 62 none none) ≡ 0x3e ∷ 0x00 ∷ 0x00 ∷ 0x00 ∷ 0x00 ∷ [])
    × (instruction_wire (delete 63 none none) ≡ 0x3f ∷ 0x00 ∷ 0x00 ∷ 0x00 ∷ 0x00 ∷ 0x00 ∷ [])
    × (instruction_wire (acknowledge 62) ≡ 0x7e ∷ [])
    × (instruction_wire (acknowledge 63) ≡ 0x7f ∷ 0x00 ∷ [])
    × (instruction_wire inserted ≡ bytes)

pub written : Written
unfolding instruction_wire int_wire group_wire name_wire codes code_of codes_size packed_size all_bytes packs string_wire list_wire deltas_wire
written = (refl, refl, refl, refl, refl, refl, refl)

-- an index above the largest: 3; an acknowledgement for the decoder: 5; nothing: 2
abbrev Refusals : Type 0
Refusals = (read_for_decoder (0xff ∷ 0x81 ∷ 0xff ∷ 0xff ∷ 0x3f ∷ 0x01 ∷ 0x00 ∷ []) ≡ Err TooLarge)
    × (read_for_decoder (0x7f ∷ []) ≡ Err NotAllowed)
    × (read_for_encoder (0xff ∷ []) ≡ Err NotAllowed)
    × (read_for_encoder (0x3e ∷ []) ≡ Err NotAllowed)
    × (read_for_decoder [] ≡ Err Truncated)
    × (read_for_encoder [] ≡ Err Truncated)
    × (read_for_decoder (0xbd ∷ 0x01 ∷ 0x00 ∷ []) ≡ Err NotAllowed)
    × (read_for_decoder (0x3d ∷ []) ≡ Err NotAllowed)
    × (read_for_encoder (0x7d ∷ []) ≡ Err NotAllowed)
    × (read_for_encoder (0x7f ∷ []) ≡ Err Truncated)

pub refusals : Refusals
unfolding read_for_decoder read_for_encoder read_acknowledgement read_insert read_delete read_index read_int groups
refusals = (refl, refl, refl, refl, refl, refl, refl, refl, refl, refl)

-- found at the place p
abbrev Decoded : List ℕ → InstructionPlace → ℕ → Instruction → Type 0
Decoded s p taken i = (read_for_decoder s ≡ Ok (p, taken)) × (instruction_of s p ≡ i)

pub decoded : Decoded bytes (Insert (record { value = 62 }) (Text (plain_place 3 1)) (plain_place 5 1)) 6 inserted
unfolding read_for_decoder read_insert read_index read_name read_string string_after string_end text_at string_bytes read_int groups
decoded = (refl, refl)

-- a delete with horizon 5 for non-trailer blocks and 0 for trailer blocks, and no streams listed
pub deleted : Decoded (0x3e ∷ 0x05 ∷ 0x00 ∷ 0x00 ∷ 0x00 ∷ [])
    (Delete (record { value = 62 }) (record { horizon = 5; count = 0; deltas = 3 }) (record { horizon = 0; count = 0; deltas = 5 })) 5
    (delete 62 (record { horizon = 5; streams = [] }) none)
unfolding read_for_decoder read_delete read_index read_list read_deltas read_delta streams_from read_int groups
deleted = (refl, refl)

pub acknowledged : (read_for_encoder (0x7e ∷ []) ≡ Ok (Acknowledge (record { value = 62 }), 1))
    × (read_for_encoder (0x7f ∷ 0x00 ∷ []) ≡ Ok (Acknowledge (record { value = 63 }), 2))
unfolding read_for_encoder read_acknowledgement read_index read_int groups
acknowledged = (refl, refl)
