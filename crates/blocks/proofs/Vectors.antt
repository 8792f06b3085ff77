-- Closed examples from the definitions: RFC 7541, C.2.2 and C.2.4, and document 01's blocks.
-- By computing: each is `refl`.
use mathlib.Core.Path.{◌≡◌, refl}
use mathlib.Core.List.{List, [], ◌∷◌}
use Prim.Native.Nat.{ℕ}
use lib.Dec.{eqb}
use Rattle.memory.specs.Choice.{pick}
use Rattle.integers.specs.Integer.{read_int, groups, int_wire, group_wire}
use Rattle.huffman.specs.Codes.{codes, code_of}
use Rattle.huffman.specs.Bits.{bits_of, value_of, bytes_of}
use Rattle.huffman.specs.Packing.{code_bits, codes_of, codes_size, packed_size, pack}
use Rattle.wire.specs.Text.{plain_place, text_at, read_string, string_after, string_end, string_bytes, all_bytes, packs, string_wire}
use Rattle.wire.specs.Name.{Name, read_name, name_wire}
use Rattle.statics.specs.Ascii.{bytes}
use Rattle.statics.specs.Table.{entries, entry_at}
use Rattle.blocks.specs.Representation.{indexed, literal, representation_wire, block_wire}
use Rattle.blocks.specs.Reading.{read_indexed, read_literal, read_representation, block, refused, block_from, read_block}
use Rattle.blocks.specs.Meaning.{Slot, vacant, holds, is_static, with_statics, field_meaning, BlockMeaning, list, block_meaning}
use Rattle.wire.specs.declared.name.NamePlace.TheVariants.{Index}
use Rattle.blocks.specs.declared.read.RepresentationPlace.TheVariants.{Literal}
use Rattle.integers.specs.declared.answer.Refusal.TheVariants.{NotAllowed}
use Rattle.std.specs.Prelude.{Ok}

abbrev sample : List ℕ
sample = 0x04 ∷ 0x0c ∷ 0x2f ∷ 0x73 ∷ 0x61 ∷ 0x6d ∷ 0x70 ∷ 0x6c ∷ 0x65 ∷ 0x2f ∷ 0x70 ∷ 0x61 ∷ 0x74 ∷ 0x68 ∷ []

pub reading : (read_representation sample 0 ≡ Ok (Literal 0 (Index (record { value = 4 })) (plain_place 2 12), 14))
    × (read_block sample ≡ block (literal 0 (Name.indexed 4) (bytes "/sample/path") ∷ []))
    × (read_block (0x82 ∷ []) ≡ block (indexed 2 ∷ []))
    × (read_block (0xbe ∷ 0x82 ∷ []) ≡ block (indexed 62 ∷ indexed 2 ∷ []))
    × (read_block (0x7e ∷ 0x01 ∷ 0x37 ∷ []) ≡ block (literal 1 (Name.indexed 62) (0x37 ∷ []) ∷ []))
    × (read_block (0x80 ∷ []) ≡ refused NotAllowed)
    × (read_block [] ≡ block [])
unfolding read_int groups read_string string_after string_end text_at string_bytes read_name read_indexed read_literal read_representation block_from read_block
reading = (refl, refl, refl, refl, refl, refl, refl)

-- what is written for these: the longer string is packed
pub writing : (block_wire (literal 0 (Name.indexed 4) (bytes "/sample/path") ∷ []) ≡ 0x04 ∷ 0x89 ∷ 0x61 ∷ 0x03 ∷ 0xa6 ∷ 0xba ∷ 0x0a ∷ 0xc5 ∷ 0x63 ∷ 0x4c ∷ 0xff ∷ [])
    × (block_wire (indexed 62 ∷ indexed 2 ∷ []) ≡ 0xbe ∷ 0x82 ∷ [])
    × (block_wire (literal 1 (Name.indexed 62) (0x37 ∷ []) ∷ []) ≡ 0x7e ∷ 0x01 ∷ 0x37 ∷ [])
unfolding int_wire group_wire codes code_of bits_of value_of bytes_of code_bits codes_of codes_size packed_size pack all_bytes packs string_wire name_wire representation_wire block_wire
writing = (refl, refl, refl)

-- index 62 holds what is given, and all above are vacant
abbrev only : Slot → ℕ → Slot
only slot i = pick (eqb i 62) slot vacant

pub meaning : (block_meaning (with_statics (only (holds (record { name = bytes "h"; value = bytes "9" })))) (indexed 62 ∷ indexed 2 ∷ [])
    ≡ list (record { flag = 0; name = bytes "h"; value = bytes "9" } ∷ record { flag = 0; name = bytes ":method"; value = bytes "GET" } ∷ []))
    × (block_meaning (with_statics (only vacant)) (indexed 62 ∷ indexed 2 ∷ []) ≡ BlockMeaning.waits 62)
    × (block_meaning (with_statics (only vacant)) [] ≡ list [])
unfolding is_static with_statics entry_at entries field_meaning block_meaning
meaning = (refl, refl, refl)

-- "Indexes 1 to 61 are static": over an empty header table 0 and 62 are vacant
pub statics : (with_statics (λ i. vacant) 0 ≡ vacant)
    × (with_statics (λ i. vacant) 1 ≡ holds (record { name = bytes ":authority"; value = [] }))
    × (with_statics (λ i. vacant) 61 ≡ holds (record { name = bytes "www-authenticate"; value = [] }))
    × (with_statics (λ i. vacant) 62 ≡ vacant)
unfolding is_static with_statics entry_at entries
statics = (refl, refl, refl, refl)
