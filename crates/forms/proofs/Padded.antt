-- Padded integers in the places that an instruction or a block has one, computed at the edges: 19, where the one form of the same value gets 5, 13 or 14 too.
-- That it is so for every padded integer says `PaddedPlaces`. By computing: each is `refl`.
use mathlib.Core.Path.{◌≡◌, refl}
use mathlib.Core.List.{[], ◌∷◌}
use Rattle.integers.specs.Integer.{read_int, groups}
use Rattle.wire.specs.Text.{text_at, read_string, string_after, string_end}
use Rattle.wire.specs.Name.{read_name}
use Rattle.stream_lists.specs.StreamList.{read_delta, read_deltas, read_list}
use Rattle.instructions.specs.Reading.{read_index, read_insert, read_delete, read_acknowledgement, read_for_decoder, read_for_encoder}
use Rattle.blocks.specs.Reading.{read_indexed, read_literal, read_representation, refused, block_from, read_block}
use Rattle.std.specs.Prelude.{Err}
use Rattle.integers.specs.declared.answer.Refusal.TheVariants.{BadStreamList, NotAllowed, Padded, TooLong}

-- an insert's index, its name's index, its name's length (plain 256 and packed 1,021, which are 13 in their one form, and packed 127), and its value's
-- length (127, and 2,048, which is 13 in its one form)
abbrev Inserts : Type 0
Inserts = (read_for_decoder (0xff ∷ 0x80 ∷ 0x00 ∷ []) ≡ Err Padded)
    × (read_for_decoder (0xbe ∷ 0xff ∷ 0x80 ∷ 0x00 ∷ []) ≡ Err Padded)
    × (read_for_decoder (0xbe ∷ 0x00 ∷ 0x7f ∷ 0x81 ∷ 0x81 ∷ 0x00 ∷ []) ≡ Err Padded)
    × (read_for_decoder (0xbe ∷ 0x00 ∷ 0x7f ∷ 0x81 ∷ 0x01 ∷ []) ≡ Err TooLong)
    × (read_for_decoder (0xbe ∷ 0x00 ∷ 0xff ∷ 0xfe ∷ 0x86 ∷ 0x00 ∷ []) ≡ Err Padded)
    × (read_for_decoder (0xbe ∷ 0x00 ∷ 0xff ∷ 0xfe ∷ 0x06 ∷ []) ≡ Err TooLong)
    × (read_for_decoder (0xbe ∷ 0x00 ∷ 0xff ∷ 0x80 ∷ 0x00 ∷ []) ≡ Err Padded)
    × (read_for_decoder (0xbe ∷ 0x01 ∷ 0x7f ∷ 0x80 ∷ 0x00 ∷ []) ≡ Err Padded)
    × (read_for_decoder (0xbe ∷ 0x01 ∷ 0x7f ∷ 0x81 ∷ 0x8f ∷ 0x00 ∷ []) ≡ Err Padded)
    × (read_for_decoder (0xbe ∷ 0x01 ∷ 0x7f ∷ 0x81 ∷ 0x0f ∷ []) ≡ Err TooLong)

pub inserts : Inserts
unfolding read_for_decoder read_insert read_index read_name read_string string_after string_end text_at read_int groups
inserts = (refl, refl, refl, refl, refl, refl, refl, refl, refl, refl)

-- a delete's index, its horizon (4,097, which is 14 in its one form), its count (255, the same), a delta (255, and 4,096, the same), a second delta,
-- and those of its second list
abbrev Deletes : Type 0
Deletes = (read_for_decoder (0x3f ∷ 0x80 ∷ 0x00 ∷ []) ≡ Err Padded)
    × (read_for_decoder (0x3e ∷ 0xff ∷ 0x82 ∷ 0x9e ∷ 0x00 ∷ []) ≡ Err Padded)
    × (read_for_decoder (0x3e ∷ 0xff ∷ 0x82 ∷ 0x1e ∷ []) ≡ Err BadStreamList)
    × (read_for_decoder (0x3e ∷ 0x00 ∷ 0xff ∷ 0x80 ∷ 0x00 ∷ []) ≡ Err Padded)
    × (read_for_decoder (0x3e ∷ 0x00 ∷ 0xff ∷ 0x00 ∷ []) ≡ Err BadStreamList)
    × (read_for_decoder (0x3e ∷ 0x00 ∷ 0x01 ∷ 0xff ∷ 0x80 ∷ 0x00 ∷ []) ≡ Err Padded)
    × (read_for_decoder (0x3e ∷ 0x00 ∷ 0x01 ∷ 0xff ∷ 0x81 ∷ 0x9e ∷ 0x00 ∷ []) ≡ Err Padded)
    × (read_for_decoder (0x3e ∷ 0x00 ∷ 0x01 ∷ 0xff ∷ 0x81 ∷ 0x1e ∷ []) ≡ Err BadStreamList)
    × (read_for_decoder (0x3e ∷ 0x00 ∷ 0x02 ∷ 0x01 ∷ 0xff ∷ 0x80 ∷ 0x00 ∷ []) ≡ Err Padded)
    × (read_for_decoder (0x3e ∷ 0x00 ∷ 0x00 ∷ 0xff ∷ 0x80 ∷ 0x00 ∷ []) ≡ Err Padded)
    × (read_for_decoder (0x3e ∷ 0x00 ∷ 0x00 ∷ 0x00 ∷ 0xff ∷ 0x80 ∷ 0x00 ∷ []) ≡ Err Padded)
    × (read_for_decoder (0x3e ∷ 0x00 ∷ 0x00 ∷ 0x00 ∷ 0x01 ∷ 0xff ∷ 0x80 ∷ 0x00 ∷ []) ≡ Err Padded)

pub deletes : Deletes
unfolding read_for_decoder read_delete read_index read_list read_deltas read_delta read_int groups
deletes = (refl, refl, refl, refl, refl, refl, refl, refl, refl, refl, refl, refl)

-- an acknowledgement's index
pub acknowledgement : read_for_encoder (0x7f ∷ 0x80 ∷ 0x00 ∷ []) ≡ Err Padded
unfolding read_for_encoder read_acknowledgement read_index read_int groups
acknowledgement = refl

-- an index, a literal's name index, its name's length and its value's; index 0 is no padded one, and 5
abbrev Blocks : Type 0
Blocks = (read_block (0xff ∷ 0x80 ∷ 0x00 ∷ []) ≡ refused Padded)
    × (read_block (0x80 ∷ []) ≡ refused NotAllowed)
    × (read_block (0x3f ∷ 0x80 ∷ 0x00 ∷ []) ≡ refused Padded)
    × (read_block (0x00 ∷ 0x7f ∷ 0x80 ∷ 0x00 ∷ []) ≡ refused Padded)
    × (read_block (0x01 ∷ 0xff ∷ 0x80 ∷ 0x00 ∷ []) ≡ refused Padded)

pub blocks : Blocks
unfolding read_int groups read_string string_after string_end text_at read_name read_indexed read_literal read_representation block_from read_block
blocks = (refl, refl, refl, refl, refl)
