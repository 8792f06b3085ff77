-- Packed strings as bytes, from the definition: the answers of a string in their order, at the edges.
-- By computing: each is `refl`.
use mathlib.Core.Path.{◌≡◌, refl}
use mathlib.Core.List.{[], ◌∷◌}
use mathlib.Core.Bool.{true}
use Rattle.integers.specs.Integer.{read_int, groups}
use Rattle.huffman.specs.Codes.{codes, code_of}
use Rattle.huffman.specs.Bits.{bits_of, bits, begins}
use Rattle.huffman.specs.Packing.{standing_in, standing, padding, unpack_bits, unpack}
use Rattle.wire.specs.Text.{text_at, string_end, string_after, read_string}
use Rattle.std.specs.Prelude.{Ok, Err}
use Rattle.integers.specs.declared.answer.Refusal.TheVariants.{BadPacking, TooLong, Truncated}

-- 18 C0 says "aa0" and bad padding, FF FF FF FC 00 00 the end mark and what follows it
pub packed : (read_string (0x82 ∷ 0x18 ∷ 0xC0 ∷ []) 0 1 ≡ Err TooLong)
    × (read_string (0x82 ∷ 0x18 ∷ 0xC0 ∷ []) 0 3 ≡ Err BadPacking)
    × (read_string (0x85 ∷ []) 0 1 ≡ Err TooLong)
    × (read_string (0x84 ∷ []) 0 1 ≡ Err Truncated)
    × (read_string (0x82 ∷ 0x18 ∷ []) 0 1 ≡ Err Truncated)
    × (read_string (0x86 ∷ 0xFF ∷ 0xFF ∷ 0xFF ∷ 0xFC ∷ 0x00 ∷ 0x00 ∷ []) 0 2 ≡ Err BadPacking)
    × (read_string (0x80 ∷ []) 0 0 ≡ Ok (record { start = 1; size = 0; packed = true; length = 0 }, 1))
    × (read_string (0x81 ∷ 0x1F ∷ []) 0 1 ≡ Ok (record { start = 1; size = 1; packed = true; length = 1 }, 2))
unfolding read_int groups codes code_of bits_of bits begins standing_in standing padding unpack_bits unpack text_at string_end string_after read_string
packed = (refl, refl, refl, refl, refl, refl, refl, refl)
