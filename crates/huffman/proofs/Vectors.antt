-- Strings of RFC 7541, C.4 and C.6, and strings with a fault, computed.
use mathlib.Core.Path.{◌≡◌, refl}
use mathlib.Core.Bool.{false}
use Prim.Native.Nat.{ℕ}
use mathlib.Core.List.{List, [], ◌∷◌}
use Rattle.huffman.specs.Codes.{codes, code_of}
use Rattle.huffman.specs.Bits.{bits_of, value_of, bits, bytes_of, begins}
use Rattle.huffman.specs.Packing.{code_bits, codes_of, codes_size, packed_size, pack, whole, standing_in, standing, padding, unpack_bits, unpack}

-- "www.example.com", C.4.1
abbrev site : List ℕ
site = 119 ∷ 119 ∷ 119 ∷ 46 ∷ 101 ∷ 120 ∷ 97 ∷ 109 ∷ 112 ∷ 108 ∷ 101 ∷ 46 ∷ 99 ∷ 111 ∷ 109 ∷ []

abbrev packed_site : List ℕ
packed_site = 0xf1 ∷ 0xe3 ∷ 0xc2 ∷ 0xe5 ∷ 0xf2 ∷ 0x3a ∷ 0x6b ∷ 0xa0 ∷ 0xab ∷ 0x90 ∷ 0xf4 ∷ 0xff ∷ []

pub site-packed : pack site ≡ packed_site
unfolding pack packed_size codes_size codes_of code_bits code_of codes bits_of value_of bytes_of
site-packed = refl

-- "302", C.6.1
pub status-packed : pack (51 ∷ 48 ∷ 50 ∷ []) ≡ 0x64 ∷ 0x02 ∷ []
unfolding pack packed_size codes_size codes_of code_bits code_of codes bits_of value_of bytes_of
status-packed = refl

-- "no-cache", C.4.2
pub cache-unpacked : unpack (0xa8 ∷ 0xeb ∷ 0x10 ∷ 0x64 ∷ 0x9c ∷ 0xbf ∷ []) ≡ whole (110 ∷ 111 ∷ 45 ∷ 99 ∷ 97 ∷ 99 ∷ 104 ∷ 101 ∷ [])
unfolding unpack unpack_bits standing standing_in padding begins bits bits_of code_of codes
cache-unpacked = refl

-- "0", and then three ones and eight more: a padding that is too long
pub long-padding : unpack (0x07 ∷ 0xff ∷ []) ≡ record { bytes = 48 ∷ []; whole = false }
unfolding unpack unpack_bits standing standing_in padding begins bits bits_of code_of codes
long-padding = refl

-- "0", padded with zeros
pub zero-padding : unpack (0x00 ∷ []) ≡ record { bytes = 48 ∷ []; whole = false }
unfolding unpack unpack_bits standing standing_in padding begins bits bits_of code_of codes
zero-padding = refl

-- the end mark
pub end_mark_lem : unpack (0xff ∷ 0xff ∷ 0xff ∷ 0xff ∷ []) ≡ record { bytes = []; whole = false }
unfolding unpack unpack_bits standing standing_in padding begins bits bits_of code_of codes
end_mark_lem = refl
