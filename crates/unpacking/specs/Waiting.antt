-- The bits of a packed string that wait to be read, and what is told of it.
use Rattle.std.specs.Prelude.{ℕ, ◌+◌, ◌-◌, ◌/◌, ◌^◌, ◌<◌, ◌≡◌, Bool, List, ◌++◌, length}
use Rattle.huffman.specs.Bits.{bits_of, bits}
use Rattle.huffman.specs.Packing.{Unpacked}
use Rattle.unpacking.specs.declared.bits.Bits.{Bits}
use Rattle.unpacking.specs.declared.unpack.UnpackedSize.{UnpackedSize}
use Rattle.unpacking.specs.declared.unpack.UnpackedEnd.{UnpackedEnd}

-- the n highest of the 64 bits of w
unfoldable pub highest : ℕ → ℕ → List Bool
highest n w = bits_of n (w / 2 ^ (64 - n))

-- these, and then the bits of bytes
unfoldable pub bits_then : ℕ → ℕ → List ℕ → List Bool
bits_then w n bytes = highest n w ++ bits bytes

-- the bits that wait
abbrev pub waiting : Bits → List Bool
waiting b = bits_then b.w b.n b.bytes.now

-- the same bits wait, and 32 of them in w while there are bytes
pub record Refilled (b r : Bits) : Type 0 where
  pub same : waiting r ≡ waiting b
  pub full : r.n < 32 → length r.bytes.now ≡ 0

-- how many bytes, and is the string whole?
abbrev pub size_of : Unpacked → UnpackedSize
size_of u = record { count = length u.bytes; whole = u.whole }

-- the place after the bytes from a place on, and is the string whole?
abbrev pub end_of : ℕ → Unpacked → UnpackedEnd
end_of at u = record { next = at + length u.bytes; whole = u.whole }
