-- A turn of unpacking: the code that begins the bits that wait is a byte's and is taken off, or there is none and the string ends.
use Rattle.std.specs.Prelude.{ℕ, suc, ◌-◌, ◌*◌, ◌/◌, ◌%◌, ◌^◌, ◌<◌, ◌≤◌, ◌≡◌, ◌++◌, Option, Some, None}
use Rattle.huffman.specs.Codes.{code_of}
use Rattle.huffman.specs.Packing.{code_bits, padding, ended, unpack_bits}
use Rattle.short_codes.specs.Short.{short_of}
use Rattle.long_codes.specs.Fronts.{LongCode}
use Rattle.unpacking.specs.declared.bits.Bits.{Bits}
use Rattle.unpacking.specs.Waiting.{highest, waiting}

-- entry i's code begins the 64 bits of w
abbrev pub Begun : ℕ → ℕ → Type 0
Begun w i = w / 2 ^ (64 - (code_of i).size) ≡ (code_of i).value

-- a byte's code begins them, and the n bits which wait hold it
pub record Taken (w n byte size : ℕ) : Type 0 where
  pub within : byte < 256
  pub sized : size ≡ (code_of byte).size
  pub front : Begun w byte
  pub fits : size ≤ n

-- neither a short code nor a long one begins them that the n bits hold
pub record NoneHeld (w n : ℕ) : Type 0 where
  pub short : n < short_of (w / 2 ^ 56) % 256
  pub long : 10 ≤ n → (d : ℕ) × LongCode (w / 2 ^ 32) d × (n < d % 256)

-- the bits behind the first ones
pub record TakenOff (b : Bits) (size : ℕ) (r : Bits) : Type 0 where
  pub w_is : r.w ≡ b.w * 2 ^ size % 2 ^ 64
  pub n_is : r.n ≡ b.n - size
  pub bytes_are : r.bytes.now ≡ b.bytes.now

-- a byte's code stands before the bits that wait now
pub record Took (b r : Bits) (byte : ℕ) : Type 0 where
  pub within : byte < 256
  pub code : waiting b ≡ code_bits byte ++ waiting r

-- the bits give no byte, and say whether the string is whole
pub record Stopped (b r : Bits) : Type 0 where
  pub ends : (fuel : ℕ) → unpack_bits (suc fuel) (waiting b) ≡ ended (padding (highest r.n r.w))

abbrev pub Turn : Bits → Bits → Option ℕ → Type 0
Turn b r (Some byte) = Took b r byte
Turn b r None = Stopped b r
