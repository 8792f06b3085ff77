-- The code of at most 8 bits that begins 8 bits.
use Rattle.std.specs.Prelude.{ℕ, ◌+◌, ◌-◌, ◌*◌, ◌/◌, ◌^◌, Bool, false, List, [], ◌∷◌, eqb, leb}
use Rattle.memory.specs.Choice.{pick}
use Rattle.huffman.specs.Codes.{Code, codes}

-- has the code at most 8 bits, and does it begin these 8?
unfoldable pub is_short : Code → ℕ → Bool
is_short c x = pick (leb c.size 8) (eqb (x / 2 ^ (8 - c.size)) c.value) false

-- the first such entry of these, which are numbered from i on, times 256, and its code's size; 64 where there is none
unfoldable pub short_in : List Code → ℕ → ℕ → ℕ
short_in [] i x = 64
short_in (c ∷ cs) i x = pick (is_short c x) (i * 256 + c.size) (short_in cs (i + 1) x)

unfoldable pub short_of : ℕ → ℕ
short_of x = short_in codes 0 x
