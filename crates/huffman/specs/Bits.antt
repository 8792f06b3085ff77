-- Bits, the highest first: of a number, and of bytes one after another.
use Rattle.std.specs.Prelude.{ℕ, zero, suc, ◌+◌, ◌/◌, ◌%◌, ◌^◌, ◌≤◌, ◌≡◌, Bool, true, false, List, [], ◌∷◌, ◌++◌, length, take, drop, replicate, eqb}
use Rattle.memory.specs.Choice.{pick}

-- the n lowest bits of v
unfoldable pub bits_of : ℕ → ℕ → List Bool
bits_of zero v = []
bits_of (suc n) v = eqb (v / 2 ^ n % 2) 1 ∷ bits_of n v

-- r has the bits of u with those of a value of m bits behind them
unfoldable pub Pushed : ℕ → ℕ → ℕ → ℕ → Type 0
Pushed u m value r = (n : ℕ) → n + m ≤ 64 → bits_of (n + m) r ≡ bits_of n u ++ bits_of m value

-- the number that bits say
unfoldable pub value_of : List Bool → ℕ
value_of [] = 0
value_of (b ∷ r) = pick b (2 ^ length r) 0 + value_of r

-- the bits of bytes
unfoldable pub bits : List ℕ → List Bool
bits [] = []
bits (x ∷ xs) = bits_of 8 x ++ bits xs

-- the first n bytes that bits say
unfoldable pub bytes_of : ℕ → List Bool → List ℕ
bytes_of zero r = []
bytes_of (suc n) r = value_of (take 8 r) ∷ bytes_of n (drop 8 r)

-- n bits, all ones
abbrev pub ones : ℕ → List Bool
ones n = replicate n true

-- does the first list begin the second?
unfoldable pub begins : List Bool → List Bool → Bool
begins [] r = true
begins (b ∷ p) [] = false
begins (true ∷ p) (true ∷ r) = begins p r
begins (true ∷ p) (false ∷ r) = false
begins (false ∷ p) (true ∷ r) = false
begins (false ∷ p) (false ∷ r) = begins p r
