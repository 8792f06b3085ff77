-- Numbers in memory: n bytes, the lowest first.
use Rattle.std.specs.Prelude.{ℕ, zero, suc, ◌+◌, ◌*◌, ◌/◌, ◌%◌, List, [], ◌∷◌, get_or}

-- the number in the n bytes from the place at on
unfoldable pub number : ℕ → List ℕ → ℕ → ℕ
number zero l at = 0
number (suc n) l at = get_or l at 0 + 256 * number n l (at + 1)

-- the n bytes of the number v
unfoldable pub number_bytes : ℕ → ℕ → List ℕ
number_bytes zero v = []
number_bytes (suc n) v = v % 256 ∷ number_bytes n (v / 256)
