-- At most 16 bytes as two words: one at their start and one at their end, which may overlap.
use Rattle.std.specs.Prelude.{ℕ, ◌-◌, List, length, leb}
use Rattle.memory.specs.Choice.{pick}
use Rattle.memory.specs.Numbers.{number}
use Rattle.static_search.specs.declared.ends.Ends.{Ends}

-- how many bytes each of the two words has, of n bytes in all
unfoldable pub width_of : ℕ → ℕ
width_of n = pick (leb 8 n) 8 (pick (leb 4 n) 4 (pick (leb 2 n) 2 n))

unfoldable pub ends_of : List ℕ → Ends
ends_of b = record { first = number (width_of (length b)) b 0; last = number (width_of (length b)) b (length b - width_of (length b)) }
