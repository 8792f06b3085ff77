-- Bytes packed from a place on, within an end.
use Rattle.std.specs.Prelude.{ℕ, ◌+◌, ◌-◌, ◌≤◌, ◌<◌, ◌≡◌, List, length, leb, Option, Some, None}
use Rattle.memory.specs.Bytes.{overlay}
use Rattle.memory.specs.Choice.{pick}
use Rattle.huffman.specs.Packing.{packed_size, pack}

-- the place after them, if it is not past the end
unfoldable pub packed_in : List ℕ → ℕ → ℕ → Option ℕ
packed_in s at end = pick (leb (at + packed_size s) end) (Some (at + packed_size s)) None

-- what that leaves of an output: the packed bytes stand in it, or other bytes that are not said, none of them behind the end
pub record PackedOver (s : List ℕ) (at end : ℕ) (out out' : List ℕ) : Type 0 where
  pub fits : at + packed_size s ≤ end → out' ≡ overlay out at (pack s)
  pub longer : end < at + packed_size s → (junk : List ℕ) × (length junk ≤ end - at) × (out' ≡ overlay out at junk)
