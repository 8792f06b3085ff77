-- How a string is written: the room that its packed bytes get before it is known whether they are fewer.
use Rattle.std.specs.Prelude.{ℕ, ◌+◌, ◌≤◌, ◌<◌, ◌≡◌, true, false, List, ◌++◌, length}
use Rattle.memory.specs.Bytes.{overlay}
use Rattle.integers.specs.Integer.{int_wire}
use Rattle.huffman.specs.Packing.{packed_size}
use Rattle.wire_writing.specs.declared.write.PackedRoom.{PackedRoom}

-- a string plain: its length without the H bit, then its bytes
unfoldable pub plain_wire : List ℕ → List ℕ
plain_wire xs = int_wire 7 0 (length xs) ++ xs

-- the length of a string's packed bytes, with the H bit
abbrev pub packed_length : List ℕ → List ℕ
packed_length xs = int_wire 7 128 (packed_size xs)

-- the room for the packed bytes of xs at a place of `out`, of which `out'` is left. Tried: up to one byte before the plain form ends, with a byte for the length;
-- shut: they are not fewer; told: their length stands before it
pub data RoomMade (xs : List ℕ) (at : ℕ) (out out' : List ℕ) (r : PackedRoom) : Type 0 where
  tried : length xs < 127 → at + length xs < length out → r ≡ record { start = at + 1; end = at + length xs; counted = false } → out' ≡ out
      → RoomMade xs at out out' r
  shut : length xs ≤ packed_size xs → r ≡ record { start = at + 1; end = at; counted = true } → out' ≡ out → RoomMade xs at out out' r
  told : packed_size xs < length xs
      → r ≡ record { start = at + length (packed_length xs); end = at + length (packed_length xs) + packed_size xs; counted = true }
      → out' ≡ overlay out at (packed_length xs) → RoomMade xs at out out' r
