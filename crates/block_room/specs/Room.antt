-- "Give a bound in the size of the field list": include/kolowrotan.h has block_room and block_room_of as KOLOWROTAN_BLOCK_ROOM and KOLOWROTAN_BLOCK_ROOM_OF.
use Rattle.std.specs.Prelude.{ℕ, ◌+◌, ◌*◌, ◌/◌, ◌≤◌, min, List, [], ◌∷◌}
use Rattle.blocks.specs.Reading.{block_limit}
use Rattle.model.specs.Encoder.{Sent}

-- "the list's bytes plus two for each field"
abbrev pub bound : ℕ → ℕ → ℕ
bound bytes fields = bytes + 2 * fields

-- the same, but no more than the largest block has: a longer one is answered 13 before its room is looked at
unfoldable pub block_room : ℕ → ℕ → ℕ
block_room bytes fields = min block_limit (bound bytes fields)

-- where the fields are not counted: a field has at least three bytes
unfoldable pub block_room_of : ℕ → ℕ
block_room_of bytes = block_room bytes (bytes / 3)

-- "every table our encoder can have": its indexes are the lowest that were not held, of 128 places from 62 on
abbrev pub OurTable : List Sent → Type 0
OurTable [] = Unit {0}
OurTable (e ∷ l) = (e.index ≤ 189) × OurTable l
