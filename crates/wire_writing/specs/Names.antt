-- Names that can be written.
use Rattle.std.specs.Prelude.{◌≤◌, length}
use Rattle.integers.specs.Integer.{largest}
use Rattle.wire.specs.Text.{name_limit}
use Rattle.wire.specs.Name.{Name, indexed, literal}

-- an index has an integer's room, a name by its bytes a string's
abbrev pub HasRoom : Name → Type 0
HasRoom (indexed i) = i ≤ largest
HasRoom (literal xs) = length xs ≤ name_limit
