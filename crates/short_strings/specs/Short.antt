-- Short strings: a string exactly where it is plain and its length takes one byte.
use Rattle.std.specs.Prelude.{ℕ, ◌+◌, ◌-◌, List, length, get_or, ltb, leb, Option, Some, None}
use Rattle.memory.specs.Choice.{need}
use Rattle.wire.specs.Text.{plain_place}
use Rattle.wire.specs.declared.text.StringPlace.{StringPlace}

-- at the place at: below 127 there is no H bit and no prefix of all ones, and its bytes are there
unfoldable pub short_string_at : List ℕ → ℕ → Option (StringPlace × ℕ)
short_string_at s at =
    need (ltb at (length s)) None
    (need (ltb (get_or s at 0) 127) None
    (need (leb (get_or s at 0) (length s - (at + 1))) None
    (Some (plain_place (at + 1) (get_or s at 0), at + 1 + get_or s at 0))))
