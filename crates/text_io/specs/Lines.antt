-- Where a reader and a line lie in a buffer of n bytes.
use Rattle.std.specs.Prelude.{ℕ, ◌≤◌, Option, None, Some}
use Rattle.text_io.specs.declared.lines.Reader.{Reader}
use Rattle.text_io.specs.declared.lines.Line.{Line}
use Rattle.text_io.specs.declared.lines.Line.TheVariants.{At, TooLong}

abbrev pub Inside : ℕ → Reader → Type 0
Inside n r = (r.from ≤ r.filled) × (r.filled ≤ n)

-- what was found lies in the buffer
abbrev pub Placed : ℕ → Option Line → Type 0
Placed n (Some (At from to)) = (from ≤ to) × (to ≤ n)
Placed n (Some TooLong) = Unit {0}
Placed n None = Unit {0}
