-- Characters.
use Rattle.std.specs.Prelude.{ℕ, Bool, false, List, leb}
use Rattle.std.specs.List.{list_all}
use Rattle.memory.specs.Choice.{pick}

-- "printable ASCII (20 to 7E)"
unfoldable pub printable : ℕ → Bool
printable c = pick (leb 32 c) (leb c 126) false

abbrev pub all_printable : List ℕ → Bool
all_printable cs = list_all printable cs
