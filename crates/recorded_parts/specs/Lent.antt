-- How many bytes of an output of n a call with this room is lent.
use Rattle.std.specs.Prelude.{ℕ, ltb}
use Rattle.memory.specs.Choice.{pick}

unfoldable pub lent_of : ℕ → ℕ → ℕ
lent_of room n = pick (ltb room n) room n
