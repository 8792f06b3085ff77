use native.Mathlib.Omega.{arith}
use Rattle.memory.specs.Numbers.{number}
use Rattle.state.proofs.row.name_length_at.Goals as goal

pub returns : goal.returns
unfolding number
returns c = (omega (arith, c.wide.ensures.0), c.wide.ensures.1)
