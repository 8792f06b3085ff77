use native.Mathlib.Omega.{arith}
use Rattle.memory.proofs.Numbers.{number-split}
use Rattle.memory.proofs.number.u64_at.Goals as goal

pub returns : goal.returns
returns c = let a = c.args in omega (arith, number-split 4 4 a.s.now a.at)
