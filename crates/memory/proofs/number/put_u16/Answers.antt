use mathlib.Core.Path.{refl}
use native.Mathlib.Omega.{arith}
use lib.ListN.{length-set}
use Rattle.memory.specs.Numbers.{number_bytes}
use Rattle.memory.proofs.number.put_u16.Goals as goal

pub bounds-m-at-2 : goal.bounds-m-at-2
bounds-m-at-2 c = simp length-set (omega arith)

pub returns : goal.returns
unfolding number_bytes
returns c = refl
