use native.Mathlib.Omega.{arith}
use Rattle.huffman.proofs.Pushing.{push-fits, pushed}
use Rattle.packing.proofs.bits.push.Goals as goal

pub overflow_add-result : goal.overflow_add-result
overflow_add-result c = let a = c.args in record { fits = push-fits a.u a.size a.value (omega arith) c.requires.1 }

pub returns : goal.returns
returns c = let a = c.args in pushed a.u a.size a.value (omega arith) c.requires.1
