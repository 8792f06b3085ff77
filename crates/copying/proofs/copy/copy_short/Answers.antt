use native.Mathlib.Omega.{arith}
use Rattle.memory.proofs.Covering.{two-words, no_bytes}
use Rattle.copying.proofs.copy.copy_short.Goals as goal

pub returns-then-n-ge4 : goal.returns-then-n-ge4
returns-then-n-ge4 c =
    let a = c.args in
    two-words a.out.now a.src.now _ _ a.at 4 c.if-n-ge4.true (omega (arith, c.requires.0)) c.copy_four.ensures c.copy_four-then-n-ge4.ensures

pub returns-else-n-gt0 : goal.returns-else-n-gt0
returns-else-n-gt0 c = let a = c.args in no_bytes a.out.now a.src.now a.at c.if-n-gt0.false
