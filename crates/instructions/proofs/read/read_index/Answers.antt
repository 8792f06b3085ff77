use Rattle.std.proofs.Common.{arith}
use Rattle.integers.proofs.Bounds.{int-good}
use Rattle.instructions.proofs.read.read_index.Goals as goal

pub new-requires : goal.new-requires
new-requires c = omega (arith, c.if-value-lt-FIRST.false, int-good _ _ _ c.requires.1 _ c.read-r.ensures _ _ c.in-Ok.is)
