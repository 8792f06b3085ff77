use Rattle.std.proofs.Common.{arith}
use Rattle.fields.proofs.Bounds.{length-good}
use Rattle.fields.proofs.read.read_text.Goals as goal

pub overflow_sub-s : goal.overflow_sub-s
overflow_sub-s c = omega (arith, length-good _ _ _ _ c.read_length-r.ensures _ _ c.in-Ok.is)
