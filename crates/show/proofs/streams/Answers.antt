use mathlib.Core.Path.{sym}
use native.Mathlib.Omega.{arith}
use Rattle.stream_lists.proofs.ListBounds.{delta-good}
use Rattle.show.proofs.streams.Goals as goal

pub loop-preserved : goal.loop-preserved
loop-preserved c = let d = delta-good _ _ _ _ _ (sym c.in-Ok.ensures) in omega (arith, d.allowed)
