use mathlib.Core.Path.{◌∙◌}
use Rattle.memory.proofs.Moving.{up_none, up_more, up_done}
use Rattle.memory.proofs.copy.move_up.Goals as goal

pub loop-i-init : goal.loop-i-init
loop-i-init c = let a = c.args in up_none a.m.now a.to a.from a.n

pub loop-i-preserved : goal.loop-i-preserved
loop-i-preserved c =
    rw c.loop-i.invariant (up_more _ _ _ _ c.requires.0 c.requires.1 _ c.loop-i-test.true c.loop-i.auto.i)

pub returns : goal.returns
returns c = c.loop-i.invariant ∙ up_done _ _ _ _ _ c.loop-i-test.false
