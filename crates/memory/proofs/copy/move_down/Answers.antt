use mathlib.Core.Path.{ap, ◌∙◌}
use native.Mathlib.Omega.{arith}
use Rattle.memory.specs.Bytes.{moved}
use Rattle.memory.proofs.Moving.{down-more}
use Rattle.memory.proofs.copy.move_down.Goals as goal

pub loop-i-preserved : goal.loop-i-preserved
loop-i-preserved c = rw c.loop-i.invariant (down-more _ _ _ _ _ c.requires.0 c.requires.1 c.loop-i-test.true)

pub returns : goal.returns
returns c =
    let a = c.args in
    c.loop-i.invariant ∙ ap (moved a.m.now a.to a.from) (omega arith)
