use mathlib.Core.Path.{sym, ◌∙◌}
use native.Mathlib.Omega.{arith}
use Rattle.memory.proofs.Sameness.{turns-none, turns-done, byte-equal, byte-other}
use Rattle.memory.proofs.compare.same_bytes.Goals as goal

pub loop-k-init : goal.loop-k-init
loop-k-init c = turns-none _ _ _ _ _

pub returns-then-a-i : goal.returns-then-a-i
returns-then-a-i c = sym (c.loop-k.invariant ∙ byte-other _ _ _ _ _ _ (omega arith) c.if-a-i.true)

pub loop-k-preserved : goal.loop-k-preserved
loop-k-preserved c = c.loop-k.invariant ∙ byte-equal _ _ _ _ _ _ (omega arith) c.if-a-i.false

pub returns : goal.returns
returns c = sym (c.loop-k.invariant ∙ turns-done _ _ _ _ _ _ (omega arith))
