use Rattle.std.proofs.Common.{Bool, ◌&&◌, ltb, ap, ap₂, arith}
use Rattle.state.specs.Forms.{index_ok}
use Rattle.state_test.proofs.FormsTurns.{each_turn, each-end}
use Rattle.state_test.proofs.forms.rising.Goals as goal

pub loop-i-preserved : goal.loop-i-preserved
unfolding index_ok
loop-i-preserved c =
    each_turn _ _ _ _ c.loop-i.invariant (omega arith) _
    (ap (λ (b : Bool). c.loop-i.ok && b) (ap₂ ltb c.index_before.ensures c.index_at.ensures))

pub returns : goal.returns
returns c = each-end _ _ _ _ c.loop-i.invariant (omega arith)
