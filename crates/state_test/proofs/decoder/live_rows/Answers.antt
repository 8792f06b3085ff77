use Rattle.std.proofs.Common.{ℕ, eqb, refl, ap, arith}
use Rattle.state_test.proofs.FormsTurns.{texts-turn, each-end}
use Rattle.state_test.proofs.decoder.live_rows.Goals as goal

pub loop-i-preserved : goal.loop-i-preserved
loop-i-preserved c =
    texts-turn _ _ _ _ _ c.loop-i.invariant (omega arith) _ _ _ _ _ _ c.text_ok-text.ensures
    c.offset_at.ensures c.offset_at-in-loop-i.ensures c.name_length_at.ensures.0 c.name_length_at.ensures.1
    (ap (λ (x : ℕ). eqb x 0) c.status_at.ensures) refl _ refl

pub returns : goal.returns
returns c = each-end _ _ _ _ c.loop-i.invariant.rows (omega arith)
