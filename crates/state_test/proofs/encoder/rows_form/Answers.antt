use Rattle.std.proofs.Common.{refl, arith}
use Rattle.state_test.proofs.FormsTurns.{texts-turn, each-end}
use Rattle.state_test.proofs.encoder.rows_form.Goals as goal

pub loop-i-preserved : goal.loop-i-preserved
loop-i-preserved c =
    texts-turn _ _ _ _ _ c.loop-i.invariant (omega arith) _ _ _ _ _ _ c.text_ok-text.ensures
    c.offset_at.ensures c.offset_at-in-loop-i.ensures c.name_length_at.ensures.0 c.name_length_at.ensures.1
    c.reference_ok.ensures refl _ refl

pub returns : goal.returns
returns c = each-end _ _ _ _ c.loop-i.invariant.rows (omega arith)
