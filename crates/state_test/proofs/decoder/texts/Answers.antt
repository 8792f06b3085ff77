use Rattle.std.proofs.Common.{Bool, ◌&&◌, sym, refl, ap, arith}
use mathlib.Core.Bool.{and-true}
use Rattle.state_test.proofs.FormsTurns.{texts-turn, each-end}
use Rattle.state_test.proofs.decoder.texts.Goals as goal

pub loop-i-preserved : goal.loop-i-preserved
loop-i-preserved c =
    texts-turn _ _ _ _ _ c.loop-i.invariant (omega arith) _ _ _ _ _ _ c.text_ok-ok.ensures
    c.offset_at.ensures c.offset_at-in-loop-i.ensures c.name_length_at.ensures.0 c.name_length_at.ensures.1
    refl (sym (and-true _)) _ (ap (λ (b : Bool). c.loop-i.ok && b) (sym (and-true _)))

pub returns : goal.returns
returns c = each-end _ _ _ _ c.loop-i.invariant.rows (omega arith)
