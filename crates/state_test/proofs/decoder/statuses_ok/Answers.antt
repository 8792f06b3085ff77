use Rattle.std.proofs.Common.{true, false, eqb, sym, ◌∙◌, ap₂, arith}
use Rattle.state_test.proofs.FormsWays.{stop, pass}
use Rattle.state_test.proofs.FormsTurns.{each_turn, each-end, pointing-one, pointing-none, pointing-end}
use Rattle.state_test.proofs.decoder.statuses_ok.Goals as goal
use Rattle.state_test.proofs.decoder.statuses_ok.Goals.{then-status_at-ne0, else-status_at-ne0}

pub returns-then-not-status_ok : goal.returns-then-not-status_ok
returns-then-not-status_ok c =
    let wrong = sym c.status_ok.ensures ∙ c.if-not-status_ok.true in
    sym (stop _ _ (each_turn _ _ _ _ c.loop-i.invariant.0 (omega arith) false (sym wrong)).whole)

pub loop-i-preserved : goal.loop-i-preserved
loop-i-preserved c =
    let status = c.status_at.ensures in (
      each_turn _ _ _ _ c.loop-i.invariant.0 (omega arith) true (sym (sym c.status_ok.ensures ∙ c.if-not-status_ok.false)),
      elim c.if-status_at-ne0.branch [ then-status_at-ne0 w ↦ omega arith | else-status_at-ne0 w ↦ omega arith ],
      c.loop-i.invariant.2
          ∙ elim c.if-status_at-ne0.branch [
            | then-status_at-ne0 w ↦ pointing-one _ _ _ _ (omega arith) _ (λ e. w.if-status_at-ne0.true (status ∙ e)) w.pointed-is
            | else-status_at-ne0 w ↦ pointing-none _ _ _ _ (omega arith) _ (sym status ∙ w.if-status_at-ne0.false) w.pointed-is
          ],
    )

pub returns : goal.returns
returns c =
    ap₂ eqb (sym (c.loop-i.invariant.2 ∙ pointing-end _ _ _ _ (omega arith))) c.delete_count.ensures
    ∙ sym (pass _ _ (sym (each-end _ _ _ _ c.loop-i.invariant.0 (omega arith))))
