use Rattle.std.proofs.Common.{eqb, sym, ◌∙◌, ap₂, arith}
use Rattle.state_test.proofs.FormsWays.{status-none, status-past, status-points}
use Rattle.state_test.proofs.decoder.status_ok.Goals as goal

pub returns-then-status-eq0 : goal.returns-then-status-eq0
returns-then-status-eq0 c = sym (status-none _ _ _ c.status_at-status.ensures c.if-status-eq0.true)

pub returns-then-delete_count-status : goal.returns-then-delete_count-status
returns-then-delete_count-status c =
    sym (status-past _ _ _ c.status_at-status.ensures c.if-status-eq0.false (omega arith))

pub returns : goal.returns
returns c =
    ap₂ eqb c.delete_index_at.ensures c.index_at.ensures
    ∙ sym (status-points _ _ _ c.status_at-status.ensures c.if-status-eq0.false (omega arith))
