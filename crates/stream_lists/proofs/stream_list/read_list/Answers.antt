use Rattle.std.proofs.Common.{rules, ◌≡◌, sym, ◌∙◌}
use Rattle.stream_lists.proofs.ListLaws.{list-refused, list-far, count-refused, list-many, list-bad, list-found}
use Rattle.stream_lists.proofs.stream_list.read_list.Goals as goal
use Rattle.std.specs.Prelude.{Err}

pub returns-in_default : goal.returns-in_default
returns-in_default c =
    sym (list-refused _ _ _ c.read-r.ensures _ c.unwrap_err.ensures)

pub returns-then-horizon-gt-HORIZON_LIMIT : goal.returns-then-horizon-gt-HORIZON_LIMIT
returns-then-horizon-gt-HORIZON_LIMIT c = sym (list-far _ _ _ c.read-r.ensures _ _ c.in-Ok.is c.if-horizon-gt-HORIZON_LIMIT.true)

pub returns-in_default-q : goal.returns-in_default-q
returns-in_default-q c =
    sym (count-refused _ _ _ c.read-r.ensures _ _ c.in-Ok.is c.if-horizon-gt-HORIZON_LIMIT.false _ c.read-q.ensures _ c.unwrap_err-in_default-q.ensures)

pub returns-then-count-gt-COUNT_LIMIT : goal.returns-then-count-gt-COUNT_LIMIT
returns-then-count-gt-COUNT_LIMIT c =
    sym (list-many _ _ _ c.read-r.ensures _ _ c.in-Ok.is c.if-horizon-gt-HORIZON_LIMIT.false
    _ c.read-q.ensures _ _ c.in-Ok-q.is c.if-count-gt-COUNT_LIMIT.true)

pub returns-in_err-next : goal.returns-in_err-next
returns-in_err-next c =
    let e : ◌≡◌ c.from_residual.result (Err c.in_err-next.field-0.0) = search rules in
    e ∙ sym (list-bad _ _ _ c.read-r.ensures _ _ c.in-Ok.is c.if-horizon-gt-HORIZON_LIMIT.false
    _ c.read-q.ensures _ _ c.in-Ok-q.is c.if-count-gt-COUNT_LIMIT.false
    _ c.read_deltas.ensures _ c.in_err-next.was)

pub returns : goal.returns
returns c =
    sym (list-found _ _ _ c.read-r.ensures _ _ c.in-Ok.is c.if-horizon-gt-HORIZON_LIMIT.false
    _ c.read-q.ensures _ _ c.in-Ok-q.is c.if-count-gt-COUNT_LIMIT.false
    _ c.read_deltas.ensures _ c.in_ok-next.was)
