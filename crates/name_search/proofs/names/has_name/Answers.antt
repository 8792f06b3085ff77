use mathlib.Core.Path.{sym, ◌∙◌}
use Rattle.name_search.proofs.Serving.{under_deletion, name_compared}
use Rattle.name_search.proofs.names.has_name.Goals as goal

pub returns-then-status_at-ne0 : goal.returns-then-status_at-ne0
returns-then-status_at-ne0 c =
    let p = c.requires in
    sym (under_deletion _ p.i_bound.1 _ p.i_bound.0 _ (λ e. c.if-status_at-ne0.true (c.status_at.ensures ∙ e)))

pub returns : goal.returns
returns c =
    let p = c.requires in
    name_compared _ p.i_bound.1 _ p.i_bound.0 _ c.text_at.ensures.0 p.i_value (sym c.status_at.ensures ∙ c.if-status_at-ne0.false) c.stands_at.ensures
