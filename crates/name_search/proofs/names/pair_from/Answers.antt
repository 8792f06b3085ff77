use mathlib.Core.Path.{sym, ◌∙◌}
use Rattle.name_search.proofs.LowestRow.{row_here, row_more}
use Rattle.name_search.proofs.Serving.{both-by-value}
use Rattle.name_search.proofs.Pairing.{pair-both, pair-name}
use Rattle.name_search.proofs.names.pair_from.Goals as goal

pub returns-then-has_value : goal.returns-then-has_value
returns-then-has_value c =
    let p = c.requires in
    pair-both _ _ _ _ p.m_value _ (row_here _ _ _ p.first_bound.0 (sym (both-by-value _ _ _ _ p.first_value.1 c.has_value.ensures) ∙ c.if-has_value.true))

pub returns-in-Some : goal.returns-in-Some
returns-in-Some c =
    let p = c.requires in
    pair-both _ _ _ _ p.m_value _
    (row_more _ _ _ p.first_bound.0 (sym (both-by-value _ _ _ _ p.first_value.1 c.has_value.ensures) ∙ c.if-has_value.false)
    ∙ sym c.find_both.ensures ∙ c.in-Some.is)

pub returns-in-None : goal.returns-in-None
returns-in-None c =
    let p = c.requires in
    pair-name _ _ _ _ p.m_value
    (row_more _ _ _ p.first_bound.0 (sym (both-by-value _ _ _ _ p.first_value.1 c.has_value.ensures) ∙ c.if-has_value.false)
    ∙ sym c.find_both.ensures ∙ c.in-None.is)
