use mathlib.Core.Path.{sym, ◌∙◌}
use native.Mathlib.Omega.{arith}
use Rattle.name_search.proofs.LowestRow.{row_more, row_here, row_done}
use Rattle.name_search.proofs.Serving.{not_named, other_length}
use Rattle.name_search.proofs.names.find_short.Goals as goal
use Rattle.name_search.proofs.names.find_short.Goals.{then-name_length_at-name+else-has_both, else-name_length_at-name}

pub returns-then-has_both : goal.returns-then-has_both
returns-then-has_both c = sym (c.loop-i.invariant ∙ row_here _ _ _ (omega arith) (sym c.has_both.ensures ∙ c.if-has_both.true))

pub loop-i-preserved : goal.loop-i-preserved
loop-i-preserved c =
    c.loop-i.invariant
    ∙ row_more _ _ _ (omega arith)
    (elim c.if-name_length_at-name.branch [
      | then-name_length_at-name+else-has_both w ↦ sym w.has_both.ensures ∙ w.if-has_both.false
      | else-name_length_at-name w ↦ not_named _ _ _ _ (other_length _ c.requires.1 _ (omega arith) _ (λ e. w.if-name_length_at-name.false (c.name_length_at.ensures.0 ∙ e)))
    ])

pub returns : goal.returns
returns c = sym (c.loop-i.invariant ∙ row_done _ _ _ (omega arith))
