use mathlib.Core.Path.{sym, ◌∙◌}
use native.Mathlib.Omega.{arith}
use Rattle.name_search.proofs.LowestRow.{row_more, row_here, row_done}
use Rattle.name_search.proofs.Serving.{other_length}
use Rattle.name_search.proofs.names.find_name.Goals as goal
use Rattle.name_search.proofs.names.find_name.Goals.{then-name_length_at-n+else-has_name, else-name_length_at-n}

pub returns-then-has_name : goal.returns-then-has_name
returns-then-has_name c = sym (c.loop-i.invariant ∙ row_here _ _ _ (omega arith) (sym c.has_name.ensures ∙ c.if-has_name.true))

pub loop-i-preserved : goal.loop-i-preserved
loop-i-preserved c =
    c.loop-i.invariant
    ∙ row_more _ _ _ (omega arith)
    (elim c.if-name_length_at-n.branch [
      | then-name_length_at-n+else-has_name w ↦ sym w.has_name.ensures ∙ w.if-has_name.false
      | else-name_length_at-n w ↦ other_length _ c.requires _ (omega arith) _ (λ e. w.if-name_length_at-n.false (c.name_length_at.ensures.0 ∙ e))
    ])

pub returns : goal.returns
returns c = sym (c.loop-i.invariant ∙ row_done _ _ _ (omega arith))
