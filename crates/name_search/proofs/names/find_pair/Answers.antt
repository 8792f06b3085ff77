use mathlib.Core.Path.{sym, ◌∙◌}
use native.Mathlib.Omega.{arith}
use Rattle.name_search.proofs.LowestRow.{row_more, row_here, row_done}
use Rattle.name_search.proofs.Serving.{other_length}
use Rattle.name_search.proofs.Pairing.{none-so-long, pair-none}
use Rattle.name_search.proofs.names.find_pair.Goals as goal
use Rattle.name_search.proofs.names.find_pair.Goals.{then-name_byte_at-long+else-has_name, else-name_byte_at-long}

pub returns-then-n-gt-MOST_NAME : goal.returns-then-n-gt-MOST_NAME
returns-then-n-gt-MOST_NAME c = pair-none _ _ _ (none-so-long _ _ c.args.value.now (λ k. omega (arith, c.type_inv.m k)) c.requires (omega arith) _ 0 (omega arith))

pub pair_from-requires : goal.pair_from-requires
pair_from-requires c =
    let named = sym c.has_name.ensures ∙ c.if-has_name.true in record {
      first_bound = (omega arith, c.requires);
      first_value = (sym c.name_byte_at.ensures ∙ c.if-name_byte_at-long.true, named);
      m_value = c.loop-i.invariant ∙ row_here _ _ _ (omega arith) named;
    }

pub loop-i-preserved : goal.loop-i-preserved
loop-i-preserved c =
    c.loop-i.invariant
    ∙ row_more _ _ _ (omega arith)
    (elim c.if-name_byte_at-long.branch [
      | then-name_byte_at-long+else-has_name w ↦ sym w.has_name.ensures ∙ w.if-has_name.false
      | else-name_byte_at-long w ↦ other_length _ c.requires _ (omega arith) _ (λ e. w.if-name_byte_at-long.false (c.name_byte_at.ensures ∙ e))
    ])

pub returns : goal.returns
returns c = pair-none _ _ _ (c.loop-i.invariant ∙ row_done _ _ _ (omega arith))
