use mathlib.Core.Path.{sym, ◌∙◌}
use native.Mathlib.Omega.{arith}
use Rattle.table_search.proofs.Finding.{find_at}
use Rattle.table_search.proofs.find.find.Goals as goal

pub returns-then-index_at-index : goal.returns-then-index_at-index
returns-then-index_at-index c = sym (find_at _ c.requires.1 _ _ (omega (arith, c.if-count-first.false, c.count_of-count.ensures)) (sym c.index_at.ensures ∙ c.if-index_at-index.true))
