use mathlib.Core.Path.{sym, ◌∙◌}
use Rattle.name_search.proofs.Serving.{not_named, both-by-value}
use Rattle.name_search.proofs.names.has_both.Goals as goal

pub returns-then-not-has_name : goal.returns-then-not-has_name
returns-then-not-has_name c = sym (not_named _ _ _ _ (sym c.has_name.ensures ∙ c.if-not-has_name.true))

pub returns : goal.returns
returns c = both-by-value _ _ _ _ (sym c.has_name.ensures ∙ c.if-not-has_name.false) c.has_value.ensures
