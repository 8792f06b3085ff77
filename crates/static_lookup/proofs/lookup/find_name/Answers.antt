use Rattle.std.proofs.Common.{sym, ◌∙◌}
use Rattle.static_search.proofs.Hashing.{candidate-none, candidate-not, candidate-has}
use Rattle.static_search.proofs.Compared.{candidate-compared}
use Rattle.static_lookup.proofs.lookup.find_name.Goals as goal

pub returns-in_default : goal.returns-in_default
returns-in_default c = candidate-none _ (sym c.in_default.ensures)

pub has_name-requires : goal.has_name-requires
has_name-requires c = candidate-compared _ _ (sym c.in-Some.ensures)

pub returns-then-not-has_name : goal.returns-then-not-has_name
returns-then-not-has_name c = candidate-not _ _ (sym c.in-Some.ensures) (sym c.has_name.ensures ∙ c.if-not-has_name.true)

pub returns : goal.returns
returns c = candidate-has _ _ (sym c.in-Some.ensures) (sym c.has_name.ensures ∙ c.if-not-has_name.false)
