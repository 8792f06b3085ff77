use Rattle.std.proofs.Common.{sym, ◌∙◌}
use Rattle.static_search.proofs.Finding.{name-first, name-both, start-nothing}
use Rattle.static_search.proofs.Values.{not_static}
use Rattle.static_lookup.proofs.lookup.find_both.Goals as goal

pub returns-then-not-may_be_value : goal.returns-then-not-may_be_value
returns-then-not-may_be_value c = not_static _ _ (sym c.may_be_value.ensures ∙ c.if-not-may_be_value.true)

pub find_value-requires : goal.find_value-requires
find_value-requires c = name-first _ _ (sym c.in-Some.ensures)

pub returns-in-Some : goal.returns-in-Some
returns-in-Some c = c.find_value.ensures ∙ name-both _ _ (sym c.in-Some.ensures) _

pub returns-in-None : goal.returns-in-None
returns-in-None c = sym (start-nothing _ _ (sym c.in-None.ensures))
