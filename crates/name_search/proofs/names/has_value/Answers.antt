use mathlib.Core.Path.{sym}
use native.Mathlib.Omega.{arith}
use Rattle.name_search.proofs.Serving.{other-value, value-compared}
use Rattle.name_search.proofs.names.has_value.Goals as goal

-- `name_search::names::has_value` meets its contract: it tests the value's length, and then its bytes.
pub returns-then-text_length_at-n : goal.returns-then-text_length_at-n
returns-then-text_length_at-n c =
    let p = c.requires in
    sym (other-value _ p.1 _ p.0 _ (λ e. omega (arith, p.2, c.text_length_at.ensures.0, c.if-text_length_at-n.true)))

pub returns : goal.returns
returns c =
    let p = c.requires in
    value-compared _ p.1 _ p.0 _ (omega (arith, p.2, c.text_at.ensures.0))
    (omega (arith, p.2, c.text_length_at.ensures.0, c.if-text_length_at-n.false))
    c.stands_at.ensures
