use mathlib.Core.Path.{◌∙◌}
use native.Mathlib.Omega.{arith}
use borrow.Author.Rules.{rules}
use Rattle.horizons.proofs.Raising.{raise-lower, raise-keep}
use Rattle.horizons.proofs.references.raise.Goals as goal

pub returns-then-horizon_at-next : goal.returns-then-horizon_at-next
returns-then-horizon_at-next c =
    let a = c.args in
    c.put_horizon.ensures ∙ raise-lower a.m.now a.at a.stream.value (omega (arith, c.horizon_at.ensures, c.if-horizon_at-next.true))

pub returns-else-horizon_at-next : goal.returns-else-horizon_at-next
returns-else-horizon_at-next c =
    let a = c.args in
    raise-keep a.m.now a.at a.stream.value (search rules) (omega arith)
    (omega (arith, c.horizon_at.ensures, c.if-horizon_at-next.false))
