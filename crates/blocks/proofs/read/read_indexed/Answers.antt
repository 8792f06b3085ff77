use mathlib.Core.Path.{sym, ap, ◌∙◌}
use native.Mathlib.Omega.{arith}
use Rattle.integers.specs.declared.number.TableIndex.{TableIndex}
use Rattle.integers.proofs.Bounds.{int-good}
use Rattle.blocks.specs.declared.read.RepresentationPlace.TheVariants.{Indexed}
use Rattle.blocks.proofs.Equations.{indexed-refused, indexed-zero, indexed-found}
use Rattle.blocks.proofs.read.read_indexed.Goals as goal
use Rattle.std.specs.Prelude.{Ok}

pub returns-in_default : goal.returns-in_default
returns-in_default c = sym (indexed-refused _ _ _ c.read-r.ensures _ c.unwrap_err.ensures)

pub returns-then-value-eq0 : goal.returns-then-value-eq0
returns-then-value-eq0 c = sym (indexed-zero _ _ _ c.read-r.ensures _ _ c.in-Ok.is c.if-value-eq0.true)

pub new-requires : goal.new-requires
new-requires c = omega (arith, int-good 7 _ _ (omega arith) _ c.read-r.ensures _ _ c.in-Ok.is)

pub returns : goal.returns
returns c =
    ap (λ (index : TableIndex). Ok (Indexed index, c.in-Ok.next)) c.new.ensures
    ∙ sym (indexed-found _ _ _ c.read-r.ensures _ _ c.in-Ok.is c.if-value-eq0.false)
