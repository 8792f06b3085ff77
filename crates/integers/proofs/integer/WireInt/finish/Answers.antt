use Prim.Native.Nat.{ℕ}
use mathlib.Core.Path.{ap, sym, ◌∙◌}
use mathlib.Core.Logic.{⊎_elim}
use native.Mathlib.Omega.{arith}
use Rattle.integers.specs.Integer.{value}
use Rattle.integers.proofs.Groups.{finished-large, finished-padded, finished-value}
use Rattle.integers.proofs.integer.WireInt.finish.Goals as goal

-- `WireInt::finish` gives what `finished` says: one equation of it for each way through the function.
pub returns-then-value-gt-LARGEST : goal.returns-then-value-gt-LARGEST
returns-then-value-gt-LARGEST c = let a = c.args in sym (finished-large a.group a.weight a.value a.next c.if-value-gt-LARGEST.true)

pub returns-then-weight-gt1 : goal.returns-then-weight-gt1
returns-then-weight-gt1 c =
    let a = c.args in
    sym (finished-padded a.group a.weight a.value a.next c.if-value-gt-LARGEST.false c.if-group-eq0.true c.if-weight-gt1.true)

pub returns : goal.returns
returns c =
    let a = c.args in
    ap (λ (v : ℕ). value v a.next) c.new.ensures
    ∙ sym (finished-value a.group a.weight a.value a.next c.if-value-gt-LARGEST.false
    (λ h. ⊎_elim (λ p. omega (arith, p.1)) (λ p. omega (arith, p)) c.else-group-eq0.either))
