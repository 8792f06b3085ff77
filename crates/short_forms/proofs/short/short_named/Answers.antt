use mathlib.Core.Path.{refl, sym, ap, ◌∙◌}
use native.Mathlib.Omega.{arith}
use Rattle.integers.specs.declared.number.TableIndex.{TableIndex}
use Rattle.integers.proofs.Bounds.{int-good}
use Rattle.integers.proofs.Short.{short-int-reads}
use Rattle.std.specs.Prelude.{Some}
use Rattle.short_forms.proofs.ShortEquations.{named-long, named-zero, named-value-long, named-short}
use Rattle.short_forms.proofs.short.short_named.Goals as goal

pub returns-in_default : goal.returns-in_default
returns-in_default c = sym (named-long _ _ _ c.short-r.ensures c.in_default.is)

pub returns-then-value-eq0 : goal.returns-then-value-eq0
returns-then-value-eq0 c = sym (named-zero _ _ _ c.short-r.ensures _ _ c.in-Some.is c.if-value-eq0.true)

pub returns-in_default-v : goal.returns-in_default-v
returns-in_default-v c = sym (named-value-long _ _ _ c.short-r.ensures _ _ c.in-Some.is c.if-value-eq0.false _ c.short_string-v.ensures c.in_default-v.is)

pub new-requires : goal.new-requires
new-requires c =
    let u = c in
    let r = u in
    let read = short-int-reads 6 _ _ (omega arith) (omega arith) _ _ (sym r.short-r.ensures ∙ r.in-Some.is) in
    omega (arith, u.if-value-eq0.false, int-good 6 _ _ (omega arith) _ refl _ _ read.0)

pub returns : goal.returns
returns c =
    let u = c in
    let r = u in
    let v = c in
    ap (λ (index : TableIndex). Some (index, v.in-Some-v.place, v.in-Some-v.next)) c.new.ensures
    ∙ sym (named-short _ _ _ r.short-r.ensures _ _ r.in-Some.is u.if-value-eq0.false _ v.short_string-v.ensures _ _ v.in-Some-v.is)
