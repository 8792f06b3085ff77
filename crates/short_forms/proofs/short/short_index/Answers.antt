use mathlib.Core.Path.{refl, sym, ap, ◌∙◌}
use Prim.Native.Nat.{ℕ, ◌+◌}
use native.Mathlib.Omega.{arith}
use Rattle.integers.specs.declared.number.TableIndex.{TableIndex}
use Rattle.std.specs.Prelude.{Some}
use Rattle.short_forms.proofs.ShortEquations.{index-zero, index-ones, index_short}
use Rattle.short_forms.proofs.short.short_index.Goals as goal

pub returns-then-value-eq0 : goal.returns-then-value-eq0
returns-then-value-eq0 c = sym (index-zero _ _ _ refl (omega (arith, c.if-value-eq0.true, c.wide-value.ensures.0)))

pub returns-then-value-eq-ONES7 : goal.returns-then-value-eq-ONES7
returns-then-value-eq-ONES7 c = sym (index-ones _ _ _ refl (omega (arith, c.if-value-eq-ONES7.true, c.wide-value.ensures.0)))

pub new-requires : goal.new-requires
new-requires c = omega (arith, c.wide-value.ensures.1, c.if-value-eq0.false)

pub returns : goal.returns
returns c =
    let u = c in
    let e = u.wide-value.ensures.0 in
    let small = u.type_inv.s u.args.at in
    ap (λ (index : TableIndex). Some (index, u.args.at + 1)) (c.new.ensures ∙ ap (λ (v : ℕ). record { value = v }) e)
    ∙ sym (index_short _ _ _ refl (omega (arith, u.requires.1, e, c.if-value-eq0.false)) (omega (arith, e, small, c.if-value-eq-ONES7.false)))
