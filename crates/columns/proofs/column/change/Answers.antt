use Prim.Native.Nat.{ℕ}
use mathlib.Core.Path.{sym, ap, ◌∙◌}
use Rattle.memory.specs.Numbers.{number_bytes}
use Rattle.columns.proofs.Steps.{change-all, change-none, change-turn}
use Rattle.columns.proofs.column.change.Goals as goal

pub loop-i-init : goal.loop-i-init
loop-i-init g c = λ h p. let a = c.args in change-all h 2 a.n a.m.now a.at

pub loop-i-preserved : goal.loop-i-preserved
loop-i-preserved g c = λ h p.
    let l = c.loop-i in
    let a = c.args in
    let made = p _ _ c.u16_at-x.type_inv c.f.ensures ∙ ap (λ (x : ℕ). number_bytes 2 (h x)) c.u16_at-x.ensures in
    l.invariant h p ∙ change-turn h 2 a.n l.m a.at l.i c.loop-i-test.true _ made _ c.put_u16.ensures

pub returns : goal.returns
returns g c = λ h p.
    let l = c.loop-i in
    let a = c.args in
    sym (l.invariant h p ∙ change-none h 2 a.n l.m a.at l.i c.loop-i-test.false)
