use Prim.Native.Nat.{◌+◌, ◌*◌}
use mathlib.Core.Path.{◌≡◌, refl, sym, ap, ◌∙◌}
use native.Mathlib.Omega.{arith}
use Rattle.marks.specs.Marks.{is_set, lowest_from}
use Rattle.marks.proofs.Turns.{lowest-turn, lowest-within, lowest-beyond, lowest-end}
use Rattle.marks.proofs.count.lowest_below.Goals as goal

pub loop-w-init : goal.loop-w-init
unfolding lowest_from
loop-w-init c = refl

pub returns-then-lowest-end : goal.returns-then-lowest-end
returns-then-lowest-end c =
    lowest-within _ _ (λ k. omega (arith, c.type_inv.m k)) _ (omega arith) _ c.u64_at-word.ensures c.loop-w.invariant _
    c.if-word-ne0.true c.if-lowest-end.true

pub returns-then-word-ne0 : goal.returns-then-word-ne0
returns-then-word-ne0 c =
    lowest-beyond _ _ (λ k. omega (arith, c.type_inv.m k)) _ (omega arith) _ c.u64_at-word.ensures c.loop-w.invariant _
    c.if-lowest-end.false

pub loop-w-preserved : goal.loop-w-preserved
loop-w-preserved c =
    let a = c.args in
    let next : 64 * c.loop-w.w + 64 ≡ 64 * (c.loop-w.w + 1) = omega arith in
    ap (lowest_from (is_set a.m.now a.at) 0) (omega arith)
    ∙ lowest-turn _ _ (λ k. omega (arith, c.type_inv.m k)) _ (omega arith) _ c.u64_at-word.ensures c.loop-w.invariant c.if-word-ne0.false
    ∙ next

pub returns : goal.returns
returns c = sym (lowest-end _ _ _ c.loop-w.invariant (omega arith))
