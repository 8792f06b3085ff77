use Prim.Native.Nat.{◌+◌, ◌*◌, ◌/◌, ◌%◌}
use mathlib.Core.Path.{◌≡◌, refl, ap, ◌∙◌}
use native.Mathlib.Omega.{arith}
use native.Mathlib.Nat.{mod-le}
use lib.Count.{ones-le}
use Rattle.marks.specs.Marks.{is_set, count_from}
use Rattle.marks.proofs.Counting.{count-le}
use Rattle.marks.proofs.Turns.{count_turn, count-last}
use Rattle.marks.proofs.count.count_below.Goals as goal

pub loop-w-init : goal.loop-w-init
unfolding count_from
loop-w-init c = refl

pub overflow_add-count : goal.overflow_add-count
overflow_add-count c =
    let a = c.args in
    omega (arith, ones-le 64 c.u64_at.result (omega arith), count-le (is_set a.m.now a.at) 0 (64 * c.loop-w.w))

pub loop-w-preserved : goal.loop-w-preserved
loop-w-preserved c =
    let a = c.args in
    let next : 64 * c.loop-w.w + 64 ≡ 64 * (c.loop-w.w + 1) = omega arith in
    rw c.loop-w.invariant
    (count_turn _ _ (λ k. omega (arith, c.type_inv.m k)) _ (omega arith) _ c.u64_at.ensures ∙ ap (count_from (is_set a.m.now a.at) 0) next)

pub overflow_add-count-then-s-end : goal.overflow_add-count-then-s-end
overflow_add-count-then-s-end c =
    let a = c.args in
    let l = mod-le c.u64_at-then-s-end.result c.power.result in
    omega (arith, ones-le 64 (c.u64_at-then-s-end.result % c.power.result) (omega arith), count-le (is_set a.m.now a.at) 0 (64 * c.loop-w.w))

pub returns-then-s-end : goal.returns-then-s-end
returns-then-s-end c =
    let whole : 64 * c.loop-w.w ≡ c.args.end / 64 * 64 = omega arith in
    rw (c.loop-w.invariant, whole, c.power.ensures)
    (count-last _ _ (λ k. omega (arith, c.type_inv.m k)) _ (omega arith) _ c.u64_at-then-s-end.ensures _ (omega arith) (omega arith))
