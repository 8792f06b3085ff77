use Prim.Native.Nat.{ℕ, ◌+◌, ◌-◌, ◌*◌, ◌%◌, ◌^◌}
use mathlib.Core.Path.{◌≡◌, sym, ap, subst, ◌∙◌}
use native.Mathlib.Omega.{arith}
use Rattle.integers.specs.Integer.{groups}
use Rattle.integers.proofs.Groups.{groups-short, groups-last, groups-more, groups_none, weight-small, weight-next, group-small}
use Rattle.integers.proofs.integer.WireInt.read_groups.Goals as goal

pub returns-then-s-next : goal.returns-then-s-next
returns-then-s-next c = let l = c.loop-next in sym (l.invariant.0 ∙ groups-short _ _ _ _ _ (omega arith) c.if-s-next.true)

pub overflow_mul-value : goal.overflow_mul-value
overflow_mul-value c =
    let l = c.loop-next in
    omega (arith, weight-small l.weight (c.args.at + 4 - l.next) (omega arith) l.invariant.1, group-small c.wide-b.result l.weight)

pub overflow_add-value : goal.overflow_add-value
overflow_add-value c =
    let l = c.loop-next in
    omega (arith, weight-small l.weight (c.args.at + 4 - l.next) (omega arith) l.invariant.1, group-small c.wide-b.result l.weight)

pub returns-then-b-lt-GROUP : goal.returns-then-b-lt-GROUP
returns-then-b-lt-GROUP c =
    let l = c.loop-next in
    c.finish.ensures
    ∙ sym (l.invariant.0 ∙ groups-last _ _ _ _ _ (omega arith) (omega arith) _ c.wide-b.ensures.0 c.if-b-lt-GROUP.true)

pub overflow_mul-weight : goal.overflow_mul-weight
overflow_mul-weight c =
    let l = c.loop-next in
    omega (arith, weight-small l.weight (c.args.at + 4 - l.next) (omega arith) l.invariant.1, group-small c.wide-b.result l.weight)

pub loop-next-preserved : goal.loop-next-preserved
loop-next-preserved c =
    let l = c.loop-next in
    let fewer : c.args.at + 4 - l.next - 1 ≡ c.args.at + 4 - (l.next + 1) = omega arith in (
      l.invariant.0
          ∙ groups-more _ _ _ _ _ (omega arith) (omega arith) _ c.wide-b.ensures.0 c.if-b-lt-GROUP.false
          ∙ ap (λ (n : ℕ). groups n c.args.s.now (l.next + 1) (l.value + c.wide-b.result % 128 * l.weight) (l.weight * 128)) fewer,
      subst (λ (n : ℕ). l.weight * 128 * 128 ^ n ≡ 2 ^ 28) fewer (weight-next l.weight (c.args.at + 4 - l.next) (omega arith) l.invariant.1),
      omega (arith, group-small c.wide-b.result l.weight),
    )

pub returns : goal.returns
returns c = sym (c.loop-next.invariant.0 ∙ groups_none _ _ _ _ _ (omega arith))
