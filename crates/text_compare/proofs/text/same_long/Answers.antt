use mathlib.Core.Path.{sym, ◌∙◌}
use native.Mathlib.Omega.{arith}
use Rattle.memory.specs.Bytes.{Small}
use Rattle.memory.proofs.Sameness.{turns-none, word-equal, word-other}
use Rattle.text_compare.proofs.Words.{from_start, last-decides}
use Rattle.text_compare.proofs.text.same_long.Goals as goal
use Rattle.text_compare.proofs.text.same_long.Goals.{else-loop-k-test, then-loop-k-test+else-u64_at+else-last-k-gt8}

pub loop-k-init : goal.loop-k-init
loop-k-init c = (omega arith, turns-none _ _ _ _ _)

pub returns-then-u64_at : goal.returns-then-u64_at
returns-then-u64_at c =
    let x = c.u64_at.ensures in
    let y = from_start 8 _ _ c.u64_at-in-loop-k.ensures in
    sym (c.loop-k.invariant.1 ∙ word-other _ _ 8 _ _ _ 0 (omega arith) (λ e. c.if-u64_at.true (x ∙ e ∙ sym y)))

pub loop-k-preserved : goal.loop-k-preserved
loop-k-preserved c =
    let equal = sym c.u64_at.ensures ∙ c.if-u64_at.false ∙ from_start 8 _ _ c.u64_at-in-loop-k.ensures in (
      omega arith,
      c.loop-k.invariant.1 ∙ word-equal _ _ 8 _ _ _ 0 (omega arith) (λ k. omega (arith, c.type_inv.m k)) (λ k. omega (arith, c.type_inv.b k)) equal,
    )

-- the loop ends before a turn or behind one
pub returns : goal.returns
returns c =
    let small : Small c.args.m.now = λ k. omega (arith, c.type_inv.m k) in
    let few : Small c.args.b.now = λ k. omega (arith, c.type_inv.b k) in
    elim c.loop-k-test.branch [
      | else-loop-k-test w ↦
          last-decides _ _ 8 _ _ _ (omega arith) (omega (arith, w.loop-k-test.false)) (omega arith) small few c.loop-k.invariant.1 c.u64_at-2.ensures
          c.u64_at-3.ensures
      | then-loop-k-test+else-u64_at+else-last-k-gt8 w ↦
          let equal = sym w.u64_at.ensures ∙ w.if-u64_at.false ∙ from_start 8 _ _ w.u64_at-in-loop-k.ensures in
          last-decides _ _ 8 _ _ _ (omega arith) (omega arith) (omega (arith, w.loop-k-test.true)) small few
          (c.loop-k.invariant.1 ∙ word-equal _ _ 8 _ _ _ 0 (omega (arith, w.loop-k-test.true)) small few equal)
          c.u64_at-2.ensures c.u64_at-3.ensures
    ]
