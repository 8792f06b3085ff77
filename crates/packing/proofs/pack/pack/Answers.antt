use Prim.Native.Nat.{ℕ}
use mathlib.Core.Path.{◌∙◌}
use native.Mathlib.Omega.{arith}
use lib.ListN.{get_or}
use Rattle.huffman.proofs.Prefixes.{code-fit}
use Rattle.huffman.proofs.Packs.{size-most}
use Rattle.packing.proofs.Writing.{packing-start, packing-none, packing-code, packing-word, packing-kept, packing-longer, packing-rest, packing-ends}
use Rattle.packing.proofs.pack.pack.Goals as goal
use Rattle.packing.proofs.pack.pack.Goals.{then-n-ge32+else-end-to-lt4, else-n-ge32}

pub returns-then-end-at : goal.returns-then-end-at
returns-then-end-at c = let a = c.args in let all = packing-none a.s.now a.out.now a.at a.end c.if-end-at.true in record { value = all.0; packed_over = all.1 }

pub loop-x-init : goal.loop-x-init
loop-x-init c = let a = c.args in (packing-start a.s.now a.out.now a.at 0, omega arith, omega arith)

pub push-u-requires : goal.push-u-requires
push-u-requires c =
    let x : ℕ = get_or c.args.s.now c.loop-x.x-index 0 in
    let b = c.type_inv.s c.loop-x.x-index in
    (omega (arith, size-most (get_or c.args.s.now c.loop-x.x-index 0)), rw (c.size-bits.ensures, c.code.ensures) (code-fit x (omega (arith, b))).value)

pub returns-then-end-to-lt4 : goal.returns-then-end-to-lt4
returns-then-end-to-lt4 c = let all = packing-longer (packing-code c.loop-x.invariant.0 c.push-u.result c.size-bits.result c.code.result c.loop-x-test.true c.loop-x.invariant.1 c.size-bits.ensures c.code.ensures c.push-u.ensures) c.args.end c.loop-x.invariant.2 (omega (arith, c.if-end-to-lt4.true, c.if-n-ge32.true)) in record { value = all.0; packed_over = all.1 }

pub overflow_shr-u : goal.overflow_shr-u
overflow_shr-u c = omega (arith, size-most (get_or c.args.s.now c.loop-x.x-index 0), c.loop-x.invariant.1)

pub loop-x-preserved : goal.loop-x-preserved
loop-x-preserved c =
    let p = packing-code c.loop-x.invariant.0 c.push-u.result c.size-bits.result c.code.result c.loop-x-test.true c.loop-x.invariant.1 c.size-bits.ensures c.code.ensures c.push-u.ensures in
    let l = c.loop-x in
    let b = size-most (get_or c.args.s.now c.loop-x.x-index 0) in
    elim c.if-n-ge32.branch [
      | then-n-ge32+else-end-to-lt4 w ↦ (
        packing-word p c.if-n-ge32.out c.if-n-ge32.n c.if-n-ge32.to w.if-n-ge32.true (w.out-is ∙ w.put_word.ensures) w.n-is w.to-is,
        omega (arith, w.if-n-ge32.true, w.n-is, l.invariant.1),
        omega (arith, w.if-end-to-lt4.false, w.to-is, l.invariant.2),
      )
      | else-n-ge32 w ↦ (packing-kept p c.if-n-ge32.out c.if-n-ge32.n c.if-n-ge32.to w.out-is w.n-is w.to-is, omega (arith, w.if-n-ge32.false, w.n-is), omega (arith, w.to-is, l.invariant.2))
    ]

pub returns-then-end-to : goal.returns-then-end-to
returns-then-end-to c = let l = c.loop-x in let all = packing-rest l.invariant.0 c.loop-x-test.false c.args.end l.invariant.2 c.if-end-to.true in record { value = all.0; packed_over = all.1 }

pub returns : goal.returns
returns c = let l = c.loop-x in let all = packing-ends l.invariant.0 c.loop-x-test.false c.args.end _ l.invariant.2 c.if-end-to.false c.put_rest.ensures in record { value = all.0; packed_over = all.1 }
