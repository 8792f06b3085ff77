use mathlib.Core.Path.{sym, ◌∙◌}
use native.Mathlib.Omega.{arith}
use Rattle.wire.proofs.TextWriting.{fewer-packed, fewer-plain}
use Rattle.wire.proofs.text.wire_size.Goals as goal

pub returns-then-n-src : goal.returns-then-n-src
returns-then-n-src c =
    let e = c.packed_size-n.ensures in
    let w = fewer-packed c.args.src.now (λ k. omega (arith, c.type_inv.src k)) (omega (arith, e, c.if-n-src.true)) in
    (e ∙ sym w, omega (arith, c.if-n-src.true, c.requires))

pub returns : goal.returns
returns c =
    let e = c.packed_size-n.ensures in
    (sym (fewer-plain c.args.src.now (λ k. omega (arith, c.type_inv.src k)) (omega (arith, e, c.if-n-src.false))), c.requires)
