use Prim.Native.Nat.{ℕ, ◌+◌, ◌*◌}
use mathlib.Core.Path.{◌≡◌, ap, ◌∙◌}
use mathlib.Core.List.{List}
use native.Mathlib.Omega.{arith}
use Rattle.memory.specs.Bytes.{part, overlay}
use Rattle.memory.proofs.Covering.{covers, covers-none, covers-last}
use Rattle.copying.proofs.copy.copy_long.Goals as goal

pub loop-k-init : goal.loop-k-init
loop-k-init c = let a = c.args in covers-none a.out.now a.src.now a.at

pub loop-k-preserved : goal.loop-k-preserved
loop-k-preserved c =
    let l = c.loop-k in
    let a = c.args in
    let e = c.copy_eight.ensures ∙ ap (λ (o : List ℕ). overlay o (a.at + 8 * l.k) (part a.src.now (8 * l.k) 8)) l.invariant in
    let next : 8 * l.k + 8 ≡ 8 * (l.k + 1) = omega arith in
    e
    ∙ covers a.out.now a.src.now a.at (8 * l.k) (8 * l.k) 8 (omega arith) (omega arith) (omega arith)
    ∙ ap (λ (n : ℕ). overlay a.out.now a.at (part a.src.now 0 n)) next

pub returns : goal.returns
returns c =
    let l = c.loop-k in
    let a = c.args in
    covers-last a.out.now a.src.now a.at _ _ (8 * l.k) 8 (omega arith) (omega arith) (omega arith) l.invariant c.copy_eight-2.ensures
