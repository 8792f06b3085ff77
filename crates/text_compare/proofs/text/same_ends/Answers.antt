use Prim.Native.Nat.{◌+◌, ◌-◌}
use mathlib.Core.Path.{◌≡◌, sym, ◌∙◌}
use mathlib.Core.Bool.{false}
use native.Mathlib.Omega.{arith}
use lib.ListN.{length}
use Rattle.memory.specs.Compare.{same_at}
use Rattle.memory.proofs.Order.{pick_true, pick-false}
use Rattle.memory.proofs.Sameness.{pointwise-parts}
use Rattle.memory.proofs.Ends.{ends}
use Rattle.text_compare.proofs.text.same_ends.Goals as goal

pub returns-then-eq : goal.returns-then-eq
returns-then-eq g c =
    let n = g.row.W in
    let m = c.args.m.now in
    let b = c.args.b.now in
    let at = c.args.at in
    let i = length b - n in
    let p = c.requires in
    let first : c.eq.result ≡ same_at n m at b 0 =
    c.eq.ensures ∙ pointwise-parts n m at b 0 (omega arith) (omega arith) _ _ c.bytes_at.ensures c.bytes_at-2.ensures
    in
    let last : c.eq-then-eq.result ≡ same_at n m (at + i) b i =
    c.eq-then-eq.ensures
    ∙ pointwise-parts n m (at + i) b i (omega arith) (omega arith) _ _ c.bytes_at-then-eq.ensures c.bytes_at-then-eq-2.ensures
    in
    last ∙ sym (ends (length b) n m at b p.0 p.1 ∙ pick_true (same_at n m at b 0) (same_at n m (at + i) b i) false (sym first ∙ c.if-eq.true))

pub returns-else-eq : goal.returns-else-eq
returns-else-eq g c =
    let n = g.row.W in
    let m = c.args.m.now in
    let b = c.args.b.now in
    let at = c.args.at in
    let i = length b - n in
    let p = c.requires in
    let first : c.eq.result ≡ same_at n m at b 0 =
    c.eq.ensures ∙ pointwise-parts n m at b 0 (omega arith) (omega arith) _ _ c.bytes_at.ensures c.bytes_at-2.ensures
    in
    c.if-eq.false ∙ sym (ends (length b) n m at b p.0 p.1 ∙ pick-false (same_at n m at b 0) (same_at n m (at + i) b i) false (sym first ∙ c.if-eq.false))
