use Prim.Native.Nat.{ℕ, ◌+◌, ◌-◌, ◌*◌, ◌/◌}
use mathlib.Core.Path.{◌≡◌, sym, ap, ◌∙◌}
use native.Mathlib.Omega.{arith}
use Rattle.memory.specs.Compare.{same_at}
use Rattle.memory.proofs.Sameness.{turns-none, word-equal, word-other}
use Rattle.memory.proofs.compare.same.Goals as goal

pub loop-k-init : goal.loop-k-init
loop-k-init c = turns-none _ _ _ _ _

pub returns-then-u64_at : goal.returns-then-u64_at
returns-then-u64_at c =
    let l = c.loop-k in
    let x = c.u64_at.ensures in
    let y = c.u64_at-in-loop-k.ensures in
    sym (l.invariant ∙ word-other _ _ 8 _ _ _ _ (omega arith) (λ e. c.if-u64_at.true (x ∙ e ∙ sym y)))

pub loop-k-preserved : goal.loop-k-preserved
loop-k-preserved c =
    let l = c.loop-k in
    let a = c.args in
    let equal = sym c.u64_at.ensures ∙ c.if-u64_at.false ∙ c.u64_at-in-loop-k.ensures in
    let next : 8 * l.k + 8 ≡ 8 * (l.k + 1) = omega arith in
    l.invariant
    ∙ word-equal _ _ 8 _ _ _ _ (omega arith) (λ k. omega (arith, c.type_inv.a k)) (λ k. omega (arith, c.type_inv.b k)) equal
    ∙ ap (λ (k : ℕ). same_at (a.n - k) a.a.now (a.i + k) a.b.now (a.j + k)) next

pub returns : goal.returns
returns c =
    let l = c.loop-k in
    let a = c.args in
    let all : a.n / 8 ≡ l.k = omega arith in
    c.same_bytes.ensures ∙ ap (λ (k : ℕ). same_at (a.n - 8 * k) a.a.now (a.i + 8 * k) a.b.now (a.j + 8 * k)) all ∙ sym l.invariant
