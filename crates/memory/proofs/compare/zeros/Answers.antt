use Prim.Native.Nat.{ℕ, ◌+◌, ◌-◌, ◌*◌, ◌/◌}
use mathlib.Core.Path.{◌≡◌, refl, sym, ap, ◌∙◌}
use native.Mathlib.Omega.{arith}
use borrow.Author.Tests.{tests}
use Rattle.std.proofs.Common.{rules}
use Rattle.std.specs.List.{list_all}
use Rattle.std.proofs.lemmas.Iterator.{YieldsList-from_slice}
use Rattle.std.proofs.lemmas.Iterator.Search.{all_from_yields_List}
use Rattle.memory.specs.Bytes.{part}
use Rattle.memory.specs.Compare.{zeros_at}
use Rattle.memory.proofs.Zeros.{zero_byte, next-word, last-bytes, not-words}
use Rattle.memory.proofs.compare.zeros.Goals as goal

pub loop-k-init : goal.loop-k-init
unfolding zeros_at
loop-k-init c = refl

pub loop-k-preserved : goal.loop-k-preserved
loop-k-preserved c =
    let a = c.args in
    rw (c.loop-k.invariant, c.u64_at.ensures) (next-word a.s.now a.at (λ k. omega (arith, c.type_inv.s k)) c.loop-k.k)

pub returns-then-ok : goal.returns-then-ok
returns-then-ok c =
    let a = c.args in
    let w : ℕ = 8 * (a.n / 8) in
    let e : a.at + a.n - (a.at + w) ≡ a.n - w = omega arith in
    let k : a.n / 8 ≡ c.loop-k.k = omega arith in
    let rest =
    all_from_yields_List zero_byte _ _ c.all.result c.all.ensures.ran
    (YieldsList-from_slice (part a.s.now (a.at + w) (a.at + a.n - (a.at + w))) cc) (λ x b q k. search (rules, tests))
    in
    rest
    ∙ ap (λ (m : ℕ). list_all zero_byte (part a.s.now (a.at + w) m)) e
    ∙ last-bytes a.s.now a.at (λ k. omega (arith, c.type_inv.s k)) (a.n / 8) a.n (omega arith) c.requires
    (ap (λ (j : ℕ). zeros_at (8 * j) a.s.now a.at) k ∙ sym c.loop-k.invariant ∙ c.if-ok.true)

pub returns-else-ok : goal.returns-else-ok
returns-else-ok c =
    let a = c.args in
    c.if-ok.false ∙ not-words a.s.now a.at (λ k. omega (arith, c.type_inv.s k)) c.loop-k.k a.n (omega arith) (sym c.loop-k.invariant ∙ c.if-ok.false)
