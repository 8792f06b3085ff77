use Prim.Native.Nat.{◌+◌, ◌-◌}
use mathlib.Core.Path.{◌≡◌, sym, ap, ◌∙◌}
use native.Mathlib.Omega.{arith}
use Rattle.table_search.proofs.Finding.{find_at, find-vacant}
use Rattle.table_search.proofs.find.find_below.Goals as goal
use Rattle.std.specs.Prelude.{Err}

pub returns-then-y-x-2 : goal.returns-then-y-x-2
returns-then-y-x-2 c = sym (find_at _ c.requires.0 _ _ (omega (arith, c.requires.1)) (sym c.index_at-y.ensures ∙ c.if-y-x-2.true))

pub returns-then-y-x : goal.returns-then-y-x
returns-then-y-x c =
    let l = c.loop-row in
    let e : l.row - 1 + 1 ≡ l.row = omega arith in
    ap Err e ∙ sym (find-vacant _ c.requires.0 _ l.row (omega (arith, c.requires.1)) l.invariant (λ h. omega (arith, c.index_at-y.ensures)))

pub returns : goal.returns
returns c =
    let l = c.loop-row in
    let e : l.row ≡ 0 = omega arith in
    ap Err (sym e) ∙ sym (find-vacant _ c.requires.0 _ l.row (omega arith) l.invariant (λ h. absurd (omega arith)))
