use Prim.Native.Nat.{ℕ}
use mathlib.Core.Path.{◌≡◌, sym, ap, ◌∙◌}
use mathlib.Core.Bool.{false}
use native.Mathlib.Omega.{arith}
use Rattle.name_search.specs.Names.{ends_with, serves_both_at}
use Rattle.name_search.proofs.LowestRow.{row_more, row_here, row_done}
use Rattle.name_search.proofs.Serving.{not_named, other_length, other-end}
use Rattle.name_search.proofs.names.find_long.Goals as goal
use Rattle.name_search.proofs.names.find_long.Goals.{then-name_length_at-n+then-ends_with+else-has_both, then-name_length_at-n+else-ends_with, else-name_length_at-n}

pub returns-then-has_both : goal.returns-then-has_both
returns-then-has_both c = sym (c.loop-i.invariant ∙ row_here _ _ _ (omega arith) (sym c.has_both.ensures ∙ c.if-has_both.true))

pub loop-i-preserved : goal.loop-i-preserved
loop-i-preserved c =
    let passed : let a = c.args in serves_both_at a.m.now a.name.now a.value.now c.loop-i.i ≡ false = let o = c.requires.2 in
    elim c.if-name_length_at-n.branch [
      | then-name_length_at-n+then-ends_with+else-has_both w ↦ sym w.has_both.ensures ∙ w.if-has_both.false
      | then-name_length_at-n+else-ends_with w ↦ other-end _ o _ (omega arith) _ _ c.requires.1 (ap (λ (k : ℕ). ends_with c.args.m.now c.loop-i.i k) (sym c.last_four-key.ensures) ∙ sym w.ends_with.ensures ∙ w.if-ends_with.false)
      | else-name_length_at-n w ↦ not_named _ _ _ _ (other_length _ o _ (omega arith) _ (λ e. w.if-name_length_at-n.false (c.name_length_at.ensures.0 ∙ e)))
    ] in
    c.loop-i.invariant ∙ row_more _ _ _ (omega arith) passed

pub returns : goal.returns
returns c = sym (c.loop-i.invariant ∙ row_done _ _ _ (omega arith))
