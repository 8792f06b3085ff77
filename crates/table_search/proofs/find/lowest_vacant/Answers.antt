use mathlib.Core.Path.{◌≡◌, sym, subst, ◌∙◌}
use native.Mathlib.Omega.{arith}
use Rattle.table_search.proofs.Bisecting.{NotOwn, vacant-at, all_own}
use Rattle.table_search.proofs.find.lowest_vacant.Goals as goal

pub loop-low-preserved-then-index_at-i : goal.loop-low-preserved-then-index_at-i
loop-low-preserved-then-index_at-i c = (
  omega arith,
  omega arith,
  all_own _ c.requires _ (omega arith) (sym c.index_at.ensures ∙ c.if-index_at-i.true),
  c.loop-low.invariant.3,
)

pub returns : goal.returns
returns c =
    let l = c.loop-low in
    let e : l.high ≡ l.low = omega arith in
    sym (vacant-at _ _ (omega arith) l.invariant.2 (subst (NotOwn _) e l.invariant.3))
