use Rattle.std.proofs.Common.{rules}
use mathlib.Core.Path.{sym, ◌∙◌}
use Rattle.falling_hours.proofs.Searching.{search-over, search-found, search-empty, search-next}
use Rattle.falling_hours.proofs.falls.lowest.Goals as goal
use Rattle.falling_hours.proofs.falls.lowest.Goals.{in_default-via-in-None-1, in_default-via-in-Some+else-is_apart}

pub returns-in-loop-s : goal.returns-in-loop-s
returns-in-loop-s g c = λ test acts. sym (c.loop-s.invariant test acts ∙ search-found _ _ _ _ c.loop-s-test.true _ c.in-Some.is (sym (acts _ _ c.is_apart.ensures) ∙ c.if-is_apart.true))

pub loop-s-preserved : goal.loop-s-preserved
loop-s-preserved g c = λ test acts. c.loop-s.invariant test acts ∙ elim c.in_default.branch [
  | in_default-via-in-None-1 w ↦ search-empty _ _ _ _ c.loop-s-test.true (search rules)
  | in_default-via-in-Some+else-is_apart w ↦ search-next _ _ _ _ c.loop-s-test.true _ w.in-Some.is (sym (acts _ _ w.is_apart.ensures) ∙ w.if-is_apart.false)
]

pub returns : goal.returns
returns g c = λ test acts. sym (c.loop-s.invariant test acts ∙ search-over _ _ _ _ c.loop-s-test.false)
