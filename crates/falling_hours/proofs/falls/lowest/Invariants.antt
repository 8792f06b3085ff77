use mathlib.Core.Path.{◌≡◌}
use mathlib.Core.Bool.{Bool}
use Prim.Native.Nat.{◌-◌}
use Rattle.falling_hours.specs.declared.falls.Report.{Report}
use Rattle.falling_hours.specs.Falls.{lowest_from}
use Rattle.falling_hours.proofs.falls.lowest.Given as goal

-- The search from the place on finds what the whole search finds.
abbrev pub invariant-loop-s : goal.invariant-loop-s
invariant-loop-s g l =
    (test : Report → Bool)
    → ((r : Report) (b : Bool) → goal.F-post g l.is_apart r b → b ≡ test r)
    → lowest_from l.reports test (l.to - l.from) l.from ≡ lowest_from l.reports test (l.to - l.s) l.s
