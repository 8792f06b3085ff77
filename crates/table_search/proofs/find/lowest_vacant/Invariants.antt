use Prim.Native.Nat.{◌-◌, ◌≤◌}
use Rattle.state.specs.Layout.{count_of}
use Rattle.table_search.proofs.Bisecting.{AllOwn, NotOwn}
use Rattle.table_search.proofs.find.lowest_vacant.Given as goal

-- `table_search::find::lowest_vacant` meets its contract. The loop's invariant: the rows below `low` have their own indexes, and the row at `high` has not.
abbrev pub invariant-loop-low : goal.invariant-loop-low
invariant-loop-low l = (l.low ≤ l.high) × (l.high ≤ count_of l.m) × AllOwn l.m l.low × NotOwn l.m l.high

abbrev pub decreases-loop-low : goal.decreases-loop-low
decreases-loop-low l = l.high - l.low
