use Prim.Native.Nat.{◌<◌}
use Rattle.state.specs.Layout.{count_of, index_at}
use Rattle.table_search.proofs.find.find_below.Given as goal

-- `table_search::find::find_below` meets its contract. The loop's invariant: row `row`, if there is one, is above the index.
abbrev pub invariant-loop-row : goal.invariant-loop-row
invariant-loop-row l = l.row < count_of l.m → l.x < index_at l.m l.row
