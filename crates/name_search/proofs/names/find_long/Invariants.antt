use Prim.Native.Nat.{◌-◌}
use mathlib.Core.Path.{◌≡◌}
use Rattle.state.specs.Layout.{count_of}
use Rattle.name_search.specs.Names.{serves_both_at, lowest_row}
use Rattle.name_search.proofs.names.find_long.Given as goal

-- `name_search::names::find_long` meets its contract. The loop's invariant: the answer is that of the rows that are left. A row whose text ends in other bytes
-- than the value is passed over.
abbrev pub invariant-loop-i : goal.invariant-loop-i
invariant-loop-i l = lowest_row (serves_both_at l.m l.name l.value) (count_of l.m - l.from) l.from ≡ lowest_row (serves_both_at l.m l.name l.value) (count_of l.m - l.i) l.i
