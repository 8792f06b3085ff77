use Prim.Native.Nat.{◌-◌}
use mathlib.Core.Path.{◌≡◌}
use Rattle.state.specs.Layout.{count_of}
use Rattle.name_search.specs.Names.{serves_at, lowest_row}
use Rattle.name_search.proofs.names.find_pair.Given as goal

-- `name_search::names::find_pair` meets its contract. The loop's invariant: the lowest row with the name is that of the rows that are left.
abbrev pub invariant-loop-i : goal.invariant-loop-i
invariant-loop-i l = lowest_row (serves_at l.m l.name) (count_of l.m) 0 ≡ lowest_row (serves_at l.m l.name) (count_of l.m - l.i) l.i
