use Prim.Native.Nat.{◌-◌}
use mathlib.Core.Path.{◌≡◌}
use Rattle.statics.specs.Table.{static_name}
use Rattle.static_search.specs.Search.{lowest_both, find_both}
use Rattle.static_lookup.proofs.lookup.find_value.Given as goal

-- `static_lookup::lookup::find_value` meets its contract. The loop's invariant: what is sought is the lowest index from `i` on.
abbrev pub invariant-loop-i : goal.invariant-loop-i
invariant-loop-i l = find_both (static_name l.first.value) l.value ≡ lowest_both (62 - l.i) l.i (static_name l.first.value) l.value
