use Prim.Native.Nat.{◌*◌}
use mathlib.Core.Path.{◌≡◌}
use Rattle.marks.specs.Marks.{is_set, lowest_from}
use Rattle.marks.proofs.count.lowest_below.Given as goal

-- `marks::count::lowest_below` meets its contract. The loop's invariant: no stream of the words below the `w`-th is marked.
abbrev pub invariant-loop-w : goal.invariant-loop-w
invariant-loop-w l = lowest_from (is_set l.m l.at) 0 (64 * l.w) ≡ 64 * l.w
