use Prim.Native.Nat.{◌*◌}
use mathlib.Core.Path.{◌≡◌}
use Rattle.marks.specs.Marks.{is_set, count_from}
use Rattle.marks.proofs.count.count_below.Given as goal

-- `marks::count::count_below` meets its contract. The loop's invariant: the streams of the words below the `w`-th are counted.
abbrev pub invariant-loop-w : goal.invariant-loop-w
invariant-loop-w l = l.count ≡ count_from (is_set l.m l.at) 0 (64 * l.w)
