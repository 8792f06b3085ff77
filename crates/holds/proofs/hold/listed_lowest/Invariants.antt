use Prim.Native.Nat.{◌+◌, ◌*◌, ◌-◌}
use mathlib.Core.Path.{◌≡◌}
use Rattle.marks.specs.Marks.{is_set}
use Rattle.state.specs.DecoderState.{streams_at}
use Rattle.holds.specs.Hold.{listed_lowest}
use Rattle.holds.proofs.hold.listed_lowest.Given as goal

-- `hold::listed_lowest` meets its contract. The loop's invariant: the lowest of the streams that are left is that of all.
abbrev pub invariant-loop-i : goal.invariant-loop-i
invariant-loop-i l = listed_lowest (is_set l.m l.marks) (streams_at (l.k - l.i) l.m (l.at + 2 * l.i)) ≡ listed_lowest (is_set l.m l.marks) (streams_at l.k l.m l.at)
