use Prim.Native.Nat.{◌+◌, ◌*◌, ◌-◌, ◌≤◌}
use mathlib.Core.Path.{◌≡◌}
use Rattle.marks.specs.Marks.{is_set}
use Rattle.state.specs.DecoderState.{streams_at}
use Rattle.holds.specs.Hold.{listed_count}
use Rattle.holds.proofs.hold.listed_count.Given as goal

-- `hold::listed_count` meets its contract. The loop's invariant: the count so far, and that of the streams that are left, make up that of all.
abbrev pub invariant-loop-i : goal.invariant-loop-i
invariant-loop-i l = (l.count + listed_count (is_set l.m l.marks) (streams_at (l.k - l.i) l.m (l.at + 2 * l.i)) ≡ listed_count (is_set l.m l.marks) (streams_at l.k l.m l.at)) × (l.count ≤ l.i)
