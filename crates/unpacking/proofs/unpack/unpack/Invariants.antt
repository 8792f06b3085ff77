use Prim.Native.Nat.{ℕ, ◌+◌, ◌-◌}
use mathlib.Core.Path.{◌≡◌}
use mathlib.Core.List.{List}
use lib.ListN.{length}
use Rattle.memory.specs.Bytes.{part, overlay}
use Rattle.unpacking.specs.Waiting.{waiting}
use Rattle.unpacking.proofs.Progress.{Progress}
use Rattle.unpacking.proofs.unpack.unpack.Given as goal

abbrev pub invariant-loop-x : goal.invariant-loop-x
invariant-loop-x l = (done : List ℕ) × Progress (part l.s l.from (l.to - l.from)) l.b done × (l.next ≡ l.at + length done) × (l.out ≡ overlay l.initial.out l.at done)

abbrev pub decreases-loop-x : goal.decreases-loop-x
decreases-loop-x l = length (waiting l.b)
