use Prim.Native.Nat.{ℕ, ◌-◌}
use mathlib.Core.Path.{◌≡◌}
use mathlib.Core.List.{List}
use lib.ListN.{length}
use Rattle.memory.specs.Bytes.{part}
use Rattle.unpacking.specs.Waiting.{waiting}
use Rattle.unpacking.proofs.Progress.{Progress}
use Rattle.unpacking.proofs.unpack.unpacked_size.Given as goal

abbrev pub invariant-loop-count : goal.invariant-loop-count
invariant-loop-count l = (done : List ℕ) × Progress (part l.s l.from (l.to - l.from)) l.b done × (l.count ≡ length done)

abbrev pub decreases-loop-count : goal.decreases-loop-count
decreases-loop-count l = length (waiting l.b)
