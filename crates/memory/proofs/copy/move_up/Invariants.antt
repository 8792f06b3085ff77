use Prim.Native.Nat.{◌+◌, ◌-◌}
use mathlib.Core.Path.{◌≡◌}
use Rattle.memory.specs.Bytes.{moved}
use Rattle.memory.proofs.copy.move_up.Given as goal

-- `memory::copy::move_up` meets its contract. The loop's invariant: the bytes from `i` on have been moved.
abbrev pub invariant-loop-i : goal.invariant-loop-i
invariant-loop-i l = l.m ≡ moved l.initial.m (l.to + l.i) (l.from + l.i) (l.n - l.i)
