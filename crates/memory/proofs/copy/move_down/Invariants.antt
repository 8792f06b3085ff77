use mathlib.Core.Path.{◌≡◌}
use Rattle.memory.specs.Bytes.{moved}
use Rattle.memory.proofs.copy.move_down.Given as goal

-- `memory::copy::move_down` meets its contract. The loop's invariant: the first `i` bytes have been moved.
abbrev pub invariant-loop-i : goal.invariant-loop-i
invariant-loop-i l = l.m ≡ moved l.initial.m l.to l.from l.i
