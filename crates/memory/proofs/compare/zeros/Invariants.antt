use Prim.Native.Nat.{◌*◌}
use mathlib.Core.Path.{◌≡◌}
use Rattle.memory.specs.Compare.{zeros_at}
use Rattle.memory.proofs.compare.zeros.Given as goal

-- `memory::compare::zeros` meets its contract. The loop's invariant: the answer so far is that for the words before the next.
abbrev pub invariant-loop-k : goal.invariant-loop-k
invariant-loop-k l = l.ok ≡ zeros_at (8 * l.k) l.s l.at
