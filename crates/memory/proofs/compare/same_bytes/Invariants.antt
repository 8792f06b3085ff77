use Prim.Native.Nat.{◌+◌, ◌-◌}
use mathlib.Core.Path.{◌≡◌}
use Rattle.memory.specs.Compare.{same_at}
use Rattle.memory.proofs.compare.same_bytes.Given as goal

-- `memory::compare::same_bytes` meets its contract. The loop's invariant: the answer is that of comparing what is left.
abbrev pub invariant-loop-k : goal.invariant-loop-k
invariant-loop-k l = same_at l.n l.a l.i l.b l.j ≡ same_at (l.n - l.k) l.a (l.i + l.k) l.b (l.j + l.k)
