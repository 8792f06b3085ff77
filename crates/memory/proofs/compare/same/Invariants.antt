use Prim.Native.Nat.{◌+◌, ◌-◌, ◌*◌}
use mathlib.Core.Path.{◌≡◌}
use Rattle.memory.specs.Compare.{same_at}
use Rattle.memory.proofs.compare.same.Given as goal

-- `memory::compare::same` meets its contract. The loop's invariant: the answer is that of comparing what is left. A word is a number of eight
-- bytes, and numbers of bytes are equal exactly where the bytes are.
abbrev pub invariant-loop-k : goal.invariant-loop-k
invariant-loop-k l = same_at l.n l.a l.i l.b l.j ≡ same_at (l.n - 8 * l.k) l.a (l.i + 8 * l.k) l.b (l.j + 8 * l.k)
