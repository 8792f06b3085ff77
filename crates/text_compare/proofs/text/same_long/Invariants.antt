use Prim.Native.Nat.{◌+◌, ◌-◌, ◌≤◌}
use mathlib.Core.Path.{◌≡◌}
use lib.ListN.{length}
use Rattle.memory.specs.Compare.{same_at}
use Rattle.text_compare.proofs.text.same_long.Given as goal

-- `text_compare::text::same_long` meets its contract. The loop's invariant: the answer is that of comparing what is left. The word at the end holds all of that.
abbrev pub invariant-loop-k : goal.invariant-loop-k
invariant-loop-k l = (l.k ≤ length l.b) × (same_at (length l.b) l.m l.at l.b 0 ≡ same_at (length l.b - l.k) l.m (l.at + l.k) l.b (0 + l.k))
