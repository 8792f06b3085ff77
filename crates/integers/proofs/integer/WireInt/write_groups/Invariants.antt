use Prim.Native.Nat.{ℕ, suc, ◌+◌, ◌^◌, ◌<◌}
use mathlib.Core.Path.{◌≡◌}
use lib.ListN.{length}
use Rattle.memory.specs.Bytes.{overlay}
use Rattle.integers.specs.Integer.{group_wire}
use Rattle.integers.proofs.integer.WireInt.write_groups.Given as goal

-- `WireInt::write_groups` stores the bytes of `group_wire`. The invariant: what is left, written from here on, gives the whole.
abbrev pub invariant-loop-left : goal.invariant-loop-left
invariant-loop-left l = (f : ℕ) × (l.left < 128 ^ suc f)
    × (overlay l.initial.out l.at (group_wire 3 l.rest) ≡ overlay l.out l.next (group_wire f l.left))
    × (l.at + length (group_wire 3 l.rest) ≡ l.next + length (group_wire f l.left))
    × (length l.out ≡ length l.initial.out)

abbrev pub decreases-loop-left : goal.decreases-loop-left
decreases-loop-left l = l.left
