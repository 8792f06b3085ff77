use Prim.Native.Nat.{◌+◌, ◌-◌, ◌*◌, ◌^◌, ◌≤◌}
use mathlib.Core.Path.{◌≡◌}
use Rattle.integers.specs.Integer.{groups}
use Rattle.integers.proofs.integer.WireInt.read_groups.Given as goal

-- `WireInt::read_groups` gives what `groups` says. The invariant: the groups left to read, above the value so far, are the whole.
-- The weight times 128 to the groups left is 2^28, which keeps the sums in a word.
abbrev pub invariant-loop-next : goal.invariant-loop-next
invariant-loop-next l =
    (groups 4 l.s l.at l.first 1 ≡ groups (l.at + 4 - l.next) l.s l.next l.value l.weight)
    × (l.weight * 128 ^ (l.at + 4 - l.next) ≡ 2 ^ 28)
    × (l.value ≤ 254 + l.weight)
