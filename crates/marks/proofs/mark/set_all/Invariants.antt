use Prim.Native.Nat.{◌+◌, ◌*◌, ◌-◌}
use mathlib.Core.Path.{◌≡◌}
use mathlib.Core.Bool.{true}
use lib.ListN.{length}
use Rattle.memory.specs.Bytes.{overlay}
use Rattle.marks.specs.Marks.{words_bytes}
use Rattle.marks.proofs.mark.set_all.Given as goal

-- `marks::mark::set_all` meets its contract. The loop's invariant: the words that are left to store make of `m` what all of them make of it at entry.
abbrev pub invariant-loop-w : goal.invariant-loop-w
invariant-loop-w l = (overlay l.initial.m l.at (words_bytes (λ t. true) 0 64) ≡ overlay l.m (l.at + 8 * l.w) (words_bytes (λ t. true) (64 * l.w) (64 - l.w)))
    × (length l.m ≡ length l.initial.m)
