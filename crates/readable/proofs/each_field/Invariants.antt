use Prim.Native.Nat.{◌-◌}
use lib.ListN.{length}
use Rattle.readable.proofs.each_field.Given as goal

-- `each_field` ends, because each field takes a byte at least.
abbrev pub decreases-loop-at : goal.decreases-loop-at
decreases-loop-at l = length l.list - l.at
