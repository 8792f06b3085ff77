use Prim.Native.Nat.{◌-◌}
use lib.ListN.{length}
use Rattle.decoder_short.specs.Pass.{TookAll}
use Rattle.decoder_short.proofs.block.decode.Given as goal

-- `decode` meets its contract. The invariant: the fields so far stand at the front of the list.
abbrev pub invariant-loop-at : goal.invariant-loop-at
invariant-loop-at l = TookAll l.m l.s 0 l.initial.out l.out 0 l.at l.to

abbrev pub decreases-loop-at : goal.decreases-loop-at
decreases-loop-at l = length l.s - l.at
