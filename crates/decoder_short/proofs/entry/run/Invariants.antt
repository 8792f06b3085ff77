use Prim.Native.Nat.{◌-◌}
use lib.ListN.{length}
use Rattle.decoder_short.specs.Pass.{TookAll}
use Rattle.decoder_short.proofs.entry.run.Given as goal

-- `run` meets its contract. The invariant: the fields so far stand behind what was in the list before.
abbrev pub invariant-loop-at : goal.invariant-loop-at
invariant-loop-at l = TookAll l.m l.s l.from l.initial.out l.out l.start l.at l.to

abbrev pub decreases-loop-at : goal.decreases-loop-at
decreases-loop-at l = length l.s - l.at
