use Prim.Native.Nat.{◌-◌}
use lib.ListN.{length}
use Rattle.parts.specs.Turn.{part_in}
use Rattle.encoder_passes.proofs.Writing.{Progress}
use Rattle.encoder_passes.proofs.write.write_list.Given as goal

-- `write_list` meets its contract. The invariant: what was passed so far, and what is left, are the whole.
abbrev pub invariant-loop-at : goal.invariant-loop-at
invariant-loop-at l = Progress l.initial.m l.stream.value (part_in l.part) l.s l.initial.out l.write l.m l.out l.to l.at

abbrev pub decreases-loop-at : goal.decreases-loop-at
decreases-loop-at l = length l.s - l.at
