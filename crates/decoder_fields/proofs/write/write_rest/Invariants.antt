use Prim.Native.Nat.{◌-◌}
use lib.ListN.{length}
use Rattle.memory.specs.Bytes.{overlay}
use Rattle.decoder_survey.specs.Measure.{list_bytes}
use Rattle.decoder_survey.specs.Passes.{meaning_from}
use Rattle.decoder_fields.proofs.Writing.{Writing}
use Rattle.decoder_fields.proofs.write.write_rest.Given as goal

-- `write_rest` meets its contract. The invariant: the rest laid over the output so far is what is to be written laid over the output as it was.
abbrev pub invariant-loop-at : goal.invariant-loop-at
invariant-loop-at l = Writing l.m l.s l.initial.out (overlay l.initial.out l.start (list_bytes (meaning_from l.m l.s l.from))) l.out l.to l.at

abbrev pub decreases-loop-at : goal.decreases-loop-at
decreases-loop-at l = length l.s - l.at
