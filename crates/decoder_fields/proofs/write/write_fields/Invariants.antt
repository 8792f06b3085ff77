use Prim.Native.Nat.{◌-◌}
use lib.ListN.{length}
use Rattle.memory.specs.Bytes.{overlay}
use Rattle.decoder_survey.specs.Measure.{meaning_of, list_bytes}
use Rattle.decoder_fields.proofs.Writing.{Writing}
use Rattle.decoder_fields.proofs.write.write_fields.Given as goal

-- `write_fields` meets its contract. The invariant: the rest laid over the output so far is the whole laid over the output as it was.
-- What hands over lays the rest.
abbrev pub invariant-loop-at : goal.invariant-loop-at
invariant-loop-at l = Writing l.m l.s l.initial.out (overlay l.initial.out 0 (list_bytes (meaning_of l.m l.s))) l.out l.to l.at

abbrev pub decreases-loop-at : goal.decreases-loop-at
decreases-loop-at l = length l.s - l.at
