use Prim.Native.Nat.{◌-◌}
use lib.ListN.{length}
use Rattle.decoder_survey.proofs.Surveying.{Surveying}
use Rattle.decoder_survey.proofs.measure.survey_block.Given as goal

-- `survey_block` meets its contract. The invariant: the bytes so far and the survey of the rest are the survey of the whole.
abbrev pub invariant-loop-at : goal.invariant-loop-at
invariant-loop-at l = Surveying l.m l.s l.bytes l.at

abbrev pub decreases-loop-at : goal.decreases-loop-at
decreases-loop-at l = length l.s - l.at
