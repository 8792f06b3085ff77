use Prim.Native.Nat.{◌-◌}
use mathlib.Core.Path.{◌≡◌}
use lib.ListN.{length}
use Rattle.decoder_survey.specs.Passes.{rest_at, waits_unless}
use Rattle.decoder_survey.proofs.measure.survey_waiting.Given as goal

-- `survey_waiting` meets its contract. The invariant: what is left to read decides as the whole did.
abbrev pub invariant-loop-at : goal.invariant-loop-at
invariant-loop-at l = waits_unless l.index (rest_at l.s l.from) ≡ waits_unless l.index (rest_at l.s l.at)

abbrev pub decreases-loop-at : goal.decreases-loop-at
decreases-loop-at l = length l.s - l.at
