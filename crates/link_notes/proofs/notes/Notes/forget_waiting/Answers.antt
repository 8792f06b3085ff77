use Rattle.std.proofs.lemmas.Grind.{common_steps}
use native.Mathlib.Omega.{arith}
use Rattle.link_notes.specs.Parts.{forgotten}
use Rattle.link_notes.proofs.Mapping.{mapped_more}
use Rattle.link_notes.proofs.notes.Notes.forget_waiting.Goals as goal

pub loop-part-preserved : goal.loop-part-preserved
loop-part-preserved c = mapped_more _ _ _ _ _ _ (omega arith) c.loop-part.invariant c.forget_waiting.ensures

pub returns : goal.returns
unfolding forgotten
returns c = grind (arith, common_steps)
