use Rattle.std.proofs.lemmas.Grind.{common_steps}
use native.Mathlib.Omega.{arith}
use Rattle.link_notes.specs.Parts.{begun}
use Rattle.link_notes.proofs.Mapping.{mapped_more}
use Rattle.link_notes.proofs.notes.Notes.begin_table.Goals as goal

pub loop-part-preserved : goal.loop-part-preserved
loop-part-preserved c = mapped_more _ _ _ _ _ _ (omega arith) c.loop-part.invariant c.begin.ensures

pub returns : goal.returns
unfolding begun
returns c = grind (arith, common_steps)
