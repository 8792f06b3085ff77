use Rattle.deletes.specs.Deletes.{renumbered}
use Rattle.deletes.proofs.kept.renumber.Goals as goal

pub returns : goal.returns
unfolding renumbered
returns c = rw (c.lower.ensures, c.count_of-count.ensures)
