use Rattle.marks.specs.Marks.{is_set, bit, word_place}
use Rattle.marks.proofs.mark.is_set.Goals as goal

pub returns : goal.returns
unfolding is_set bit word_place
returns c = rw (c.power.ensures, c.u64_at-word.ensures)
