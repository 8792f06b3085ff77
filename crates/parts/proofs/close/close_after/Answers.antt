use Rattle.parts.specs.Close.{closed_by}
use Rattle.parts.proofs.close.close_after.Goals as goal

pub returns-in-Nontrailer : goal.returns-in-Nontrailer
unfolding closed_by
returns-in-Nontrailer c = rw c.in-Nontrailer.is

pub returns-in-Trailer : goal.returns-in-Trailer
unfolding closed_by
returns-in-Trailer c = rw c.in-Trailer.is c.close_both.ensures
