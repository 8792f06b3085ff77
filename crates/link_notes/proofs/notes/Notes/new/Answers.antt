use Rattle.std.proofs.Common.{ap, replicate}
use Rattle.link_notes.proofs.notes.Notes.new.Goals as goal

pub returns : goal.returns
returns c = ap (replicate 8192) c.new.ensures
