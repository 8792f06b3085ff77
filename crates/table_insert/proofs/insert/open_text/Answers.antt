use Rattle.table.specs.Changes.{text_opened}
use Rattle.table_insert.proofs.insert.open_text.Goals as goal

pub returns : goal.returns
unfolding text_opened
returns c = c.move_up.ensures
