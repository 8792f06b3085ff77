use Rattle.table_rows.specs.Rows.{offsets_opened}
use Rattle.table_rows.proofs.open_offsets.Goals as goal

pub returns : goal.returns
unfolding offsets_opened
returns c = rw (c.shift.ensures, c.open_u16.ensures)
