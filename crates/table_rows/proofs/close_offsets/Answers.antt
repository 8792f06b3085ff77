use Rattle.table_rows.specs.Rows.{offsets_closed}
use Rattle.table_rows.proofs.close_offsets.Goals as goal

pub returns : goal.returns
unfolding offsets_closed
returns c = rw (c.shift.ensures, c.close.ensures)
