use Rattle.table_rows.specs.Rows.{row_closed}
use Rattle.table_rows.proofs.close_row.Goals as goal

pub returns : goal.returns
unfolding row_closed
returns c =
    rw (c.close-3.ensures, c.close-2.ensures, c.close_offsets.ensures, c.close.ensures)
