use Rattle.table_rows.specs.Rows.{row_opened}
use Rattle.table_rows.proofs.open_row.Goals as goal

pub returns : goal.returns
unfolding row_opened
returns c =
    rw (c.open_u16.ensures, c.open_u8.ensures, c.open_offsets.ensures, c.open_u32.ensures)
