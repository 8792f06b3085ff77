use mathlib.Core.Path.{◌∙◌}
use Rattle.memory.proofs.Numbers.{le_bytes-number_4}
use Rattle.columns.proofs.Steps.{opened}
use Rattle.columns.proofs.column.open_u32.Goals as goal

-- `columns::column::open_u32` meets its contract.
pub returns : goal.returns
returns c =
    let a = c.args in
    opened 4 _ _ _ a.at a.place a.count a.x (c.to_le_bytes.ensures ∙ le_bytes-number_4 a.x) c.«open».ensures
