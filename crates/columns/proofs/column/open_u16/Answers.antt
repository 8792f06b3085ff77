use mathlib.Core.Path.{◌∙◌}
use Rattle.memory.proofs.Numbers.{le_bytes-number_2}
use Rattle.columns.proofs.Steps.{opened}
use Rattle.columns.proofs.column.open_u16.Goals as goal

-- `columns::column::open_u16` meets its contract.
pub returns : goal.returns
returns c =
    let a = c.args in
    opened 2 _ _ _ a.at a.place a.count a.x (c.to_le_bytes.ensures ∙ le_bytes-number_2 a.x) c.«open».ensures
