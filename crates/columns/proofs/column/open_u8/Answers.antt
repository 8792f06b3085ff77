use mathlib.Core.Path.{◌∙◌}
use native.Mathlib.Omega.{arith}
use Rattle.memory.proofs.Numbers.{le_bytes-number_1}
use Rattle.columns.proofs.Steps.{opened}
use Rattle.columns.proofs.column.open_u8.Goals as goal

-- `columns::column::open_u8` meets its contract.
pub returns : goal.returns
returns c =
    let a = c.args in
    opened 1 _ _ _ a.at a.place a.count a.x (c.to_le_bytes.ensures ∙ le_bytes-number_1 a.x (omega arith)) c.«open».ensures
