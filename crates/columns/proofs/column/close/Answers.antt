use Prim.Native.Nat.{ℕ, ◌+◌, ◌*◌, ◌-◌}
use mathlib.Core.Path.{◌≡◌, ap, ◌∙◌}
use native.Mathlib.Omega.{arith}
use Rattle.memory.specs.Bytes.{moved}
use Rattle.columns.specs.Columns.{column_closed}
use Rattle.columns.proofs.column.close.Goals as goal

-- `columns::column::close` meets its contract.
pub returns : goal.returns
unfolding column_closed
returns c =
    let a = c.args in
    let from : a.at + a.width * a.place + a.width ≡ a.at + a.width * (a.place + 1) = omega arith in
    c.move_down.ensures ∙ ap (λ (k : ℕ). moved a.m.now (a.at + a.width * a.place) k (a.width * (a.count - (a.place + 1)))) from
