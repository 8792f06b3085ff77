use Prim.Native.Nat.{ℕ, ◌+◌, ◌%◌}
use mathlib.Core.Path.{◌≡◌, ap, ◌∙◌}
use Rattle.std.proofs.Common.{rules}
use Rattle.memory.specs.Numbers.{number_bytes}
use Rattle.memory.proofs.Numbers.{bytes-mod}
use Rattle.columns.proofs.column.shift.Goals as goal

pub returns : goal.returns
returns c =
    let by = c.args.by in
    c.change.ensures (λ (x : ℕ). x + by) (λ x y h k. let e : y ≡ (x + by) % 65536 = search rules in ap (number_bytes 2) e ∙ bytes-mod 2 (x + by))
