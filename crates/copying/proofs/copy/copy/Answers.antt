use mathlib.Core.Path.{◌∙◌}
use native.Mathlib.Omega.{arith}
use Rattle.memory.proofs.Covering.{two-words}
use Rattle.copying.proofs.copy.copy.Goals as goal
use Rattle.copying.proofs.copy.copy.Goals.{then-n-lt8, else-n-lt8+then-n-le16, else-n-lt8+else-n-le16}

pub returns-clause-out_after : goal.returns-clause-out_after
returns-clause-out_after c =
    let a = c.args in
    elim c.if-n-lt8.branch [
      | then-n-lt8 w ↦ w.out-is ∙ w.copy_short.ensures
      | else-n-lt8+then-n-le16 w ↦
          w.out-is ∙ two-words a.out.now a.src.now _ _ a.at 8 (omega (arith, w.if-n-lt8.false)) (omega (arith, w.if-n-le16.true)) w.copy_eight.ensures w.copy_eight-then-n-le16.ensures
      | else-n-lt8+else-n-le16 w ↦ w.out-is ∙ w.copy_long.ensures
    ]
