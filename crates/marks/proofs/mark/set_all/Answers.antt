use mathlib.Core.Path.{sym, ◌∙◌}
use native.Mathlib.Omega.{arith}
use Rattle.memory.proofs.Overlay.{length-overlay}
use Rattle.marks.proofs.Turns.{all_more, all_done}
use Rattle.marks.proofs.mark.set_all.Goals as goal

pub loop-w-preserved : goal.loop-w-preserved
loop-w-preserved c =
    let l = c.loop-w.invariant in
    let put = c.put_u64.ensures in
    (rw put (l.0 ∙ all_more _ _ _ (omega arith)), rw put (simp length-overlay l.1))

pub returns : goal.returns
returns c = sym (c.loop-w.invariant.0 ∙ all_done _ _ _ _ (omega arith))
