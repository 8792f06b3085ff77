use Prim.Native.Nat.{ℕ}
use mathlib.Core.Path.{sym, ◌∙◌}
use native.Mathlib.Omega.{arith}
use Rattle.memory.proofs.Order.{pick_true, pick-false}
use Rattle.marks.specs.Marks.{is_set}
use Rattle.holds.proofs.Reading.{count-more, count-done}
use Rattle.holds.proofs.hold.listed_count.Goals as goal
use Rattle.holds.proofs.hold.listed_count.Goals.{then-is_set, else-is_set}

pub loop-i-preserved : goal.loop-i-preserved
loop-i-preserved c =
    let a = c.args in
    let g = is_set a.m.now a.marks in
    let read = c.stream_at in
    let more = count-more a.m.now g a.k a.at c.loop-i.i read.result read.ensures (omega arith) in
    let marked = c.is_set.ensures in
    elim c.if-is_set.branch [ then-is_set w ↦ omega (arith, pick_true {X = ℕ} (g read.result.value) 1 0 (sym marked ∙ w.if-is_set.true)) | else-is_set w ↦ omega (arith, pick-false {X = ℕ} (g read.result.value) 1 0 (sym marked ∙ w.if-is_set.false)) ]

pub returns : goal.returns
returns c =
    let a = c.args in
    omega (arith, count-done a.m.now (is_set a.m.now a.marks) a.k a.at c.loop-i.i (omega arith))
