use mathlib.Core.Path.{sym, ◌∙◌}
use native.Mathlib.Omega.{arith}
use Rattle.holds.proofs.Reading.{lowest-here, lowest-more, lowest-done}
use Rattle.holds.proofs.Telling.{stream-case, no-case}
use Rattle.holds.proofs.hold.listed_lowest.Goals as goal

pub returns-then-is_set : goal.returns-then-is_set
returns-then-is_set c =
    let read = c.stream_at-stream.ensures in
    let low = c.requires.streams c.loop-i.i (omega arith) in
    let here = lowest-here _ _ _ _ _ _ read (omega arith) (sym c.is_set.ensures ∙ c.if-is_set.true) in
    sym (stream-case _ _ (sym c.loop-i.invariant ∙ here) (rw read low))

pub loop-i-preserved : goal.loop-i-preserved
loop-i-preserved c =
    let unmarked = sym c.is_set.ensures ∙ c.if-is_set.false in
    sym (lowest-more _ _ _ _ _ _ c.stream_at-stream.ensures (omega arith) unmarked) ∙ c.loop-i.invariant

pub returns : goal.returns
returns c = sym (no-case _ (sym c.loop-i.invariant ∙ lowest-done _ _ _ _ _ (omega arith)))
