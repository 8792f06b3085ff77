use Rattle.std.proofs.Common.{◌&&◌, eqb}
use Rattle.state.specs.Layout.{status_at}
use Rattle.state.specs.Forms.{text_ok}
use Rattle.state_test.proofs.FormsTurns.{TextsSeen}
use Rattle.state_test.proofs.decoder.live_rows.Given as goal

-- `state_test::decoder::live_rows` meets its contract. The loop's invariant: the rows before the next are seen, and where each passed, their text
-- ends within the table's.
abbrev pub invariant-loop-i : goal.invariant-loop-i
invariant-loop-i l = TextsSeen (λ j. text_ok l.m j && eqb (status_at l.m j) 0) l.m l.count l.i l.ok
