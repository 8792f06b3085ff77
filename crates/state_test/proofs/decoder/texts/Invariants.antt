use Rattle.state.specs.Forms.{text_ok}
use Rattle.state_test.proofs.FormsTurns.{TextsSeen}
use Rattle.state_test.proofs.decoder.texts.Given as goal

-- `state_test::decoder::texts` meets its contract. The loop's invariant: the rows before the next are seen, and where each passed, their text
-- ends within the table's.
abbrev pub invariant-loop-i : goal.invariant-loop-i
invariant-loop-i l = TextsSeen (text_ok l.m) l.m l.count l.i l.ok
