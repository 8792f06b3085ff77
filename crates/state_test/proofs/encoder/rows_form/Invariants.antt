use Rattle.std.proofs.Common.{◌&&◌}
use Rattle.state.specs.Forms.{text_ok, reference_ok}
use Rattle.state_test.proofs.FormsTurns.{TextsSeen}
use Rattle.state_test.proofs.encoder.rows_form.Given as goal

-- `state_test::encoder::rows_form` meets its contract. The loop's invariant: the rows before the next are seen, and where each passed, their text
-- ends within the table's.
abbrev pub invariant-loop-i : goal.invariant-loop-i
invariant-loop-i l = TextsSeen (λ j. text_ok l.m j && reference_ok l.m j) l.m l.count l.i l.ok
