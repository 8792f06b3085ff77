use Rattle.state.specs.Forms.{index_ok}
use Rattle.state_test.proofs.FormsTurns.{EachSeen}
use Rattle.state_test.proofs.forms.rising.Given as goal

-- `state_test::forms::rising` meets its contract. The loop's invariant: the rows before the next are seen.
abbrev pub invariant-loop-i : goal.invariant-loop-i
invariant-loop-i l = EachSeen (index_ok l.m) l.count l.i l.ok
