use Rattle.std.proofs.Common.{◌≡◌, ◌+◌, ◌-◌, ◌≤◌, true}
use Rattle.state.specs.Forms.{status_ok, pointing}
use Rattle.state_test.proofs.FormsTurns.{EachSeen}
use Rattle.state_test.proofs.decoder.statuses_ok.Given as goal

-- `state_test::decoder::statuses_ok` meets its contract. The loop's invariant: the rows before the next passed, and the rows that point at a delete are
-- those counted and those left.
abbrev pub invariant-loop-i : goal.invariant-loop-i
invariant-loop-i l = EachSeen (status_ok l.m) l.count l.i true × (l.pointed ≤ l.i) × (pointing l.m l.count 0 ≡ l.pointed + pointing l.m (l.count - l.i) l.i)
