use Rattle.std.proofs.Common.{◌≡◌, ◌+◌, ◌-◌, ◌*◌}
use Rattle.state.specs.Forms.{streams_ok}
use Rattle.state_test.proofs.decoder.streams_ok.Given as goal

-- `state_test::decoder::streams_ok` meets its contract. The loop's invariant: the answer is that for the streams left, after the last one seen.
abbrev pub invariant-loop-i : goal.invariant-loop-i
invariant-loop-i l = streams_ok l.m l.k l.at l.last ≡ streams_ok l.m (l.k - l.i) (l.at + 2 * l.i) l.before
