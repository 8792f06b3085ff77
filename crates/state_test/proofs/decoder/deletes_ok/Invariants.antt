use Rattle.std.proofs.Common.{◌≡◌, ◌-◌}
use Rattle.state.specs.Layout.{delete_count}
use Rattle.state.specs.Forms.{deletes_ok}
use Rattle.state_test.proofs.decoder.deletes_ok.Given as goal

-- `state_test::decoder::deletes_ok` meets its contract. The loop's invariant: the answer is that for the deletes left.
abbrev pub invariant-loop-k : goal.invariant-loop-k
invariant-loop-k l = deletes_ok l.m (delete_count l.m) 0 ≡ deletes_ok l.m (l.n - l.k) l.k
