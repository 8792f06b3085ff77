use Prim.Native.Nat.{◌-◌}
use mathlib.Core.Path.{◌≡◌}
use Rattle.state.specs.Layout.{delete_count}
use Rattle.decoder_collect.specs.Ready.{next_from}
use Rattle.decoder_collect.proofs.collect.first_ready.Given as goal

-- `first_ready` meets its contract. The loop's invariant: the answer is that of the deletes that are left.
abbrev pub invariant-loop-k : goal.invariant-loop-k
invariant-loop-k l = next_from l.m (delete_count l.m) 0 ≡ next_from l.m (delete_count l.m - l.k) l.k
