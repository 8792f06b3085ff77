use Rattle.std.proofs.Common.{◌≤◌}
use Rattle.show.proofs.streams.Given as goal

-- The stream that a delta counts from is at most 4,096.
abbrev pub invariant-loop : goal.invariant-loop
invariant-loop l = l.last ≤ 4096
