use Rattle.std.proofs.Common.{◌<◌}
use Rattle.table_fill.proofs.empty.Given as goal

-- The index is one of the 128 from 62 on.
abbrev pub invariant-loop : goal.invariant-loop
invariant-loop l = l.k < 128
