use Prim.Native.Nat.{ℕ, ◌+◌, ◌-◌, ◌≤◌}
use mathlib.Core.Path.{◌≡◌}
use Rattle.stream_lists.specs.StreamList.{read_deltas}
use Rattle.stream_lists.proofs.stream_list.read_deltas.Given as goal

-- `read_deltas` answers what `read_deltas` says. The invariant: what is left to read gives the answer of the whole.
abbrev pub invariant-loop : goal.invariant-loop
invariant-loop l = (f : ℕ) × (f + l.counter ≡ l.count) × (read_deltas l.count l.s l.at l.horizon ≡ read_deltas f l.s l.next l.last) × (l.last ≤ 4096)

abbrev pub decreases-loop : goal.decreases-loop
decreases-loop l = l.count - l.counter
