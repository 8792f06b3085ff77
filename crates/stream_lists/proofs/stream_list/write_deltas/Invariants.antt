use Prim.Native.Nat.{◌+◌}
use mathlib.Core.Path.{◌≡◌}
use lib.ListN.{length, drop}
use Rattle.memory.specs.Bytes.{overlay}
use Rattle.stream_lists.specs.StreamList.{Fits, deltas_wire}
use Rattle.stream_lists.proofs.stream_list.write_deltas.Given as goal

-- `write_deltas` writes `deltas_wire`. The invariant: the bytes left, stored from `next` on, give what the whole is to give.
abbrev pub invariant-loop-listed : goal.invariant-loop-listed
invariant-loop-listed l = Fits l.last (drop l.listed-index l.streams)
    × (l.at + length (deltas_wire l.horizon l.streams) ≡ l.next + length (deltas_wire l.last (drop l.listed-index l.streams)))
    × (overlay l.initial.out l.at (deltas_wire l.horizon l.streams) ≡ overlay l.out l.next (deltas_wire l.last (drop l.listed-index l.streams)))
    × (length l.out ≡ length l.initial.out)
