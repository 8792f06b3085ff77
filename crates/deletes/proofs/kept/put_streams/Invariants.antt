use mathlib.Core.Path.{◌≡◌}
use lib.ListN.{length}
use Rattle.memory.specs.Bytes.{overlay}
use Rattle.stream_lists.specs.StreamList.{streams_from}
use Rattle.state.specs.DecoderState.{streams_bytes}
use Rattle.deletes.proofs.Listing.{Left}
use Rattle.deletes.proofs.kept.put_streams.Given as goal

-- `deletes::kept::put_streams` meets its contract. The loop's invariant: the streams that are left, stored over `m`, give the whole.
abbrev pub invariant-loop-i : goal.invariant-loop-i
invariant-loop-i l = (length l.m ≡ length l.initial.m)
    × Left l.s (overlay l.initial.m l.at (streams_bytes (streams_from l.count l.s l.initial.place l.initial.last))) l.at l.count l.i l.m l.last l.place
