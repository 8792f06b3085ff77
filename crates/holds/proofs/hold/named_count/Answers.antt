use mathlib.Core.Path.{sym}
use native.Mathlib.Omega.{arith}
use Rattle.marks.specs.Marks.{is_set}
use Rattle.marks.proofs.Counting.{count-le}
use Rattle.state.specs.DecoderState.{list_at}
use Rattle.holds.proofs.Naming.{named_count}
use Rattle.holds.proofs.Reading.{list-streams}
use Rattle.holds.proofs.hold.named_count.Goals as goal

pub count_below-requires : goal.count_below-requires
unfolding list_at
count_below-requires c = rw c.horizon_at-horizon.ensures (c.requires.fine.0, c.requires.marked)

pub listed_count-requires : goal.listed_count-requires
listed_count-requires c = list-streams _ _ _ _ _ c.listed_count_at-count.ensures c.listed_place.ensures c.requires

pub overflow_add-result : goal.overflow_add-result
unfolding list_at
overflow_add-result c =
    let g = is_set c.args.m.now c.args.marks in
    omega (arith, count-le g 0 c.horizon_at-horizon.result, c.requires.fine.0)

pub returns : goal.returns
unfolding list_at
returns c =
    rw (c.count_below.ensures, c.listed_count.ensures.0, c.horizon_at-horizon.ensures, c.listed_count_at-count.ensures, c.listed_place.ensures)
    (sym (named_count _ _ c.requires.fine))
