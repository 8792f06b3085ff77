use mathlib.Core.Path.{sym, ap, ◌∙◌}
use native.Mathlib.Omega.{arith}
use Rattle.integers.specs.declared.number.StreamNumber.{StreamNumber}
use Rattle.marks.specs.Marks.{lowest_from}
use Rattle.state.specs.DecoderState.{list_at}
use Rattle.holds.specs.Hold.{lowest_case}
use Rattle.holds.proofs.Naming.{lowest-below, lowest-above}
use Rattle.holds.proofs.Reading.{list-streams}
use Rattle.holds.proofs.Telling.{stream-case}
use Rattle.holds.proofs.hold.named_lowest.Goals as goal

pub lowest_below-below-requires : goal.lowest_below-below-requires
unfolding list_at
lowest_below-below-requires c = rw c.horizon_at-horizon.ensures (c.requires.fine.0, c.requires.marked)

pub new-requires : goal.new-requires
unfolding list_at
new-requires c = omega (arith, c.requires.fine.0, c.horizon_at-horizon.ensures)

pub returns-then-below-horizon : goal.returns-then-below-horizon
unfolding list_at
returns-then-below-horizon c =
    let fine = c.requires.fine in
    let low = c.lowest_below-below.ensures ∙ ap (lowest_from _ 0) c.horizon_at-horizon.ensures in
    let new = ap (λ (s : StreamNumber). s.value) c.new.ensures in
    sym (stream-case _ _ (lowest-below _ _ fine (omega arith) ∙ sym low ∙ sym new) (omega (arith, fine.0)))

pub listed_lowest-requires : goal.listed_lowest-requires
listed_lowest-requires c = list-streams _ _ _ _ _ c.listed_count_at-count.ensures c.listed_place.ensures c.requires

pub returns : goal.returns
unfolding list_at
returns c =
    let low = c.lowest_below-below.ensures ∙ ap (lowest_from _ 0) c.horizon_at-horizon.ensures in
    rw (c.listed_lowest.ensures, c.listed_count_at-count.ensures, c.listed_place.ensures)
    (sym (ap lowest_case (lowest-above _ _ c.requires.fine (omega arith))))
