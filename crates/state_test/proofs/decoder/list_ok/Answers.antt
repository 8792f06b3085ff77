use Rattle.std.proofs.Common.{sym, ◌∙◌}
use Rattle.state_test.proofs.FormsWays.{list-horizon, list_count, list-streams, list-zeros, list-empty}
use Rattle.state_test.proofs.decoder.list_ok.Goals as goal

pub returns-then-horizon-gt-MOST_HORIZON : goal.returns-then-horizon-gt-MOST_HORIZON
returns-then-horizon-gt-MOST_HORIZON c = sym (list-horizon _ _ _ c.horizon_at-horizon.ensures c.if-horizon-gt-MOST_HORIZON.true)

pub returns-then-count-gt-MOST_LISTED : goal.returns-then-count-gt-MOST_LISTED
returns-then-count-gt-MOST_LISTED c =
    sym (list_count _ _ _ c.horizon_at-horizon.ensures c.if-horizon-gt-MOST_HORIZON.false _ c.listed_count_at-count.ensures c.if-count-gt-MOST_LISTED.true)

pub returns-then-count-eq0 : goal.returns-then-count-eq0
returns-then-count-eq0 c =
    c.zeros.ensures
    ∙ sym (list-empty _ _ _ c.horizon_at-horizon.ensures c.if-horizon-gt-MOST_HORIZON.false _ c.listed_count_at-count.ensures
    _ c.listed_place-listed.ensures c.if-count-eq0.true)

pub returns-then-not-streams_ok : goal.returns-then-not-streams_ok
returns-then-not-streams_ok c =
    sym (list-streams _ _ _ c.horizon_at-horizon.ensures c.if-horizon-gt-MOST_HORIZON.false _ c.listed_count_at-count.ensures
    _ c.listed_place-listed.ensures c.if-count-gt-MOST_LISTED.false _ c.streams_ok.ensures c.if-not-streams_ok.true)

pub returns : goal.returns
returns c =
    c.zeros-2.ensures
    ∙ sym (list-zeros _ _ _ c.horizon_at-horizon.ensures c.if-horizon-gt-MOST_HORIZON.false _ c.listed_count_at-count.ensures
    _ c.listed_place-listed.ensures c.if-count-gt-MOST_LISTED.false _ c.streams_ok.ensures c.if-not-streams_ok.false)
