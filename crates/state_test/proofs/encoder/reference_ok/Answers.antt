use Rattle.std.proofs.Common.{ap, ◌∙◌}
use Rattle.state.specs.Layout.{horizon_at}
use Rattle.state_test.proofs.FormsWays.{reference-asked}
use Rattle.state_test.proofs.encoder.reference_ok.Goals as goal

pub returns : goal.returns
returns c =
    reference-asked _ _ _ _ _ c.status_at.ensures
    (c.horizon_at.ensures ∙ ap (horizon_at _) c.nontrailer_place.ensures)
    (c.horizon_at-2.ensures ∙ ap (horizon_at _) c.trailer_place.ensures)
