-- Both lemmas of the model.
-- From its two halves, before and after "Hence".
use Rattle.model_laws.specs.Demand.{AbstractDemand}
use Rattle.model_laws.proofs.ReadyClaim.{ready-claim}
use Rattle.model_laws.proofs.LinkClaim.{link-claim}

pub abstract-demand : AbstractDemand
abstract-demand = record { before_hence = ready-claim; hence = link-claim }
