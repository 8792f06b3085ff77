-- Demand 3 on memory and bytes, entire.
use Rattle.link.specs.Claims.{Demand3}
use Rattle.link.proofs.ReadyClaim.{ready-claim}
use Rattle.link.proofs.LinkClaim.{link-claim}

pub demand-3 : Demand3
demand-3 = record { before_hence = ready-claim; hence = link-claim }
