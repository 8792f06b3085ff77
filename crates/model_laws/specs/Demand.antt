-- Both lemmas on abstract data that demand 3 is proved from. The founder's demand itself is `Demand3` of link/specs/Claims.antt.
use Rattle.model_laws.specs.Ready.{AbstractReady}
use Rattle.model_laws.specs.Link.{AbstractLink}

pub record AbstractDemand : Type 0 where
  pub before_hence : AbstractReady
  pub hence : AbstractLink
