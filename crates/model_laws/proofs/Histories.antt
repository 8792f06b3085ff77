-- What the encoder's table holds, and the horizons of each entry, by the calls since the start.
-- From the two files on them.
use Rattle.model_laws.specs.History.{Histories}
use Rattle.model_laws.proofs.Held.{encoder_held}
use Rattle.model_laws.proofs.Horizons.{horizons}

pub histories : Histories
histories = record { encoder_held = encoder_held; horizons = horizons }
