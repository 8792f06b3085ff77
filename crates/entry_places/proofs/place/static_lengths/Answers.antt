use Rattle.entry_places.proofs.Locating.{static-lengths}
use Rattle.entry_places.proofs.place.static_lengths.Goals as goal

pub returns : goal.returns
returns c = static-lengths _ c.requires.0 c.requires.1 c.static_place-p.ensures
