use mathlib.Core.Path.{sym, ap, ◌∙◌}
use Rattle.decoder_fields.specs.Indexes.{index_in}
use Rattle.decoder_fields.proofs.Indexing.{place_read}
use Rattle.decoder_fields.proofs.write.read_any_index.Goals as goal

pub returns-in_default : goal.returns-in_default
returns-in_default c = ap index_in (sym c.in_default.is ∙ c.read_representation-r.ensures)

pub returns-in_default-place : goal.returns-in_default-place
returns-in_default-place c = place_read c.in-Ok.is c.in_default-place.is ∙ ap index_in c.read_representation-r.ensures

pub returns : goal.returns
returns c = place_read c.in-Ok.is c.in-Indexed.is ∙ ap index_in c.read_representation-r.ensures
