use mathlib.Core.Path.{ap, ◌∙◌}
use Rattle.reply.specs.Reply.{joined}
use Rattle.kolowrotan.proofs.Narrow.{narrow, read-call}
use Rattle.kolowrotan.proofs.decoder_calls.kolowrotan_decoder_read.Goals as goal

pub join-requires : goal.join-requires
join-requires c = narrow c.read-r.ensures.result_value (read-call _ _)

pub returns : goal.returns
returns c = record { value = c.join.ensures ∙ ap joined c.read-r.ensures.result_value; memory_after = c.read-r.ensures.m_after }
