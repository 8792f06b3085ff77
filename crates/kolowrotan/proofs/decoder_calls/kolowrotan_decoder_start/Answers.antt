use mathlib.Core.Path.{ap, ◌∙◌}
use Rattle.reply.specs.Reply.{joined}
use Rattle.kolowrotan.proofs.Narrow.{narrow, start-call}
use Rattle.kolowrotan.proofs.decoder_calls.kolowrotan_decoder_start.Goals as goal

pub join-requires : goal.join-requires
join-requires c = narrow c.start-r.ensures.result_value (start-call _ _)

pub returns : goal.returns
returns c = record { value = c.join.ensures ∙ ap joined c.start-r.ensures.result_value; memory_after = c.start-r.ensures.m_after }
