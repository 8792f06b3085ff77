use mathlib.Core.Path.{ap, ◌∙◌}
use Rattle.reply.specs.Reply.{joined}
use Rattle.kolowrotan.proofs.Narrow.{narrow, ended-call}
use Rattle.kolowrotan.proofs.decoder_calls.kolowrotan_decoder_ended.Goals as goal

pub join-requires : goal.join-requires
join-requires c = narrow c.ended-r.ensures.result_value (ended-call _ _)

pub returns : goal.returns
returns c = record { value = c.join.ensures ∙ ap joined c.ended-r.ensures.result_value; memory_after = c.ended-r.ensures.m_after }
