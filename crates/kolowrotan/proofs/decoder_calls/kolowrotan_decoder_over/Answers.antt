use mathlib.Core.Path.{ap, ◌∙◌}
use Rattle.reply.specs.Reply.{joined}
use Rattle.kolowrotan.proofs.Narrow.{narrow, over-call}
use Rattle.kolowrotan.proofs.decoder_calls.kolowrotan_decoder_over.Goals as goal

pub join-requires : goal.join-requires
join-requires c = narrow c.over-r.ensures.result_value (over-call _ _)

pub returns : goal.returns
returns c = record { value = c.join.ensures ∙ ap joined c.over-r.ensures.result_value; memory_after = c.over-r.ensures.m_after }
