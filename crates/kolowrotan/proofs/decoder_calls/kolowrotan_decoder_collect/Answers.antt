use mathlib.Core.Path.{ap, ◌∙◌}
use Rattle.reply.specs.Reply.{joined}
use Rattle.kolowrotan.proofs.Narrow.{narrow, collect-call}
use Rattle.kolowrotan.proofs.decoder_calls.kolowrotan_decoder_collect.Goals as goal

pub join-requires : goal.join-requires
join-requires c = narrow c.collect-r.ensures.result_value (collect-call _ _)

pub returns : goal.returns
returns c = record { value = c.join.ensures ∙ ap joined c.collect-r.ensures.result_value; memory_after = c.collect-r.ensures.m_after; output_after = c.collect-r.ensures.out_after }
