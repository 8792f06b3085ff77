use mathlib.Core.Path.{ap, ◌∙◌}
use Rattle.reply.specs.Reply.{joined}
use Rattle.kolowrotan.proofs.Narrow.{narrow}
use Rattle.kolowrotan.proofs.NarrowEncoder.{encoder-acknowledge}
use Rattle.kolowrotan.proofs.encoder_calls.kolowrotan_encoder_acknowledge.Goals as goal

pub join-requires : goal.join-requires
join-requires c = narrow c.acknowledge-r.ensures.result_value (encoder-acknowledge _ _)

pub returns : goal.returns
returns c = record { value = c.join.ensures ∙ ap joined c.acknowledge-r.ensures.result_value; memory_after = c.acknowledge-r.ensures.m_after }
