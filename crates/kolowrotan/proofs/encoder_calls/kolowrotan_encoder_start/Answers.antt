use mathlib.Core.Path.{ap, ◌∙◌}
use Rattle.reply.specs.Reply.{joined}
use Rattle.kolowrotan.proofs.Narrow.{narrow}
use Rattle.kolowrotan.proofs.NarrowEncoder.{encoder-start}
use Rattle.kolowrotan.proofs.encoder_calls.kolowrotan_encoder_start.Goals as goal

pub join-requires : goal.join-requires
join-requires c = narrow c.start-r.ensures.result_value (encoder-start _ _)

pub returns : goal.returns
returns c = record { value = c.join.ensures ∙ ap joined c.start-r.ensures.result_value; memory_after = c.start-r.ensures.m_after }
