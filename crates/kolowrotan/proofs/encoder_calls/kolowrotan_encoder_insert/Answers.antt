use mathlib.Core.Path.{ap, ◌∙◌}
use Rattle.reply.specs.Reply.{joined}
use Rattle.kolowrotan.proofs.Narrow.{narrow}
use Rattle.kolowrotan.proofs.NarrowEncoder.{encoder-insert}
use Rattle.kolowrotan.proofs.encoder_calls.kolowrotan_encoder_insert.Goals as goal

pub join-requires : goal.join-requires
join-requires c = narrow c.insert-r.ensures.result_value (encoder-insert _ _ _ _)

pub returns : goal.returns
returns c = record { value = c.join.ensures ∙ ap joined c.insert-r.ensures.result_value; memory_after = c.insert-r.ensures.m_after; output_after = c.insert-r.ensures.out_after }
