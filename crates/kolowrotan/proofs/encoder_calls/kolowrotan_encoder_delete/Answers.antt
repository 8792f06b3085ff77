use mathlib.Core.Path.{ap, ◌∙◌}
use Rattle.reply.specs.Reply.{joined}
use Rattle.kolowrotan.proofs.Narrow.{narrow}
use Rattle.kolowrotan.proofs.NarrowEncoder.{encoder-delete}
use Rattle.kolowrotan.proofs.encoder_calls.kolowrotan_encoder_delete.Goals as goal

pub join-requires : goal.join-requires
join-requires c = narrow c.delete-r.ensures.result_value (encoder-delete _ _ _)

pub returns : goal.returns
returns c = record { value = c.join.ensures ∙ ap joined c.delete-r.ensures.result_value; memory_after = c.delete-r.ensures.m_after; output_after = c.delete-r.ensures.out_after }
