use mathlib.Core.Path.{ap, ◌∙◌}
use Rattle.reply.specs.Reply.{joined}
use Rattle.kolowrotan.proofs.Narrow.{narrow}
use Rattle.kolowrotan.proofs.NarrowEncoder.{encoder-block}
use Rattle.kolowrotan.proofs.encoder_calls.kolowrotan_encoder_block.Goals as goal

pub join-requires : goal.join-requires
join-requires c = narrow c.block-r.ensures.result_value (encoder-block _ _ _ _ _)

pub returns : goal.returns
returns c = record { value = c.join.ensures ∙ ap joined c.block-r.ensures.result_value; memory_after = c.block-r.ensures.m_after; output_after = c.block-r.ensures.out_after }
