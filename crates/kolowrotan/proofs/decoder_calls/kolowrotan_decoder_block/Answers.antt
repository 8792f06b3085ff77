use mathlib.Core.Path.{ap, ◌∙◌}
use Rattle.reply.specs.Reply.{joined}
use Rattle.kolowrotan.proofs.Narrow.{narrow, block-call}
use Rattle.kolowrotan.proofs.decoder_calls.kolowrotan_decoder_block.Goals as goal

pub join-requires : goal.join-requires
join-requires c = narrow c.block-r.ensures.result_value (block-call _ _ _ _ _)

pub returns : goal.returns
returns c = record { value = c.join.ensures ∙ ap joined c.block-r.ensures.result_value; memory_after = c.block-r.ensures.m_after; output_after = c.block-r.ensures.out_after }
