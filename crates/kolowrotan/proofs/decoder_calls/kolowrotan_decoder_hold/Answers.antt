use mathlib.Core.Path.{ap, ◌∙◌}
use Rattle.reply.specs.Reply.{joined}
use Rattle.kolowrotan.proofs.Narrow.{narrow, hold-call}
use Rattle.kolowrotan.proofs.decoder_calls.kolowrotan_decoder_hold.Goals as goal

pub join-requires : goal.join-requires
join-requires c = narrow c.enquire-r.ensures (hold-call _ _)

pub returns : goal.returns
returns c = c.join.ensures ∙ ap joined c.enquire-r.ensures
