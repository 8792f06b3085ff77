use borrow.Author.Rules.{rules}
use mathlib.Core.Path.{sym, ◌∙◌}
use Rattle.decoder_collect.proofs.Readiness.{ready-none}
use Rattle.decoder_collect.proofs.ReadyDeletes.{formed, ready-is, good}
use Rattle.decoder_collect.proofs.collect.is_ready.Goals as goal

pub hold_lowest-requires : goal.hold_lowest-requires
hold_lowest-requires c =
    let stands = formed c.args.m.now c.requires.1 (search rules) in
    good _ stands _ c.requires.0

pub returns : goal.returns
returns c = ready-none _ _ _ _ c.hold_lowest.ensures (search rules) ∙ sym (ready-is _ _)
