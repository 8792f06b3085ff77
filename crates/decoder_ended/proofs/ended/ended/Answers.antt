use mathlib.Core.Path.{refl, sym, ◌∙◌}
use borrow.Author.Rules.{rules}
use Rattle.model.specs.Parts.{ended}
use Rattle.decoder.proofs.Standing.{meets}
use Rattle.decoder_ended.proofs.Closing.{refused-closing, named}
use Rattle.decoder_ended.proofs.ended.ended.Goals as goal

pub close_both-requires : goal.close_both-requires
close_both-requires c = let n = named ended _ (search rules) _ _ (sym c.stream_named.ensures ∙ c.in-Ok.is) in (n.low, n.long)

pub returns-in-Ok : goal.returns-in-Ok
returns-in-Ok c =
    let n = named ended _ (search rules) _ _ (sym c.stream_named.ensures ∙ c.in-Ok.is) in
    let all = meets n.closes c.done.ensures c.close_both.ensures in record { result_value = all.0; m_after = all.1 }

pub returns-in-Err : goal.returns-in-Err
returns-in-Err c =
    let all = meets (refused-closing ended _ (search rules) _ _ (sym c.stream_named.ensures ∙ c.in-Err.is)) c.because.ensures refl in
    record { result_value = all.0; m_after = all.1 }
