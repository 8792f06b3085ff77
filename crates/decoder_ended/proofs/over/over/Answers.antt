use mathlib.Core.Path.{refl, sym, ◌∙◌}
use native.Mathlib.Omega.{arith}
use borrow.Author.Rules.{rules}
use Rattle.model.specs.Parts.{over}
use Rattle.decoder.proofs.Standing.{meets}
use Rattle.decoder_ended.proofs.Closing.{refused-closing, named}
use Rattle.decoder_ended.proofs.over.over.Goals as goal

pub clear-requires : goal.clear-requires
clear-requires c = let n = named over _ (search rules) _ _ (sym c.stream_named.ensures ∙ c.in-Ok.is) in (n.low, omega (arith, n.long))

pub returns-in-Ok : goal.returns-in-Ok
returns-in-Ok c =
    let n = named over _ (search rules) _ _ (sym c.stream_named.ensures ∙ c.in-Ok.is) in
    let all = meets n.closes c.done.ensures c.clear.ensures in record { result_value = all.0; m_after = all.1 }

pub returns-in-Err : goal.returns-in-Err
returns-in-Err c =
    let all = meets (refused-closing over _ (search rules) _ _ (sym c.stream_named.ensures ∙ c.in-Err.is)) c.because.ensures refl in
    record { result_value = all.0; m_after = all.1 }
