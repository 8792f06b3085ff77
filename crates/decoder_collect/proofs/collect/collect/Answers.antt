use borrow.Author.Rules.{rules}
use mathlib.Core.Path.{◌≡◌, refl, sym, ◌∙◌}
use mathlib.Core.Bool.{true}
use Rattle.state.specs.Forms.{forms_decoder}
use Rattle.decoder_collect.proofs.ReadyDeletes.{formed}
use Rattle.decoder_collect.proofs.Calls.{leaves, no_state, none_ready}
use Rattle.decoder_collect.proofs.collect.collect.Goals as goal

pub returns-then-not-forms_decoder : goal.returns-then-not-forms_decoder
returns-then-not-forms_decoder c = let e = sym c.forms_decoder.ensures ∙ c.if-not-forms_decoder.true in let all = leaves (no_state _ _ e) c.because.ensures refl refl in record { result_value = all.0; m_after = all.1.0; out_after = all.1.1 }

pub returns-in-None : goal.returns-in-None
returns-in-None c =
    let forms : forms_decoder c.args.m.now ≡ true = sym c.forms_decoder.ensures ∙ c.if-not-forms_decoder.false in
    let stands = formed c.args.m.now forms (search rules) in
    let e = sym c.first_ready.ensures ∙ c.in-None.is in let all = leaves (none_ready _ _ stands e) c.done.ensures refl refl in record { result_value = all.0; m_after = all.1.0; out_after = all.1.1 }
