use borrow.Author.Rules.{rules}
use mathlib.Core.Path.{◌≡◌, refl, sym, ◌∙◌}
use mathlib.Core.Bool.{true}
use Rattle.state.specs.DecoderState.{decoder_of}
use Rattle.state.specs.Forms.{forms_decoder}
use Rattle.parts.proofs.Given.{none-given}
use Rattle.decoder_survey.specs.Measure.{Stands}
use Rattle.decoder_survey.proofs.Entries.{changes}
use Rattle.decoder_block.proofs.Calls.{turned, leaves, no_state, out_of_turn}
use Rattle.decoder_block.proofs.block.block.Goals as goal

pub returns-then-not-forms_decoder : goal.returns-then-not-forms_decoder
returns-then-not-forms_decoder c = let e = sym c.forms_decoder.ensures ∙ c.if-not-forms_decoder.true in let all = leaves (no_state _ _ _ _ _ e) c.because.ensures refl refl in record { result_value = all.0; m_after = all.1.0; out_after = all.1.1 }

pub turn_of-turn-requires : goal.turn_of-turn-requires
turn_of-turn-requires c =
    let forms : forms_decoder c.args.m.now ≡ true = sym c.forms_decoder.ensures ∙ c.if-not-forms_decoder.false in
    let stands : Stands c.args.m.now = record { small = search rules; forms = forms; state = refl } in
    (changes _ stands).ordered.long

pub returns-in_default : goal.returns-in_default
unfolding decoder_of
returns-in_default c =
    let forms : forms_decoder c.args.m.now ≡ true = sym c.forms_decoder.ensures ∙ c.if-not-forms_decoder.false in
    let e = none-given _ _ _ (sym c.turn_of-turn.ensures ∙ c.in_default.is) in let all = leaves (out_of_turn _ _ _ _ _ forms e) c.because-in_default.ensures refl refl in record { result_value = all.0; m_after = all.1.0; out_after = all.1.1 }

pub give-requires : goal.give-requires
unfolding decoder_of
give-requires c =
    let forms : forms_decoder c.args.m.now ≡ true = sym c.forms_decoder.ensures ∙ c.if-not-forms_decoder.false in
    let stands : Stands c.args.m.now = record { small = search rules; forms = forms; state = refl } in (
      stands,
      turned _ _ _ _ _ (sym c.turn_of-turn.ensures ∙ c.in-Some.is),
    )
