use mathlib.Core.Path.{◌≡◌, sym, ap, ◌∙◌}
use mathlib.Core.Bool.{true}
use native.Mathlib.Omega.{arith}
use Rattle.memory.specs.Bytes.{Small}
use Rattle.fields.specs.Reading.{read_field_list}
use Rattle.model.specs.Parts.{Marks, part_of}
use Rattle.state.specs.EncoderState.{encoder_of}
use Rattle.state.specs.Forms.{forms_encoder}
use Rattle.state_laws.proofs.EncoderForms.{forms-holds-encoder}
use Rattle.parts.specs.Turn.{turn_of}
use Rattle.parts.proofs.Given.{Given, given, none-given}
use Rattle.encoder_block.proofs.Giving.{tells-refused, written-marks, list-refused, list-read, done-answer, not-formed, not-in-turn, not-a-list, named-turn, same-call}
use Rattle.encoder_block.proofs.block.block.Goals as goal

pub returns-then-not-forms_encoder : goal.returns-then-not-forms_encoder
returns-then-not-forms_encoder c =
    let a = c.args in
    let e = sym c.forms_encoder.ensures ∙ c.if-not-forms_encoder.true in
    let all = tells-refused _ _ _ 17 (not-formed a.m.now a.stream a.part a.s.now a.out.now e) _ c.because.ensures in
    record { result_value = all.0; m_after = all.1.0; out_after = all.1.1 }

pub turn_of-turn-requires : goal.turn_of-turn-requires
turn_of-turn-requires c =
    let a = c.args in
    let formed : forms_encoder a.m.now ≡ true = sym c.forms_encoder.ensures ∙ c.if-not-forms_encoder.false in
    let small : Small a.m.now = λ k. grind arith in
    omega (arith, (forms-holds-encoder _ small formed).long)

pub returns-in_default : goal.returns-in_default
returns-in_default c =
    let a = c.args in
    let formed : forms_encoder a.m.now ≡ true = sym c.forms_encoder.ensures ∙ c.if-not-forms_encoder.false in
    let turned : turn_of (encoder_of a.m.now).written a.stream (part_of a.part) ≡ c.turn_of-turn.result =
    sym (c.turn_of-turn.ensures ∙ ap (λ (marks : Marks). turn_of marks a.stream (part_of a.part)) (written-marks a.m.now)) in
    let e = none-given _ _ _ (turned ∙ c.in_default.is) in
    let all = tells-refused _ _ _ 11 (not-in-turn a.m.now a.stream a.part a.s.now a.out.now formed e) _ c.because-in_default.ensures in
    record { result_value = all.0; m_after = all.1.0; out_after = all.1.1 }

pub returns-in-Err : goal.returns-in-Err
returns-in-Err c =
    let a = c.args in
    let formed : forms_encoder a.m.now ≡ true = sym c.forms_encoder.ensures ∙ c.if-not-forms_encoder.false in
    let turned : turn_of (encoder_of a.m.now).written a.stream (part_of a.part) ≡ c.turn_of-turn.result =
    sym (c.turn_of-turn.ensures ∙ ap (λ (marks : Marks). turn_of marks a.stream (part_of a.part)) (written-marks a.m.now)) in
    let named : Given (encoder_of a.m.now).written a.stream a.part c.in-Some.number c.in-Some.kind = given _ _ _ _ _ (turned ∙ c.in-Some.is) in
    let e = list-refused (read_field_list a.s.now) _ (sym c.in-Err.is ∙ c.check_list.ensures.checked) in
    let all =
    tells-refused _ _ _ _ (not-a-list a.m.now a.stream a.part a.s.now a.out.now formed (named-turn named) _ e) _
    c.because-in-Err.ensures in
    record { result_value = all.0; m_after = all.1.0; out_after = all.1.1 }

pub give-requires : goal.give-requires
give-requires c =
    let a = c.args in
    let formed : forms_encoder a.m.now ≡ true = sym c.forms_encoder.ensures ∙ c.if-not-forms_encoder.false in
    let turned : turn_of (encoder_of a.m.now).written a.stream (part_of a.part) ≡ c.turn_of-turn.result =
    sym (c.turn_of-turn.ensures ∙ ap (λ (marks : Marks). turn_of marks a.stream (part_of a.part)) (written-marks a.m.now)) in
    let named : Given (encoder_of a.m.now).written a.stream a.part c.in-Some.number c.in-Some.kind = given _ _ _ _ _ (turned ∙ c.in-Some.is) in
    record { m_value = (formed, named.turn); reads_well = list-read a.s.now _ (c.check_list.ensures.checked) (done-answer _ c.in_default-check_list.not-Err) }

pub returns : goal.returns
returns c =
    let a = c.args in
    let turned : turn_of (encoder_of a.m.now).written a.stream (part_of a.part) ≡ c.turn_of-turn.result =
    sym (c.turn_of-turn.ensures ∙ ap (λ (marks : Marks). turn_of marks a.stream (part_of a.part)) (written-marks a.m.now)) in
    let named : Given (encoder_of a.m.now).written a.stream a.part c.in-Some.number c.in-Some.kind = given _ _ _ _ _ (turned ∙ c.in-Some.is) in
    let e = c.give.ensures in
    let all =
    same-call a.m.now a.stream _ a.part _ a.s.now a.out.now named.stream named.number _ _ _ (e.result_value, (e.m_after, e.out_after)) in
    record { result_value = all.0; m_after = all.1.0; out_after = all.1.1 }
