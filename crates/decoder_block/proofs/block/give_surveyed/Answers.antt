use Prim.Native.Nat.{ℕ}
use native.Mathlib.Omega.{arith}
use borrow.Author.Rules.{rules}
use mathlib.Core.Path.{◌≡◌, refl, sym, ap, subst, ◌∙◌}
use lib.ListN.{length}
use Rattle.std.specs.Prelude.{Result, Ok}
use Rattle.integers.specs.Answers.{done}
use Rattle.integers.specs.declared.answer.Refusal.{Refusal}
use Rattle.blocks.specs.Meaning.{BlockMeaning}
use Rattle.state.specs.DecoderState.{decoder_of}
use Rattle.decoder_survey.specs.Measure.{IsList, list_bytes}
use Rattle.decoder_survey.specs.Passes.{survey_answer}
use Rattle.decoder_survey.specs.declared.measure.Survey.{Survey}
use Rattle.decoder_survey.specs.declared.measure.Survey.TheVariants.{Bytes}
use Rattle.decoder_survey.proofs.Entries.{changes}
use Rattle.decoder_survey.proofs.Surveying.{Gives, survey-is}
use Rattle.decoder_block.proofs.Calls.{InTurn, in-turn, leaves, no_room, gives, unwritten}
use Rattle.decoder_block.proofs.block.give_surveyed.Goals as goal
use Rattle.decoder_block.proofs.block.give_surveyed.Goals.{in_default-via-in-Ok+in_default, in_default-via-in_default}

pub returns-in_default : goal.returns-in_default
returns-in_default c =
    let none : (n : ℕ) → c.survey_block-survey.result ≡ Ok (Bytes n) → ⊥ =
    λ n e. elim c.in_default.branch [ in_default-via-in-Ok+in_default w ↦ search rules | in_default-via-in_default w ↦ (cc) ] in
    let all = leaves (unwritten _ _ _ _ _ c.requires.0 c.requires.1 _ none c.survey_block-survey.ensures.value) c.replied.ensures refl refl in
    record { result_value = all.0; m_after = all.1.0; out_after = all.1.1 }

-- what was surveyed
measured : {v s : Result Survey Refusal} {x : Survey} {n : ℕ} → v ≡ Ok x → x ≡ Bytes n → v ≡ s → Ok (Bytes n) ≡ s
measured e f g = cc

pub returns-then-out-n : goal.returns-then-out-n
returns-then-out-n c =
    let turn : let a = c.args in InTurn (decoder_of a.m.now).finished a.stream a.part = in-turn _ _ _ c.requires.1 in
    let b = c.in-Ok-Bytes in
    let f : Gives c.args.m.now c.args.s.now b.n = survey-is _ _ (Ok (Bytes b.n)) (measured b.is (rw b.is at b.field-0-is) c.survey_block-survey.ensures.value) in
    let all = leaves (no_room _ _ _ _ _ c.requires.0 turn f.reads f.fields f.means (omega (arith, f.long, c.if-out-n.true))) c.because.ensures refl refl in
    record { result_value = all.0; m_after = all.1.0; out_after = all.1.1 }

pub write_fields-requires : goal.write_fields-requires
write_fields-requires c =
    let b = c.in-Ok-Bytes in
    let f : Gives c.args.m.now c.args.s.now b.n = survey-is _ _ (Ok (Bytes b.n)) (measured b.is (rw b.is at b.field-0-is) c.survey_block-survey.ensures.value) in
    let n = ap (λ (M : BlockMeaning). length (list_bytes M)) f.means in
    record { stands = c.requires.0; reads_well = f.reads; list = subst IsList (sym f.means) tt; s_in_bounds = omega (arith, f.long, n, c.if-out-n.false) }

pub finish-requires : goal.finish-requires
finish-requires c =
    let t : let a = c.args in InTurn (decoder_of a.m.now).finished a.stream a.part = in-turn _ _ _ c.requires.1 in
    (t.low, t.few, omega (arith, (changes _ c.requires.0).ordered.long))

pub returns : goal.returns
returns c =
    let turn : let a = c.args in InTurn (decoder_of a.m.now).finished a.stream a.part = in-turn _ _ _ c.requires.1 in
    let b = c.in-Ok-Bytes in
    let told = measured b.is (rw b.is at b.field-0-is) c.survey_block-survey.ensures.value in
    let f : Gives c.args.m.now c.args.s.now b.n = survey-is _ _ (Ok (Bytes b.n)) told in
    let all = leaves (gives _ _ _ _ _ c.requires.0 turn f.reads f.fields f.means (omega (arith, f.long, c.if-out-n.false)))
    (c.replied-2.ensures ∙ ap survey_answer (b.is ∙ ap (λ (v : Survey). Ok v) (rw b.is at b.field-0-is)) ∙ ap (λ (n : ℕ). done n 0) (sym f.long))
    c.finish.ensures
    (rw f.means at c.write_fields.ensures) in record { result_value = all.0; m_after = all.1.0; out_after = all.1.1 }
