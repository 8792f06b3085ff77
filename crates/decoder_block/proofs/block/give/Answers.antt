use Prim.Native.Nat.{ℕ}
use native.Mathlib.Omega.{arith}
use mathlib.Core.Path.{refl, sym, ap, subst, ◌∙◌}
use Rattle.std.specs.Prelude.{Result, Some, Ok}
use Rattle.integers.specs.Answers.{done, refusal, number_of}
use Rattle.integers.specs.declared.answer.Refusal.{Refusal}
use Rattle.state.specs.DecoderState.{decoder_of}
use Rattle.decoder_survey.specs.declared.measure.Survey.TheVariants.{Bytes}
use Rattle.decoder_survey.proofs.Entries.{changes}
use Rattle.decoder_survey.proofs.Surveying.{survey-is}
use Rattle.decoder_short.specs.Pass.{BlockGiven}
use Rattle.decoder_block.proofs.Calls.{InTurn, in-turn, leaves, no_room, gives}
use Rattle.decoder_block.proofs.block.give.Goals as goal

pub finish-requires : goal.finish-requires
finish-requires c =
    let turn : let a = c.args in InTurn (decoder_of a.m.now).finished a.stream a.part = in-turn _ _ _ c.requires.1 in
    let t = turn in (t.low, t.few, omega (arith, (changes _ c.requires.0).ordered.long))

pub overflow_cast-n : goal.overflow_cast-n
overflow_cast-n c =
    let written : let a = c.args in BlockGiven a.m.now a.s.now a.out.now c.give_short.new.out (Some (Ok c.in-Ok.n)) = let a = c.args in
    let g = c.give_short in
    subst (BlockGiven a.m.now a.s.now a.out.now g.new.out) (c.in-Some.is ∙ ap (λ (r : Result ℕ Refusal). Some r) c.in-Ok.is) g.ensures in
    omega (arith, written.2)

pub returns-in-Ok : goal.returns-in-Ok
returns-in-Ok c =
    let turn : let a = c.args in InTurn (decoder_of a.m.now).finished a.stream a.part = in-turn _ _ _ c.requires.1 in
    let written : let a = c.args in BlockGiven a.m.now a.s.now a.out.now c.give_short.new.out (Some (Ok c.in-Ok.n)) = let a = c.args in
    let g = c.give_short in
    subst (BlockGiven a.m.now a.s.now a.out.now g.new.out) (c.in-Some.is ∙ ap (λ (r : Result ℕ Refusal). Some r) c.in-Ok.is) g.ensures in
    let w = written in
    let start = c in
    let f = survey-is _ _ (Ok (Bytes c.in-Ok.n)) (sym w.0) in let all = leaves (gives _ _ _ _ _ start.requires.0 turn f.reads f.fields f.means (omega (arith, f.long, w.1)))
    (c.done.ensures ∙ ap (λ (n : ℕ). done n 0) (sym f.long))
    c.finish.ensures
    (rw f.means at w.3) in record { result_value = all.0; m_after = all.1.0; out_after = all.1.1 }

pub returns-in-Err : goal.returns-in-Err
returns-in-Err c =
    let turn : let a = c.args in InTurn (decoder_of a.m.now).finished a.stream a.part = in-turn _ _ _ c.requires.1 in
    let start = c in
    let a = start.args in
    let g = c.give_short in
    let w = subst (BlockGiven a.m.now a.s.now a.out.now g.new.out) (c.in-Some.is ∙ ap (λ (r : Result ℕ Refusal). Some r) c.in-Err.is) g.ensures in
    let f = survey-is _ _ (Ok (Bytes w.1.0)) (sym w.1.1) in let all = leaves (no_room _ _ _ _ _ start.requires.0 turn f.reads f.fields f.means (omega (arith, f.long, w.1.2)))
    (c.because.ensures ∙ ap (λ (why : Refusal). refusal (number_of why)) w.0) refl w.2 in record { result_value = all.0; m_after = all.1.0; out_after = all.1.1 }

pub returns-in_default : goal.returns-in_default
returns-in_default c =
    let a = c.args in
    let g = c.give_short in
    let w = subst (BlockGiven a.m.now a.s.now a.out.now g.new.out) c.in_default.is g.ensures in record { result_value = rw w at c.give_surveyed.ensures.result_value; m_after = rw w at c.give_surveyed.ensures.m_after; out_after = rw w at c.give_surveyed.ensures.out_after }
