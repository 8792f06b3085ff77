use mathlib.Core.Path.{sym, ap, subst, ◌∙◌}
use native.Mathlib.Omega.{arith}
use Rattle.std.proofs.lemmas.Result.{err_from_is_err_and}
use Rattle.std.specs.Prelude.{Ok}
use Rattle.decoder_survey.specs.Passes.{rest_at, ToldSurvey}
use Rattle.decoder_survey.specs.declared.measure.Survey.{Survey}
use Rattle.decoder_survey.proofs.Surveying.{step-found, step-refused, waiting-told, survey-long, surveying-starts, surveying-turn, surveying-waits, surveying-refused, surveying-ends}
use Rattle.decoder_survey.proofs.measure.survey_block.Goals as goal

pub returns-then-s-gt-BLOCK_LIMIT : goal.returns-then-s-gt-BLOCK_LIMIT
returns-then-s-gt-BLOCK_LIMIT c = record { value = survey-long _ _ c.if-s-gt-BLOCK_LIMIT.true; told_survey = λ e. omega arith }

pub loop-at-init : goal.loop-at-init
loop-at-init c = surveying-starts _ _ c.if-s-gt-BLOCK_LIMIT.false

pub next_step-requires : goal.next_step-requires
next_step-requires c = (c.requires, c.loop-at-test.true)

pub returns-in_err-found : goal.returns-in_err-found
returns-in_err-found c =
    let p = err_from_is_err_and c.from_residual.result c.from_residual.ensures.1 in
    let e = step-refused _ _ _ _ (sym c.next_step.ensures ∙ c.in_err-found.was) in
    rw (p.1, p.2) (record { value = surveying-refused _ _ _ _ c.loop-at.invariant c.loop-at-test.true _ e; told_survey = λ e. omega arith })

pub overflow_add-bytes : goal.overflow_add-bytes
overflow_add-bytes c =
    let T = (surveying-turn _ _ _ _ c.loop-at.invariant c.loop-at-test.true c.requires _ _ (step-found _ _ _ _ _ (sym c.next_step.ensures ∙ c.in_ok-found.was ∙ ap (λ (n : Survey). Ok (n, c.in_ok-found.next)) c.in-Bytes.is))).1 in
    omega (arith, T.few, T.inside, T.short)

pub loop-at-smaller : goal.loop-at-smaller
loop-at-smaller c =
    let t = surveying-turn _ _ _ _ c.loop-at.invariant c.loop-at-test.true c.requires _ _ (step-found _ _ _ _ _ (sym c.next_step.ensures ∙ c.in_ok-found.was ∙ ap (λ (n : Survey). Ok (n, c.in_ok-found.next)) c.in-Bytes.is)) in
    omega (arith, t.0, t.1.inside)

pub loop-at-preserved : goal.loop-at-preserved
loop-at-preserved c = (surveying-turn _ _ _ _ c.loop-at.invariant c.loop-at-test.true c.requires _ _ (step-found _ _ _ _ _ (sym c.next_step.ensures ∙ c.in_ok-found.was ∙ ap (λ (n : Survey). Ok (n, c.in_ok-found.next)) c.in-Bytes.is))).1

pub returns-in-Waits : goal.returns-in-Waits
returns-in-Waits c =
    let M = step-found _ _ _ _ _ (sym c.next_step.ensures ∙ c.in_ok-found.was ∙ ap (λ (n : Survey). Ok (n, c.in_ok-found.next)) c.in-Waits.is) in
    let e = c.survey_waiting.ensures in record {
      value = e ∙ surveying-waits _ _ _ _ c.loop-at.invariant c.loop-at-test.true _ _ M;
      told_survey = subst ToldSurvey (sym e) (waiting-told c.in-Waits.index (rest_at c.args.s.now c.in_ok-found.next));
    }

pub returns : goal.returns
returns c = let z = surveying-ends _ _ _ _ c.loop-at.invariant c.loop-at-test.false in record { value = z.0; told_survey = λ e. z.1 }
