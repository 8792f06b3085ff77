use mathlib.Core.Path.{refl, sym, ◌∙◌}
use native.Mathlib.Omega.{arith}
use Rattle.std.proofs.lemmas.Result.{err_from_is_err_and}
use Rattle.blocks.proofs.Bounds.{representation-good}
use Rattle.decoder_survey.proofs.Surveying.{waiting-turn, waiting-refused, waiting-ends}
use Rattle.decoder_survey.proofs.measure.survey_waiting.Goals as goal

pub loop-at-init : goal.loop-at-init
loop-at-init c = refl

pub returns-in_err-at : goal.returns-in_err-at
returns-in_err-at c =
    let p = err_from_is_err_and c.from_residual.result c.from_residual.ensures.1 in
    rw (p.1, p.2)
    (sym (c.loop-at.invariant ∙ waiting-refused _ _ _ c.loop-at-test.true _ (sym c.read_representation.ensures ∙ c.in_err-at.was)))

pub loop-at-smaller : goal.loop-at-smaller
loop-at-smaller c =
    let g = representation-good _ _ _ _ (sym c.read_representation.ensures ∙ c.in_ok-at.was) in omega (arith, g.past, g.inside)

pub loop-at-preserved : goal.loop-at-preserved
loop-at-preserved c = c.loop-at.invariant ∙ waiting-turn _ _ _ c.loop-at-test.true _ _ (sym c.read_representation.ensures ∙ c.in_ok-at.was)

pub returns : goal.returns
returns c =
    let a = c.args in
    sym (c.loop-at.invariant ∙ waiting-ends a.s.now c.loop-at.at a.index c.loop-at-test.false)
