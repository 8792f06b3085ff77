use mathlib.Core.Path.{sym, ap, ◌∙◌}
use Prim.Native.Nat.{ℕ}
use Rattle.std.specs.Prelude.{Ok, Err}
use Rattle.std.proofs.lemmas.Result.{err_from_is_err_and}
use Rattle.integers.specs.Answers.{Read, on_read}
use Rattle.blocks.specs.declared.read.RepresentationPlace.{RepresentationPlace}
use Rattle.blocks.proofs.Bounds.{representation-good}
use Rattle.decoder_survey.specs.declared.measure.Survey.{Survey}
use Rattle.decoder_survey.specs.Measure.{field_at, field_measured}
use Rattle.decoder_survey.proofs.measure.read_step.Goals as goal

pub returns-in_err-place : goal.returns-in_err-place
returns-in_err-place c =
    let step_by : Read RepresentationPlace → Read Survey = λ r. on_read Err r (λ (p : RepresentationPlace) (next : ℕ). Ok (field_measured (field_at c.args.m.now c.args.s.now p), next)) in
    let p = err_from_is_err_and c.from_residual.result c.from_residual.ensures.1 in
    rw (p.1, p.2) (sym (ap step_by (sym c.read_representation.ensures ∙ c.in_err-place.was)))

pub field_measured-requires : goal.field_measured-requires
field_measured-requires c = record { stands = c.requires; in_bytes = (representation-good _ _ _ _ (sym c.read_representation.ensures ∙ c.in_ok-place.was)).places }

pub returns : goal.returns
returns c =
    let step_by : Read RepresentationPlace → Read Survey = λ r. on_read Err r (λ (p : RepresentationPlace) (next : ℕ). Ok (field_measured (field_at c.args.m.now c.args.s.now p), next)) in
    ap (λ (n : Survey). Ok (n, c.in_ok-place.next)) c.field_measured.ensures ∙ sym (ap step_by (sym c.read_representation.ensures ∙ c.in_ok-place.was))
