use mathlib.Core.Path.{◌∙◌}
use Rattle.std.proofs.lemmas.Result.{err_from_is_err_and}
use Rattle.fields.specs.Reading.{text_of}
use Rattle.reports.specs.Report.{machine_name, machine_text}
use Rattle.reports.proofs.Telling.{values, kept-err, kept-ok}
use Rattle.reports.proofs.Judging.{machine-fine, machine-fails}
use Rattle.reports.proofs.report.machine_said.Goals as goal

pub returns-in_err-place-clause-result_value : goal.returns-in_err-place-clause-result_value
returns-in_err-place-clause-result_value c =
    let e = err_from_is_err_and c.from_residual.result c.from_residual.ensures.1 in
    rw (e.1, e.2) (kept-err (values machine_name c.args.list.now) machine_text _ c.in_err-place.ensures.result_value)

pub returns-then-not-is_machine-clause-result_value : goal.returns-then-not-is_machine-clause-result_value
returns-then-not-is_machine-clause-result_value c =
    let s = c.args.list.now in
    let v = text_of s c.in_ok-place.place in
    machine-fails v _ c.text_at.ensures _ c.is_machine.ensures c.if-not-is_machine.true
    ∙ kept-ok (values machine_name s) machine_text v c.in_ok-place.ensures.result_value

pub returns-clause-result_value : goal.returns-clause-result_value
returns-clause-result_value c =
    let s = c.args.list.now in
    let v = text_of s c.in_ok-place.place in
    machine-fine v _ c.text_at.ensures _ c.is_machine.ensures c.if-not-is_machine.false
    ∙ kept-ok (values machine_name s) machine_text v c.in_ok-place.ensures.result_value
