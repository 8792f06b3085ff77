use mathlib.Core.Path.{ap, ◌∙◌}
use Rattle.std.proofs.lemmas.Result.{err_from_is_err_and}
use Rattle.fields.specs.Reading.{text_of}
use Rattle.reports.specs.Report.{number_text}
use Rattle.reports.proofs.Telling.{values, kept-err, kept-ok}
use Rattle.reports.proofs.report.number_said.Goals as goal

pub returns-in_err-place : goal.returns-in_err-place
returns-in_err-place c =
    let a = c.args in
    let e = err_from_is_err_and c.from_residual.result c.from_residual.ensures.1 in
    rw (e.1, e.2) (kept-err (values a.name.now a.list.now) number_text _ c.in_err-place.ensures.result_value)

pub returns : goal.returns
returns c =
    let a = c.args in
    let v = text_of a.list.now c.in_ok-place.place in
    c.small_number.ensures ∙ (ap number_text c.text_at.ensures ∙ kept-ok (values a.name.now a.list.now) number_text v c.in_ok-place.ensures.result_value)
