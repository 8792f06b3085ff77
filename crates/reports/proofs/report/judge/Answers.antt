use mathlib.Core.Path.{subst, sym, ap, ◌∙◌}
use Rattle.std.proofs.Common.{rules, ◌≡◌}
use Rattle.std.specs.Prelude.{Err}
use Rattle.reports.specs.declared.report.NoReport.TheVariants.{NoList}
use Rattle.fields.specs.Reading.{read_field_list}
use Rattle.std.specs.Result.{is_ok}
use Rattle.reports.specs.Report.{told, Within}
use Rattle.reports.proofs.Judging.{whole, not-judged, verdict, combine-within}
use Rattle.reports.proofs.report.judge.Goals as goal

pub returns-in_err-map_err-clause-result_value : goal.returns-in_err-map_err-clause-result_value
returns-in_err-map_err-clause-result_value c =
    let e : ◌≡◌ c.from_residual.result (Err NoList) = search rules in
    ap (told c.args.list.now) e ∙ not-judged (read_field_list c.args.list.now) _ c.check_list.ensures.checked (sym c.map_err.ensures.variant ∙ ap is_ok c.in_err-map_err.was)

pub returns : goal.returns
returns c =
    let s = c.args.list.now in
    let read = whole (read_field_list s) _ c.check_list.ensures.checked (sym c.map_err.ensures.variant ∙ ap is_ok c.in_ok-map_err.was) in
    let m = c.machine_said-machine.result in
    let h = c.number_said-hours.result in
    let t = c.number_said-turns.result in record {
      result_value = ap (told s) c.combined.ensures
          ∙ verdict (read_field_list s) read.0 read.1 s m h t c.machine_said-machine.ensures.result_value c.number_said-hours.ensures c.number_said-turns.ensures;
      within = subst (Within s) (sym c.combined.ensures) (combine-within s m h t c.machine_said-machine.ensures.machine_inside);
    }
