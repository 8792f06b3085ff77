use mathlib.Core.Path.{sym, ap, ◌∙◌}
use Rattle.std.proofs.Common.{rules, ◌≡◌}
use Rattle.std.specs.Prelude.{Err}
use Rattle.fields.specs.Reading.{read_field_list}
use Rattle.std.specs.Result.{is_ok}
use Rattle.reports.proofs.Judging.{whole, no-trailer, machine-there, hours-there, turns-there, none-there}
use Rattle.reports.proofs.report.judge_trailer.Goals as goal

pub returns-in_err-map_err : goal.returns-in_err-map_err
returns-in_err-map_err c =
    let e : ◌≡◌ c.from_residual.result (Err record {}) = search rules in
    e ∙ no-trailer (read_field_list c.args.list.now) _ c.check_list.ensures.checked (sym c.map_err.ensures.variant ∙ ap is_ok c.in_err-map_err.was)

pub returns-then-has : goal.returns-then-has
returns-then-has c =
    let s = c.args.list.now in
    let read = whole (read_field_list s) _ c.check_list.ensures.checked (sym c.map_err.ensures.variant ∙ ap is_ok c.in_ok-map_err.was) in
    machine-there (read_field_list s) read.0 read.1 _ c.has.ensures c.if-has.true

pub returns-then-has-2 : goal.returns-then-has-2
returns-then-has-2 c =
    let s = c.args.list.now in
    let read = whole (read_field_list s) _ c.check_list.ensures.checked (sym c.map_err.ensures.variant ∙ ap is_ok c.in_ok-map_err.was) in
    hours-there (read_field_list s) read.0 read.1 _ c.has.ensures c.if-has.false _ c.has-2.ensures c.if-has-2.true

pub returns-then-has-3 : goal.returns-then-has-3
returns-then-has-3 c =
    let s = c.args.list.now in
    let read = whole (read_field_list s) _ c.check_list.ensures.checked (sym c.map_err.ensures.variant ∙ ap is_ok c.in_ok-map_err.was) in
    turns-there (read_field_list s) read.0 read.1 _ c.has.ensures c.if-has.false _ c.has-2.ensures c.if-has-2.false _ c.has-3.ensures c.if-has-3.true

pub returns : goal.returns
returns c =
    let s = c.args.list.now in
    let read = whole (read_field_list s) _ c.check_list.ensures.checked (sym c.map_err.ensures.variant ∙ ap is_ok c.in_ok-map_err.was) in
    none-there (read_field_list s) read.0 read.1 _ c.has.ensures c.if-has.false _ c.has-2.ensures c.if-has-2.false _ c.has-3.ensures c.if-has-3.false
