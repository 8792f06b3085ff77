use Rattle.std.specs.Prelude.{Ok}
use Rattle.reports.proofs.Telling.{values, told-nothing, told-often, told-once}
use Rattle.reports.proofs.report.only.Goals as goal

pub returns-in-Nothing-clause-result_value : goal.returns-in-Nothing-clause-result_value
returns-in-Nothing-clause-result_value c =
    let s = c.args.list.now in
    told-nothing s (values c.args.name.now s) c.look_up-said.result c.look_up-said.ensures.result_value Ok c.in-Nothing.is

pub returns-in-More-clause-result_value : goal.returns-in-More-clause-result_value
returns-in-More-clause-result_value c =
    let s = c.args.list.now in
    told-often s (values c.args.name.now s) c.look_up-said.result c.look_up-said.ensures.result_value Ok c.in-More.is

pub returns-in-Once-clause-result_value : goal.returns-in-Once-clause-result_value
returns-in-Once-clause-result_value c =
    let s = c.args.list.now in
    told-once s (values c.args.name.now s) c.look_up-said.result c.look_up-said.ensures.result_value Ok c.in-Once.place c.in-Once.is
