use Rattle.std.proofs.Common.{rules, ◌-◌, refl, sym, ◌≡◌, ◌∙◌, arith}
use Rattle.stream_lists.proofs.ListLaws.{deltas-end, deltas-refused, deltas-more}
use Rattle.stream_lists.proofs.ListBounds.{delta-good}
use Rattle.stream_lists.proofs.stream_list.read_deltas.Goals as goal
use Rattle.std.specs.Prelude.{Err}

pub loop-init : goal.loop-init
loop-init c = (c.args.count, omega arith, refl, c.requires)

pub returns-in_err-stream : goal.returns-in_err-stream
returns-in_err-stream c =
    let l = c.loop in
    let e : ◌≡◌ c.from_residual.result (Err c.in_err-stream.field-0.0) = search rules in
    e ∙ sym (l.invariant.2 ∙ deltas-refused _ _ _ _ c.read_delta.ensures l.invariant.0 (omega arith) _ c.in_err-stream.was)

pub loop-preserved : goal.loop-preserved
loop-preserved c =
    let l = c.loop in
    let d = delta-good _ _ _ _ _ (sym c.read_delta.ensures ∙ c.in_ok-stream.was) in (
      l.invariant.0 - 1,
      omega arith,
      l.invariant.2 ∙ deltas-more _ _ _ _ c.read_delta.ensures _ _ c.in_ok-stream.was l.invariant.0 (omega arith),
      omega arith,
    )

pub returns : goal.returns
returns c = let l = c.loop in sym (l.invariant.2 ∙ deltas-end _ _ _ l.invariant.0 (omega arith))
