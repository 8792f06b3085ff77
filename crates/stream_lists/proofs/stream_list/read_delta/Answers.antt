use Rattle.std.proofs.Common.{sym, ap, ◌∙◌, arith}
use Rattle.integers.specs.declared.number.StreamNumber.{StreamNumber}
use Rattle.integers.proofs.Bounds.{int-good}
use Rattle.stream_lists.proofs.ListLaws.{delta-refused, delta-zero, delta-over, delta-stream}
use Rattle.stream_lists.proofs.stream_list.read_delta.Goals as goal
use Rattle.std.specs.Prelude.{Ok}

pub returns-in_default : goal.returns-in_default
returns-in_default c =
    sym (delta-refused _ _ _ _ c.read-r.ensures _ c.unwrap_err.ensures)

pub returns-then-delta-eq0 : goal.returns-then-delta-eq0
returns-then-delta-eq0 c = sym (delta-zero _ _ _ _ c.read-r.ensures _ _ c.in-Ok.is (omega arith))

pub overflow_add-stream : goal.overflow_add-stream
overflow_add-stream c = omega (arith, int-good 8 _ _ (omega arith) _ c.read-r.ensures _ _ c.in-Ok.is)

pub returns-then-stream : goal.returns-then-stream
returns-then-stream c = sym (delta-over _ _ _ _ c.read-r.ensures _ _ c.in-Ok.is (omega arith) c.if-stream.true)

pub returns : goal.returns
returns c =
    ap (λ (stream : StreamNumber). Ok (stream, c.in-Ok.next)) c.new.ensures
    ∙ sym (delta-stream _ _ _ _ c.read-r.ensures _ _ c.in-Ok.is (omega arith) c.if-stream.false)
