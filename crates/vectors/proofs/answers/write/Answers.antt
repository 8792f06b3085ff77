use mathlib.Core.Path.{sym}
use native.Mathlib.Omega.{arith}
use lib.Seq.{length-take-le}
use Rattle.integers.proofs.Lengths.{int-length}
use Rattle.vectors.proofs.answers.write.Goals as goal

-- An integer takes at most five bytes.
pub write-end-requires-clause-value_in_bounds : goal.write-end-requires-clause-value_in_bounds
write-end-requires-clause-value_in_bounds c = omega (arith, int-length c.args.width c.args.top c.new-n.result.value)

pub slice_bounds-out-end : goal.slice_bounds-out-end
slice_bounds-out-end c = omega (arith, int-length c.args.width c.args.top c.new-n.result.value)

pub slice_bounds-bytes-end : goal.slice_bounds-bytes-end
slice_bounds-bytes-end c =
    sym (length-take-le c.write-end.result c.write-end.new.out (omega (arith, int-length c.args.width c.args.top c.new-n.result.value)))
