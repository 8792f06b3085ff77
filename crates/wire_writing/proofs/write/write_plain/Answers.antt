use mathlib.Core.Path.{◌≡◌}
use native.Mathlib.Omega.{arith}
use lib.ListN.{length}
use Rattle.wire_writing.proofs.TextRoom.{plain-length, plain-stored}
use Rattle.wire_writing.proofs.write.write_plain.Goals as goal

pub write-next-requires-clause-value_in_bounds : goal.write-next-requires-clause-value_in_bounds
write-next-requires-clause-value_in_bounds c =
    let a = c.args in
    let e : c.new-n.result.value ≡ length a.src.now = c.new-n.ensures in
    rw e (omega (arith, plain-length a.src.now))

pub copy-requires : goal.copy-requires
copy-requires c =
    let a = c.args in
    let e : c.new-n.result.value ≡ length a.src.now = c.new-n.ensures in
    omega (arith, (rw e at c.write-next.ensures.value), plain-length a.src.now)

pub returns : goal.returns
returns c =
    let a = c.args in
    let w = c.write-next.ensures in
    let t = c.copy.ensures in
    let all = plain-stored a.src.now c.new-n.result.value c.new-n.ensures a.out.now a.at _ _ _ _ w.value w.out_after t.value t.out_after in
    record { value = all.0; out_after = all.1 }
