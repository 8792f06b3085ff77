use mathlib.Core.Path.{◌≡◌}
use native.Mathlib.Omega.{arith}
use Rattle.wire.proofs.TextWriting.{literal-length-wire, literal-written}
use Rattle.wire_writing.proofs.write.RefSliceU8NameToWrite.write_name.Goals as goal

pub write-next-requires-clause-value_in_bounds : goal.write-next-requires-clause-value_in_bounds
write-next-requires-clause-value_in_bounds c =
    let a = c.args in
    let e : c.new-zero.result.value ≡ 0 = c.new-zero.ensures in
    rw e (omega (arith, literal-length-wire a.width a.top a.self.now))

pub write_string-requires-clause-src_in_bounds : goal.write_string-requires-clause-src_in_bounds
write_string-requires-clause-src_in_bounds c =
    let a = c.args in
    let e : c.new-zero.result.value ≡ 0 = c.new-zero.ensures in
    omega (arith, (rw e at c.write-next.ensures.value), literal-length-wire a.width a.top a.self.now)

pub returns : goal.returns
returns c =
    let a = c.args in
    let w = c.write-next.ensures in
    let t = c.write_string.ensures in
    let all = literal-written a.width a.top a.self.now _ c.new-zero.ensures a.out.now a.at _ _ _ _ w.value w.out_after t.value t.out_after in
    record { value = all.0; out_after = all.1 }
