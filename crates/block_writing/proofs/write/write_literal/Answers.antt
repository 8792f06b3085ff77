use native.Mathlib.Omega.{arith}
use Rattle.blocks.proofs.Writing.{literal-length, literal-written}
use Rattle.block_writing.proofs.write.write_literal.Goals as goal

pub write_name-next-requires-clause-name_in_bounds : goal.write_name-next-requires-clause-name_in_bounds
write_name-next-requires-clause-name_in_bounds g c =
    let a = c.args in
    let l = literal-length a.flag (g.N.NameToWrite.says a.name) a.value.now in
    omega arith

pub write_string-requires-clause-src_in_bounds : goal.write_string-requires-clause-src_in_bounds
write_string-requires-clause-src_in_bounds g c =
    let a = c.args in
    let l = literal-length a.flag (g.N.NameToWrite.says a.name) a.value.now in
    omega arith

pub returns : goal.returns
returns g c =
    let a = c.args in
    let w = c.write_name-next.ensures in
    let v = c.write_string.ensures in
    let all = literal-written a.flag (g.N.NameToWrite.says a.name) a.value.now a.out.now a.at _ _ _ _ w.value w.out_after v.value v.out_after in
    record { value = all.0; out_after = all.1 }
