use native.Mathlib.Omega.{arith}
use mathlib.Core.Path.{refl}
use lib.ListN.{length-set}
use Rattle.memory.proofs.Covering.{three-bytes}
use Rattle.copying.proofs.copy.copy_few.Goals as goal

pub bounds-out-at-2 : goal.bounds-out-at-2
bounds-out-at-2 c = simp length-set (omega arith)

pub bounds-out-at-3 : goal.bounds-out-at-3
bounds-out-at-3 c = simp length-set (omega arith)

pub returns : goal.returns
returns c =
    let a = c.args in
    let p = c.requires in
    three-bytes a.out.now a.src.now a.at _ _ p.0 p.1 refl refl
