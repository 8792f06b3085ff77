use native.Mathlib.Omega.{arith}
use Rattle.deletes.proofs.Closing.{rows-kept, drop-closed}
use Rattle.deletes.proofs.kept.drop_delete.Goals as goal

pub renumber-requires : goal.renumber-requires
renumber-requires c =
    let a = c.args in
    let rows = rows-kept a.m.now a.k _ _ _ c.delete_count-n.ensures c.delete_place.ensures c.delete_place-2.ensures _ _
    c.move_down.ensures c.put_delete_count.ensures in
    (omega (arith, rows), omega arith)

pub returns : goal.returns
returns c =
    let a = c.args in
    drop-closed a.m.now a.k _ _ _ c.delete_count-n.ensures c.delete_place.ensures c.delete_place-2.ensures _ _
    c.move_down.ensures c.put_delete_count.ensures _ c.renumber.ensures
