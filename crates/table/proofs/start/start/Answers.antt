use Rattle.table.proofs.Fresh.{fresh-stored}
use Rattle.table.proofs.start.start.Goals as goal

pub returns : goal.returns
returns c =
    let a = c.args in
    fresh-stored a.m.now _ _ _ _ a.role a.limit c.put_head.ensures c.set_all.ensures c.set_all-2.ensures
    c.put_no_rows.ensures
