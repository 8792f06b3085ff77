use mathlib.Core.Path.{refl}
use Rattle.table.proofs.Steps.{entry_in_lem}
use Rattle.table_insert.proofs.insert.insert.Goals as goal

pub returns : goal.returns
returns c =
    let a = c.args in
    entry_in_lem a.m.now _ _ _ a.name.now a.value.now a.place a.index.value c.open-at.result c.copy-next.result _ _ refl refl
    c.open-at.ensures.value c.open-at.ensures.m_after c.copy-next.ensures.out_after c.copy-next.ensures.value c.copy.ensures.out_after
