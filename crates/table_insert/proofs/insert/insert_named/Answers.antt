use mathlib.Core.Path.{refl, sym, ◌∙◌}
use Rattle.wire.specs.Text.{string_bytes}
use Rattle.wire.proofs.TextBounds.{string-size}
use Rattle.table.proofs.Steps.{entry_in_lem}
use Rattle.table_insert.proofs.insert.insert_named.Goals as goal

pub returns : goal.returns
returns c =
    let a = c.args in
    entry_in_lem a.m.now _ _ _ a.name.now (string_bytes a.s.now a.value) a.place a.index.value c.open-at.result c.copy-next.result
    _ _ refl (c.length.ensures ∙ sym (string-size a.s.now a.value c.requires.in_string))
    c.open-at.ensures.value c.open-at.ensures.m_after c.copy-next.ensures.out_after c.copy-next.ensures.value c.copy.ensures.out_after
