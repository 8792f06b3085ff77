use mathlib.Core.Path.{sym, ◌∙◌}
use Rattle.wire.specs.Text.{string_bytes}
use Rattle.wire.proofs.TextBounds.{string-size}
use Rattle.table.proofs.Steps.{entry_in_lem}
use Rattle.table_insert.proofs.insert.insert_strings.Goals as goal

pub returns : goal.returns
returns c =
    let a = c.args in
    let s = a.s.now in
    entry_in_lem a.m.now _ _ _ (string_bytes s a.name) (string_bytes s a.value) a.place a.index.value c.open-at.result c.copy-next.result
    c.length.result c.length-2.result (c.length.ensures ∙ sym (string-size s a.name c.requires.in_string.0))
    (c.length-2.ensures ∙ sym (string-size s a.value c.requires.in_string.1))
    c.open-at.ensures.value c.open-at.ensures.m_after c.copy-next.ensures.out_after (rw (← c.length.ensures) at c.copy-next.ensures.value)
    c.copy.ensures.out_after
