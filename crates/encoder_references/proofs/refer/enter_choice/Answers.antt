use mathlib.Core.Path.{sym, ap, ◌∙◌}
use Rattle.parts.specs.Turn.{part_in}
use Rattle.encoder_fields.specs.Refer.{entered_choice}
use Rattle.encoder_references.proofs.refer.enter_choice.Goals as goal

pub returns-in-Indexed : goal.returns-in-Indexed
returns-in-Indexed c =
    let a = c.args in
    c.enter.ensures ∙ ap (entered_choice a.m.now a.stream.value (part_in a.part)) (sym c.in-Indexed.is)

pub returns-in-Named : goal.returns-in-Named
returns-in-Named c =
    let a = c.args in
    c.enter-in-Named.ensures ∙ ap (entered_choice a.m.now a.stream.value (part_in a.part)) (sym c.in-Named.is)

pub returns-in-Literal : goal.returns-in-Literal
returns-in-Literal c =
    let a = c.args in
    ap (entered_choice a.m.now a.stream.value (part_in a.part)) (sym c.in-Literal.is)
