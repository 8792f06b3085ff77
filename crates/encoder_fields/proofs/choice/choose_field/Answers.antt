use mathlib.Core.Path.{refl, ap, ◌∙◌}
use native.Mathlib.Omega.{arith}
use Rattle.encoder_fields.specs.Measure.{chosen, as_field}
use Rattle.encoder_fields.proofs.Choosing.{choose-literal, same-field}
use Rattle.encoder_fields.proofs.choice.choose_field.Goals as goal

pub returns-then-f-eq1 : goal.returns-then-f-eq1
returns-then-f-eq1 c =
    let f = as_field c.args.f in
    ap (chosen f) c.literal.ensures ∙ choose-literal _ f c.if-f-eq1.true c.choose_name.result c.choose_name.ensures

pub returns : goal.returns
returns c = same-field _ c.choose_stored.result (omega (arith, c.args.f.bit, c.if-f-eq1.false)) refl refl c.choose_stored.ensures
