use mathlib.Core.Path.{sym, ap, ap₂, ◌∙◌}
use native.Mathlib.Omega.{arith}
use lib.ListN.{length}
use Rattle.blocks.specs.Representation.{representation_wire}
use Rattle.wire.proofs.TextWriting.{size-within}
use Rattle.sizes.specs.Sizes.{literal_index_size, literal_text_size}
use Rattle.sizes.proofs.Lengths.{indexed-size, literal-index-size, literal-text-size}
use Rattle.encoder_fields.specs.Measure.{as_field, chosen}
use Rattle.encoder_fields.specs.declared.choice.Choice.{Choice}
use Rattle.encoder_fields.proofs.measure.choice_size.Goals as goal

pub literal_text_size-requires : goal.literal_text_size-requires
literal_text_size-requires c =
    (omega (arith, c.wire_size-in-Literal.ensures.0, size-within c.args.f.name.now, c.args.f.name_short), omega (arith, c.wire_size-in-Literal-2.ensures.1))

pub returns-in-Indexed : goal.returns-in-Indexed
returns-in-Indexed c =
    let r = c.indexed_size.ensures in (
      r.0 ∙ sym (ap (λ (t : Choice). length (representation_wire (chosen (as_field c.args.f) t))) c.in-Indexed.is ∙ indexed-size _),
      omega (arith, r.1),
    )

pub returns-in-Named : goal.returns-in-Named
returns-in-Named c =
    let r = c.literal_index_size.ensures in (
      r.0 ∙ ap (literal_index_size _) c.wire_size.ensures.0
          ∙ sym (ap (λ (t : Choice). length (representation_wire (chosen (as_field c.args.f) t))) c.in-Named.is
          ∙ literal-index-size _ _ c.args.f.value.now),
      omega (arith, r.1),
    )

pub returns-in-Literal : goal.returns-in-Literal
returns-in-Literal c =
    let r = c.literal_text_size.ensures in (
      r.0 ∙ ap₂ literal_text_size c.wire_size-in-Literal.ensures.0 c.wire_size-in-Literal-2.ensures.0
          ∙ sym (ap (λ (t : Choice). length (representation_wire (chosen (as_field c.args.f) t))) c.in-Literal.is
          ∙ literal-text-size _ c.args.f.name.now c.args.f.value.now),
      omega (arith, r.1),
    )
