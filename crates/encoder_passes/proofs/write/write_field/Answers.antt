use Prim.Native.Nat.{ℕ, ◌+◌, ◌≤◌}
use mathlib.Core.Path.{sym, ap, subst, ◌∙◌}
use native.Mathlib.Omega.{arith}
use mathlib.Core.List.{List}
use lib.ListN.{length}
use Rattle.memory.specs.Bytes.{Small, overlay}
use Rattle.memory.proofs.Order.{pick_true, pick-false}
use Rattle.blocks.specs.Representation.{Representation, representation_wire}
use Rattle.model.specs.Encoder.{choose}
use Rattle.state.specs.EncoderState.{encoder_of}
use Rattle.parts.specs.Turn.{part_in}
use Rattle.encoder_fields.specs.Measure.{as_field}
use Rattle.encoder_fields.specs.Refer.{entered_by}
use Rattle.encoder_fields.proofs.Fields.{listed-fine}
use Rattle.encoder_references.proofs.Entering.{entered-choice}
use Rattle.encoder_passes.proofs.Writing.{choice-fine}
use Rattle.encoder_passes.proofs.write.write_field.Goals as goal

pub overflow_add-result : goal.overflow_add-result
overflow_add-result c = omega (arith, c.choice_size.ensures.1, c.requires.m_value.2)

pub returns-then-not-write : goal.returns-then-not-write
returns-then-not-write c =
    let a = c.args in
    let e = c.choose_field-choice.ensures in
    let refers : List ℕ = entered_by a.m.now a.stream.value (part_in a.part) (choose (encoder_of a.m.now).entries (as_field a.f)) in
    let writes : List ℕ = overlay a.out.now a.at (representation_wire (choose (encoder_of a.m.now).entries (as_field a.f))) in
    record {
      value = ap (λ (n : ℕ). a.at + n) (c.choice_size.ensures.0 ∙ ap (λ (r : Representation). length (representation_wire r)) e);
      m_after = sym (pick-false a.write refers a.m.now c.if-not-write.true);
      out_after = sym (pick-false a.write writes a.out.now c.if-not-write.true);
    }

pub enter_choice-requires : goal.enter_choice-requires
enter_choice-requires c =
    let p = c.requires.m_value in (p.1, p.0)

pub write_choice-requires : goal.write_choice-requires
write_choice-requires c =
    let a = c.args in
    let e = c.choose_field-choice.ensures in
    let p = c.requires in
    let small : Small a.m.now = λ k. grind arith in
    record {
      fine_representation = choice-fine _ small p.m_value.0 _ (listed-fine a.f) c.choose_field-choice.result e;
      choice_in_bounds =
          subst (λ (r : Representation). a.at + length (representation_wire r) ≤ length a.out.now) (sym e) (p.f_in_bounds c.if-not-write.false);
    }

pub returns : goal.returns
returns c =
    let a = c.args in
    let e = c.choose_field-choice.ensures in
    let refers : List ℕ = entered_by a.m.now a.stream.value (part_in a.part) (choose (encoder_of a.m.now).entries (as_field a.f)) in
    let writes : List ℕ = overlay a.out.now a.at (representation_wire (choose (encoder_of a.m.now).entries (as_field a.f))) in
    let wrote = c.write_choice.ensures in
    record {
      value = wrote.value ∙ ap (λ (r : Representation). a.at + length (representation_wire r)) e;
      m_after =
          c.enter_choice.ensures
          ∙ entered-choice a.m.now a.stream.value (part_in a.part) (as_field a.f) c.choose_field-choice.result
          ∙ ap (entered_by a.m.now a.stream.value (part_in a.part)) e
          ∙ sym (pick_true a.write refers a.m.now c.if-not-write.false);
      out_after =
          wrote.out_after
          ∙ ap (λ (r : Representation). overlay a.out.now a.at (representation_wire r)) e
          ∙ sym (pick_true a.write writes a.out.now c.if-not-write.false);
    }
