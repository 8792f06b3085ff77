use native.Mathlib.Omega.{arith}
use lib.ListN.{length-set}
use Rattle.fields.specs.Form.{Field}
use Rattle.fields.proofs.Sizes.{field_form-split, field-written}
use Rattle.decoder_survey.specs.Measure.{literal_at}
use Rattle.decoder_fields.proofs.write.write_literal.Goals as goal

pub bounds-out-at : goal.bounds-out-at
bounds-out-at c =
    let the_field : Field = let a = c.args in literal_at a.s.now a.flag a.name a.value in
    omega (arith, c.requires.value_in_bounds, field_form-split the_field)

pub write_string_text-next-requires : goal.write_string_text-next-requires
write_string_text-next-requires c =
    let the_field : Field = let a = c.args in literal_at a.s.now a.flag a.name a.value in
    let p = c.requires in
    record { in_string = (p.in_bytes.1.0, omega (arith, p.in_bytes.1.1)); p_in_bounds = simp length-set (omega (arith, p.value_in_bounds, field_form-split the_field)) }

pub write_string_text-requires : goal.write_string_text-requires
write_string_text-requires c =
    let the_field : Field = let a = c.args in literal_at a.s.now a.flag a.name a.value in
    let a = c.args in
    let p = c.requires in record { in_string = (p.in_bytes.2, p.in_bytes.3); p_in_bounds = omega (arith, p.value_in_bounds, field_form-split the_field, c.write_string_text-next, length-set a.out.now a.at a.flag) }

pub returns : goal.returns
returns c =
    let the_field : Field = let a = c.args in literal_at a.s.now a.flag a.name a.value in
    let w = c in
    let name = w.write_string_text-next.ensures in
    let value = c.write_string_text.ensures in let all = field-written _ _ the_field _ _ _ _ name.value name.out_after value.value value.out_after in record { value = all.0; out_after = all.1 }
