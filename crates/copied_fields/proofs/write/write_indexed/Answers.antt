use native.Mathlib.Omega.{arith}
use mathlib.Core.Path.{◌≡◌, sym, ap, ap₂, ◌∙◌}
use mathlib.Core.List.{List}
use lib.ListN.{length}
use Rattle.fields.specs.Form.{Field}
use Rattle.fields.proofs.Sizes.{field_form-split}
use Rattle.blocks.specs.Representation.{indexed}
use Rattle.blocks.specs.Meaning.{field}
use Rattle.decoder_survey.specs.Measure.{field_meant}
use Rattle.decoder_survey.proofs.Entries.{changes, Located, looked, located}
use Rattle.decoder_survey.proofs.Fields.{meant-length, meant-written, names-entry, found, standing}
use Rattle.copied_fields.proofs.write.write_indexed.Goals as goal

pub locate-requires : goal.locate-requires
locate-requires c =
    let p = c.requires.text_value in (p.2, (changes _ p.1).ordered)

pub returns-in_default : goal.returns-in_default
returns-in_default c =
    let p = c.requires.text_value in
    absurd (standing _ _ _ (names-entry _ _) c.requires.field (looked _ p.1 _ (sym (sym c.locate.ensures ∙ c.in_default.is))))

pub name_at-name-requires : goal.name_at-name-requires
name_at-name-requires c =
    let p = c.requires.text_value in
    let at_place : Located c.args.m.now c.args.index.value c.in-Some.place = located _ p.1 _ (sym c.locate.ensures ∙ c.in-Some.is) in
    record { text_value = p.0; ordered = (changes _ p.1).ordered; in_place = at_place.inside }

pub value_at-value-requires : goal.value_at-value-requires
value_at-value-requires c =
    let p = c.requires.text_value in
    let at_place : Located c.args.m.now c.args.index.value c.in-Some.place = located _ p.1 _ (sym c.locate.ensures ∙ c.in-Some.is) in
    record { text_value = p.0; ordered = (changes _ p.1).ordered; in_place = at_place.inside }

pub write_field-requires : goal.write_field-requires
write_field-requires c =
    let p = c.requires.text_value in
    let at_place : Located c.args.m.now c.args.index.value c.in-Some.place = located _ p.1 _ (sym c.locate.ensures ∙ c.in-Some.is) in
    let the_field : Field = record { flag = 0; name = c.name_at-name.result.now; value = c.value_at-value.result.now } in
    let means : field_meant c.args.m.now (indexed c.args.index.value) ≡ field the_field =
    found _ _ _ (names-entry _ _) _ at_place
    ∙ sym (ap₂ (λ (n v : List _). field (record { flag = 0; name = n; value = v })) c.name_at-name.ensures c.value_at-value.ensures) in
    record {
      name_len_bound = omega (arith, at_place.name, at_place.value, ap length c.name_at-name.ensures, ap length c.value_at-value.ensures);
      value_in_bounds = omega (arith, c.requires.value_in_bounds, meant-length the_field means, field_form-split the_field);
    }

pub returns : goal.returns
returns c =
    let p = c.requires.text_value in
    let at_place : Located c.args.m.now c.args.index.value c.in-Some.place = located _ p.1 _ (sym c.locate.ensures ∙ c.in-Some.is) in
    let the_field : Field = record { flag = 0; name = c.name_at-name.result.now; value = c.value_at-value.result.now } in
    let means : field_meant c.args.m.now (indexed c.args.index.value) ≡ field the_field =
    found _ _ _ (names-entry _ _) _ at_place
    ∙ sym (ap₂ (λ (n v : List _). field (record { flag = 0; name = n; value = v })) c.name_at-name.ensures c.value_at-value.ensures) in
    let e = c.write_field.ensures in
    let all = meant-written the_field means _ _ (e.value, e.out_after) in
    record { value = all.0; out_after = all.1 }
