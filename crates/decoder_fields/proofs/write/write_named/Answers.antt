use native.Mathlib.Omega.{arith}
use mathlib.Core.Path.{◌≡◌, sym, ap, ◌∙◌}
use mathlib.Core.List.{List}
use lib.ListN.{length, length-set}
use Rattle.wire.specs.Text.{string_bytes}
use Rattle.fields.specs.Form.{Field}
use Rattle.fields.proofs.Sizes.{field-written}
use Rattle.blocks.specs.Meaning.{FieldMeaning, field}
use Rattle.decoder_survey.specs.Measure.{named_at}
use Rattle.decoder_survey.proofs.Entries.{changes, Located, looked, located}
use Rattle.decoder_survey.proofs.Fields.{meant-positive, meant-length, meant-written, names-name, found, standing}
use Rattle.decoder_fields.proofs.write.write_named.Goals as goal

pub locate-requires : goal.locate-requires
locate-requires c = let p = c.requires in (p.in_bytes.1.0, (changes _ p.text_value.1).ordered)

pub bounds-out-at : goal.bounds-out-at
bounds-out-at c =
    let meaning : FieldMeaning = let a = c.args in named_at a.m.now a.s.now a.flag a.index a.value in
    omega (arith, c.requires.value_in_bounds, meant-positive meaning c.requires.field)

pub returns-in_default : goal.returns-in_default
returns-in_default c =
    absurd (standing _ _ _ (names-name _ _ _ _) c.requires.field (looked _ c.requires.text_value.1 _ (sym (sym c.locate.ensures ∙ c.in_default.is))))

pub name_at-name-requires : goal.name_at-name-requires
name_at-name-requires c =
    let at_place : let a = c.args in Located a.m.now a.index.value c.in-Some.place = located _ c.requires.text_value.1 _ (sym c.locate.ensures ∙ c.in-Some.is) in
    let p = c.requires.text_value in record { text_value = p.0; ordered = (changes _ p.1).ordered; in_place = at_place.inside }

pub write_text-next-requires : goal.write_text-next-requires
write_text-next-requires c =
    let at_place : let a = c.args in Located a.m.now a.index.value c.in-Some.place = located _ c.requires.text_value.1 _ (sym c.locate.ensures ∙ c.in-Some.is) in
    let meaning : FieldMeaning = let a = c.args in named_at a.m.now a.s.now a.flag a.index a.value in
    let the_field : Field = let a = c.args in
    record { flag = a.flag; name = c.name_at-name.result.now; value = string_bytes a.s.now a.value } in
    let means : meaning ≡ field the_field = let a = c.args in
    found _ _ _ (names-name _ _ _ _) _ at_place
    ∙ sym (ap (λ (n : List _). field (record { flag = a.flag; name = n; value = string_bytes a.s.now a.value })) c.name_at-name.ensures) in
    let L = at_place in record { text_len_bound = (omega (arith, L.name, ap length c.name_at-name.ensures, c.requires.value_in_bounds, meant-length the_field means)); text_in_bounds = simp length-set (omega (arith, L.name, ap length c.name_at-name.ensures, c.requires.value_in_bounds, meant-length the_field means)) }

pub write_string_text-requires : goal.write_string_text-requires
write_string_text-requires c =
    let at_place : let a = c.args in Located a.m.now a.index.value c.in-Some.place = located _ c.requires.text_value.1 _ (sym c.locate.ensures ∙ c.in-Some.is) in
    let meaning : FieldMeaning = let a = c.args in named_at a.m.now a.s.now a.flag a.index a.value in
    let the_field : Field = let a = c.args in
    record { flag = a.flag; name = c.name_at-name.result.now; value = string_bytes a.s.now a.value } in
    let means : meaning ≡ field the_field = let a = c.args in
    found _ _ _ (names-name _ _ _ _) _ at_place
    ∙ sym (ap (λ (n : List _). field (record { flag = a.flag; name = n; value = string_bytes a.s.now a.value })) c.name_at-name.ensures) in
    let a = c.args in
    let p = c.requires.in_bytes in record { in_string = (p.2, p.3); p_in_bounds = omega (arith, c.requires.value_in_bounds, meant-length the_field means, c.write_text-next, length-set a.out.now a.at a.flag) }

pub returns : goal.returns
returns c =
    let at_place : let a = c.args in Located a.m.now a.index.value c.in-Some.place = located _ c.requires.text_value.1 _ (sym c.locate.ensures ∙ c.in-Some.is) in
    let meaning : FieldMeaning = let a = c.args in named_at a.m.now a.s.now a.flag a.index a.value in
    let the_field : Field = let a = c.args in
    record { flag = a.flag; name = c.name_at-name.result.now; value = string_bytes a.s.now a.value } in
    let means : meaning ≡ field the_field = let a = c.args in
    found _ _ _ (names-name _ _ _ _) _ at_place
    ∙ sym (ap (λ (n : List _). field (record { flag = a.flag; name = n; value = string_bytes a.s.now a.value })) c.name_at-name.ensures) in
    let n = c in
    let name = c.write_text-next.ensures in
    let value = c.write_string_text.ensures in let all = meant-written the_field means _ _ (field-written _ _ the_field _ _ _ _ name.value name.out_after value.value value.out_after) in record { value = all.0; out_after = all.1 }
