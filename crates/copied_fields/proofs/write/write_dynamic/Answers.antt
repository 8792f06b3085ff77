use mathlib.Core.Path.{◌≡◌, sym, ap, ◌∙◌}
use native.Mathlib.Omega.{arith}
use lib.ListN.{length}
use Rattle.blocks.specs.Representation.{indexed}
use Rattle.blocks.specs.Meaning.{FieldMeaning, field}
use Rattle.blocks.proofs.MeaningHeld.{static-above}
use Rattle.state.specs.Layout.{count_of}
use Rattle.table_search.specs.Search.{find_from}
use Rattle.entry_places.specs.declared.place.EntryPlace.TheVariants.{Dynamic}
use Rattle.decoder_survey.specs.Measure.{field_meant, field_bytes}
use Rattle.decoder_survey.specs.Passes.{row_field}
use Rattle.decoder_survey.proofs.Entries.{changes, Located, dynamic}
use Rattle.decoder_survey.proofs.Fields.{meant-written, names-entry, found, standing}
use Rattle.copied_fields.proofs.write.write_dynamic.Goals as goal
use Rattle.std.specs.Prelude.{Ok}

pub find-requires : goal.find-requires
find-requires c =
    let p = c.requires.stands in (omega (arith, p.1), (changes _ p.0).ordered)

pub returns-in_default : goal.returns-in_default
returns-in_default c =
    let p = c.requires.stands in
    let L = dynamic _ p.0 _ (static-above _ p.1) _ (sym c.find.ensures ∙ c.in_default.is) in
    absurd (standing _ _ _ (names-entry _ _) c.requires.field L)

pub write_row-requires : goal.write_row-requires
write_row-requires c =
    let a = c.args in
    let p = c.requires.stands in
    let row : find_from a.m.now a.index.value (count_of a.m.now) 0 ≡ Ok c.in-Ok.i = sym c.find.ensures ∙ c.in-Ok.is in
    let here : Located a.m.now a.index.value (Dynamic c.in-Ok.i) = dynamic _ p.0 _ (static-above _ p.1) _ row in
    let means : field_meant a.m.now (indexed a.index.value) ≡ field (row_field a.m.now c.in-Ok.i) =
    found _ _ _ (names-entry _ _) (Dynamic c.in-Ok.i) here in
    record {
      i_bound = (((changes _ p.0).here _ _ row).0, (changes _ p.0).ordered);
      i_len_bound = (here.name, here.value);
      i_in_bounds = omega (arith, ap (λ (F : FieldMeaning). length (field_bytes F)) means);
    }

pub returns : goal.returns
returns c =
    let a = c.args in
    let p = c.requires.stands in
    let row : find_from a.m.now a.index.value (count_of a.m.now) 0 ≡ Ok c.in-Ok.i = sym c.find.ensures ∙ c.in-Ok.is in
    let here : Located a.m.now a.index.value (Dynamic c.in-Ok.i) = dynamic _ p.0 _ (static-above _ p.1) _ row in
    let means : field_meant a.m.now (indexed a.index.value) ≡ field (row_field a.m.now c.in-Ok.i) =
    found _ _ _ (names-entry _ _) (Dynamic c.in-Ok.i) here in
    let e = c.write_row.ensures in
    let all = meant-written _ means _ _ (e.value, e.out_after) in
    record { value = all.0; out_after = all.1 }
