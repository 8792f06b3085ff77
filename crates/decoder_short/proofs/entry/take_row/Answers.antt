use Prim.Native.Nat.{◌≤◌}
use mathlib.Core.Path.{◌≡◌, refl, sym, ap, ◌∙◌}
use native.Mathlib.Omega.{arith}
use lib.ListN.{length, length-set}
use Rattle.fields.specs.Form.{Field}
use Rattle.fields.proofs.Sizes.{field-written}
use Rattle.blocks.specs.Reading.{read_representation}
use Rattle.blocks.specs.declared.read.RepresentationPlace.TheVariants.{Indexed}
use Rattle.blocks.proofs.MeaningHeld.{static-above}
use Rattle.short_forms.proofs.ShortReads.{short-index-reads}
use Rattle.state.specs.Layout.{count_of}
use Rattle.table_search.specs.Search.{find_from}
use Rattle.entry_places.specs.declared.place.EntryPlace.TheVariants.{Dynamic}
use Rattle.decoder_survey.proofs.Entries.{changes, Located, dynamic}
use Rattle.decoder_short.proofs.Entries.{text-room, index-field}
use Rattle.decoder_short.proofs.entry.take_row.Goals as goal
use Rattle.std.specs.Prelude.{Ok}

pub returns-in_default : goal.returns-in_default
returns-in_default c = refl

pub find-requires : goal.find-requires
find-requires c = let p = c.requires in (omega (arith, c.if-index-le-LAST.false), (changes _ p.0).ordered)

pub row_name-name-requires : goal.row_name-name-requires
row_name-name-requires c =
    let row : let m = c.args.m.now in find_from m c.in-Some.index.value (count_of m) 0 ≡ Ok c.in-Ok.row = sym c.find.ensures ∙ c.in-Ok.is in
    let p = c.requires in (((changes _ p.0).here _ _ row).0, (changes _ p.0).ordered)

pub row_value-value-requires : goal.row_value-value-requires
row_value-value-requires c =
    let row : let m = c.args.m.now in find_from m c.in-Some.index.value (count_of m) 0 ≡ Ok c.in-Ok.row = sym c.find.ensures ∙ c.in-Ok.is in
    let p = c.requires in (((changes _ p.0).here _ _ row).0, (changes _ p.0).ordered)

pub overflow_add-to : goal.overflow_add-to
overflow_add-to c =
    let row : let m = c.args.m.now in find_from m c.in-Some.index.value (count_of m) 0 ≡ Ok c.in-Ok.row = sym c.find.ensures ∙ c.in-Ok.is in
    let here : Located c.args.m.now c.in-Some.index.value (Dynamic c.in-Ok.row) = dynamic _ c.requires.0 _ (static-above _ c.if-index-le-LAST.false) _ row in
    let short : (length c.row_name-name.result.now ≤ 255) × (length c.row_value-value.result.now ≤ 2047) = let L = here in (omega (arith, L.name, ap length c.row_name-name.ensures), omega (arith, L.value, ap length c.row_value-value.ensures)) in
    omega (arith, short, c.requires.3)

pub overflow_add-to-2 : goal.overflow_add-to-2
overflow_add-to-2 c =
    let row : let m = c.args.m.now in find_from m c.in-Some.index.value (count_of m) 0 ≡ Ok c.in-Ok.row = sym c.find.ensures ∙ c.in-Ok.is in
    let here : Located c.args.m.now c.in-Some.index.value (Dynamic c.in-Ok.row) = dynamic _ c.requires.0 _ (static-above _ c.if-index-le-LAST.false) _ row in
    let short : (length c.row_name-name.result.now ≤ 255) × (length c.row_value-value.result.now ≤ 2047) = let L = here in (omega (arith, L.name, ap length c.row_name-name.ensures), omega (arith, L.value, ap length c.row_value-value.ensures)) in
    omega (arith, short, c.requires.3)

pub overflow_add-to-3 : goal.overflow_add-to-3
overflow_add-to-3 c =
    let row : let m = c.args.m.now in find_from m c.in-Some.index.value (count_of m) 0 ≡ Ok c.in-Ok.row = sym c.find.ensures ∙ c.in-Ok.is in
    let here : Located c.args.m.now c.in-Some.index.value (Dynamic c.in-Ok.row) = dynamic _ c.requires.0 _ (static-above _ c.if-index-le-LAST.false) _ row in
    let short : (length c.row_name-name.result.now ≤ 255) × (length c.row_value-value.result.now ≤ 2047) = let L = here in (omega (arith, L.name, ap length c.row_name-name.ensures), omega (arith, L.value, ap length c.row_value-value.ensures)) in
    omega (arith, short, c.requires.3)

pub bounds-out-to : goal.bounds-out-to
bounds-out-to c = omega (arith, c.if-out-to.false, c.requires.3)

pub overflow_add-to-4 : goal.overflow_add-to-4
overflow_add-to-4 c = omega (arith, c.if-out-to.false, c.requires.3)

pub write_text-after-requires : goal.write_text-after-requires
write_text-after-requires c =
    let row : let m = c.args.m.now in find_from m c.in-Some.index.value (count_of m) 0 ≡ Ok c.in-Ok.row = sym c.find.ensures ∙ c.in-Ok.is in
    let here : Located c.args.m.now c.in-Some.index.value (Dynamic c.in-Ok.row) = dynamic _ c.requires.0 _ (static-above _ c.if-index-le-LAST.false) _ row in
    let short : (length c.row_name-name.result.now ≤ 255) × (length c.row_value-value.result.now ≤ 2047) = let L = here in (omega (arith, L.name, ap length c.row_name-name.ensures), omega (arith, L.value, ap length c.row_value-value.ensures)) in
    let v = c in record { text_len_bound = (omega (arith, short, c.if-out-to.false, c.requires.3, text-room v.row_name-name.result.now (omega (arith, short)))); text_in_bounds = simp length-set (omega (arith, short, c.if-out-to.false, c.requires.3, text-room v.row_name-name.result.now (omega (arith, short)))) }

pub write_text-requires : goal.write_text-requires
write_text-requires c =
    let row : let m = c.args.m.now in find_from m c.in-Some.index.value (count_of m) 0 ≡ Ok c.in-Ok.row = sym c.find.ensures ∙ c.in-Ok.is in
    let here : Located c.args.m.now c.in-Some.index.value (Dynamic c.in-Ok.row) = dynamic _ c.requires.0 _ (static-above _ c.if-index-le-LAST.false) _ row in
    let short : (length c.row_name-name.result.now ≤ 255) × (length c.row_value-value.result.now ≤ 2047) = let L = here in (omega (arith, L.name, ap length c.row_name-name.ensures), omega (arith, L.value, ap length c.row_value-value.ensures)) in
    let v = c in
    let a = c.args in record { text_len_bound = omega (arith, short, c.if-out-to.false, c.requires.3, text-room v.row_name-name.result.now (omega (arith, short)), text-room v.row_value-value.result.now (omega (arith, short)), c.write_text-after, length-set a.out.now a.to 0); text_in_bounds = omega (arith, short, c.if-out-to.false, c.requires.3, text-room v.row_name-name.result.now (omega (arith, short)), text-room v.row_value-value.result.now (omega (arith, short)), c.write_text-after, length-set a.out.now a.to 0) }

pub returns : goal.returns
returns c =
    let read : let a = c.args in read_representation a.s.now a.at ≡ Ok (Indexed c.in-Some.index, c.in-Some.next) =
    short-index-reads _ _ c.requires.1 c.requires.2 _ _ (sym c.short_index.ensures ∙ c.in-Some.is) in
    let row : let m = c.args.m.now in find_from m c.in-Some.index.value (count_of m) 0 ≡ Ok c.in-Ok.row = sym c.find.ensures ∙ c.in-Ok.is in
    let here : Located c.args.m.now c.in-Some.index.value (Dynamic c.in-Ok.row) = dynamic _ c.requires.0 _ (static-above _ c.if-index-le-LAST.false) _ row in
    let the_field : Field = record { flag = 0; name = c.row_name-name.result.now; value = c.row_value-value.result.now } in
    let v = c in
    let a = c.args in
    let known = c in
    let name = c.write_text-after.ensures in
    let value = c.write_text.ensures in
    index-field _ _ _ _ (Dynamic known.in-Ok.row) here a.out.now a.to _ read _ _ v.row_name-name.ensures v.row_value-value.ensures c.requires.3 (omega (arith, c.if-out-to.false)) _ _
    (field-written a.out.now a.to the_field _ _ _ _ name.value name.out_after value.value value.out_after)
