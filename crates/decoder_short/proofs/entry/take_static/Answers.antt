use Prim.Native.Nat.{◌≤◌}
use mathlib.Core.Path.{◌≡◌, refl, sym, ap, ◌∙◌}
use native.Mathlib.Omega.{arith}
use lib.ListN.{length}
use Rattle.statics.proofs.Places.{name-most, value-most}
use Rattle.blocks.specs.Reading.{read_representation}
use Rattle.blocks.specs.declared.read.RepresentationPlace.TheVariants.{Indexed}
use Rattle.blocks.proofs.Bounds.{representation-good}
use Rattle.short_forms.proofs.ShortReads.{short-index-reads}
use Rattle.entry_places.specs.declared.place.EntryPlace.TheVariants.{Static}
use Rattle.entry_places.proofs.Locating.{locate-static}
use Rattle.decoder_survey.proofs.Entries.{located}
use Rattle.decoder_short.proofs.Entries.{field_room, index-field}
use Rattle.decoder_short.proofs.entry.take_static.Goals as goal
use Rattle.std.specs.Prelude.{Ok}

pub returns-in_default : goal.returns-in_default
returns-in_default c = λ m S. refl

pub static_name-name-requires : goal.static_name-name-requires
static_name-name-requires c =
    let read : let a = c.args in read_representation a.s.now a.at ≡ Ok (Indexed c.in-Some.index, c.in-Some.next) =
    short-index-reads _ _ c.requires.1 c.requires.2 _ _ (sym c.short_index.ensures ∙ c.in-Some.is) in
    let static : let i = c.in-Some.index.value in (1 ≤ i) × (i ≤ 61) = ((representation-good _ _ _ _ read).places.0, c.if-index-gt-LAST.false) in
    record { text_value = c.requires.0; le_value = static }

pub static_value-value-requires : goal.static_value-value-requires
static_value-value-requires c =
    let read : let a = c.args in read_representation a.s.now a.at ≡ Ok (Indexed c.in-Some.index, c.in-Some.next) =
    short-index-reads _ _ c.requires.1 c.requires.2 _ _ (sym c.short_index.ensures ∙ c.in-Some.is) in
    let static : let i = c.in-Some.index.value in (1 ≤ i) × (i ≤ 61) = ((representation-good _ _ _ _ read).places.0, c.if-index-gt-LAST.false) in
    record { text_value = c.requires.0; le_value = static }

pub overflow_add-name : goal.overflow_add-name
overflow_add-name c =
    let short : (length c.static_name-name.result.now ≤ 255) × (length c.static_value-value.result.now ≤ 2047) = let i = c.in-Some.index.value in
    (omega (arith, name-most i, ap length c.static_name-name.ensures), omega (arith, value-most i, ap length c.static_value-value.ensures)) in
    omega (arith, short)

pub overflow_add-name-2 : goal.overflow_add-name-2
overflow_add-name-2 c =
    let short : (length c.static_name-name.result.now ≤ 255) × (length c.static_value-value.result.now ≤ 2047) = let i = c.in-Some.index.value in
    (omega (arith, name-most i, ap length c.static_name-name.ensures), omega (arith, value-most i, ap length c.static_value-value.ensures)) in
    omega (arith, short)

pub write_field-requires : goal.write_field-requires
write_field-requires c =
    let short : (length c.static_name-name.result.now ≤ 255) × (length c.static_value-value.result.now ≤ 2047) = let i = c.in-Some.index.value in
    (omega (arith, name-most i, ap length c.static_name-name.ensures), omega (arith, value-most i, ap length c.static_value-value.ensures)) in
    let v = c in
    let h = short in
    record { name_len_bound = h; value_in_bounds = omega (arith, field_room (record { flag = 0; name = v.static_name-name.result.now; value = v.static_value-value.result.now }) h.0 h.1, c.if-out-to.false, c.requires.3) }

pub returns : goal.returns
returns c =
    let read : let a = c.args in read_representation a.s.now a.at ≡ Ok (Indexed c.in-Some.index, c.in-Some.next) =
    short-index-reads _ _ c.requires.1 c.requires.2 _ _ (sym c.short_index.ensures ∙ c.in-Some.is) in
    let static : let i = c.in-Some.index.value in (1 ≤ i) × (i ≤ 61) = ((representation-good _ _ _ _ read).places.0, c.if-index-gt-LAST.false) in
    let v = c in
    let known = c in
    let i = known.in-Some.index in
    let a = c.args in
    let h = static in
    λ m S. index-field m _ _ i (Static i) (located m S i.value (locate-static m i.value h.0 h.1)) a.out.now a.to _ read _ _ v.static_name-name.ensures v.static_value-value.ensures
    c.requires.3 c.if-out-to.false _ _ (c.write_field.ensures.value, c.write_field.ensures.out_after)
