use Prim.Native.Nat.{ℕ, ◌+◌, ◌≤◌}
use mathlib.Core.Path.{sym, ap, ◌∙◌}
use native.Mathlib.Omega.{arith}
use lib.ListN.{length, set, length-set}
use Rattle.memory.specs.Bytes.{overlay}
use Rattle.wire.specs.declared.name.NamePlace.TheVariants.{Index}
use Rattle.wire.proofs.TextBounds.{name-good}
use Rattle.fields.specs.Form.{text_form}
use Rattle.decoder_survey.proofs.Entries.{changes, Located, located}
use Rattle.decoder_short.proofs.Entries.{text-room, named-taken}
use Rattle.decoder_short.proofs.entry.take_value.Goals as goal

-- `take_value` meets its contract: the flag, the name of the entry that stands there, and the value.
pub locate-requires : goal.locate-requires
locate-requires c =
    let p = c.requires in
    ((name-good 6 _ _ (omega arith) (Index c.args.index) _ p.at_value).3.0, (changes _ p.text_value.1).ordered)

pub name_at-name-requires : goal.name_at-name-requires
name_at-name-requires c =
    let at_place : let a = c.args in Located a.m.now a.index.value c.in_ok-place.place = located _ c.requires.text_value.1 _ (sym c.locate.ensures ∙ c.in_ok-place.was) in
    let p = c.requires.text_value in record { text_value = p.0; ordered = (changes _ p.1).ordered; in_place = at_place.inside }

pub overflow_add-name : goal.overflow_add-name
overflow_add-name c =
    let at_place : let a = c.args in Located a.m.now a.index.value c.in_ok-place.place = located _ c.requires.text_value.1 _ (sym c.locate.ensures ∙ c.in_ok-place.was) in
    let short : length c.name_at-name.result.now ≤ 255 = omega (arith, at_place.name, ap length c.name_at-name.ensures) in
    omega (arith, short)

pub bounds-out-to : goal.bounds-out-to
bounds-out-to c = omega (arith, c.if-out-to.false, c.requires.text_value.4)

pub overflow_add-to : goal.overflow_add-to
overflow_add-to c = omega (arith, c.if-out-to.false, c.requires.text_value.4)

pub write_text-after-requires : goal.write_text-after-requires
write_text-after-requires c =
    let at_place : let a = c.args in Located a.m.now a.index.value c.in_ok-place.place = located _ c.requires.text_value.1 _ (sym c.locate.ensures ∙ c.in_ok-place.was) in
    let short : length c.name_at-name.result.now ≤ 255 = omega (arith, at_place.name, ap length c.name_at-name.ensures) in
    let n = c in record { text_len_bound = (omega (arith, short, c.if-out-to.false, c.requires.text_value.4, text-room n.name_at-name.result.now (omega (arith, short)))); text_in_bounds = simp length-set (omega (arith, short, c.if-out-to.false, c.requires.text_value.4, text-room n.name_at-name.result.now (omega (arith, short)))) }

pub take_string-requires : goal.take_string-requires
take_string-requires c =
    let at_place : let a = c.args in Located a.m.now a.index.value c.in_ok-place.place = located _ c.requires.text_value.1 _ (sym c.locate.ensures ∙ c.in_ok-place.was) in
    let short : length c.name_at-name.result.now ≤ 255 = omega (arith, at_place.name, ap length c.name_at-name.ensures) in
    let n = c in
    let a = c.args in
    omega (arith, short, c.if-out-to.false, c.requires.text_value.4, text-room n.name_at-name.result.now (omega (arith, short)), c.write_text-after, length-set a.out.now a.to c.flag_of.result)

pub returns : goal.returns
returns c =
    let at_place : let a = c.args in Located a.m.now a.index.value c.in_ok-place.place = located _ c.requires.text_value.1 _ (sym c.locate.ensures ∙ c.in_ok-place.was) in
    let a = c.args in
    let p = c.requires in
    let n = c in
    let w = c.write_text-after.ensures in
    let t = c.take_string in
    named-taken _ _ _ _ n.in_ok-place.place at_place a.out.now a.to p.text_value.2 p.text_value.3 _ p.at_value _ n.name_at-name.ensures _ _ w.value
    (w.out_after ∙ ap (λ (b : ℕ). overlay (set a.out.now a.to b) (a.to + 1) (text_form n.name_at-name.result.now)) c.flag_of.ensures)
    t.new.out t.result t.ensures
