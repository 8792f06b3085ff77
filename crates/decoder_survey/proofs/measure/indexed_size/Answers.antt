use mathlib.Core.Path.{sym, ap, ap₂, ◌∙◌}
use native.Mathlib.Omega.{arith}
use Rattle.fields.specs.Form.{field_size}
use Rattle.decoder_survey.specs.Measure.{field_measured}
use Rattle.decoder_survey.proofs.Entries.{changes, Looked, looked, inside, sized, no_lengths}
use Rattle.decoder_survey.proofs.Fields.{measured, names-entry, found, waiting}
use Rattle.decoder_survey.proofs.measure.indexed_size.Goals as goal

pub locate-requires : goal.locate-requires
locate-requires c = let p = c.requires in (p.1, (changes _ p.0).ordered)

pub lengths_at-requires : goal.lengths_at-requires
lengths_at-requires c =
    let at_place : let a = c.args in Looked a.m.now a.index.value c.locate.result = looked _ c.requires.0 _ c.locate.ensures in
    record { ordered = (changes _ c.requires.0).ordered; in_place = inside _ _ _ at_place }

pub field_size-requires : goal.field_size-requires
field_size-requires c =
    let at_place : let a = c.args in Looked a.m.now a.index.value c.locate.result = looked _ c.requires.0 _ c.locate.ensures in
    let lengths = sized _ _ _ at_place _ _ (sym c.lengths_at.ensures ∙ c.in-Some.is) in
    let z = lengths in
    let L = z.located in
    omega (arith, L.name, L.value, z.name, z.value)

pub returns-in-Some : goal.returns-in-Some
returns-in-Some c =
    let at_place : let a = c.args in Looked a.m.now a.index.value c.locate.result = looked _ c.requires.0 _ c.locate.ensures in
    let lengths = sized _ _ _ at_place _ _ (sym c.lengths_at.ensures ∙ c.in-Some.is) in
    let z = lengths in
    let L = z.located in
    measured _ (found _ _ _ (names-entry _ _) _ L) (L.name, L.value) (c.field_size.ensures ∙ ap₂ field_size z.name z.value)

pub returns-in-None : goal.returns-in-None
returns-in-None c =
    let at_place : let a = c.args in Looked a.m.now a.index.value c.locate.result = looked _ c.requires.0 _ c.locate.ensures in
    let e = no_lengths _ _ _ at_place (sym c.lengths_at.ensures ∙ c.in-None.is) in
    sym (ap field_measured (waiting _ _ _ (names-entry _ _) e))
