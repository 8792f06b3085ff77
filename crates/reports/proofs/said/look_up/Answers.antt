use mathlib.Core.Path.{refl, sym, ap, ◌∙◌}
use mathlib.Core.List.{List, [], ◌∷◌, ◌++◌}
use Prim.Native.Nat.{ℕ, ◌-◌}
use native.Mathlib.Omega.{arith}
use lib.ListN.{length}
use Rattle.fields.specs.Form.{Field}
use Rattle.fields.specs.Reading.{field_of, FieldListRead}
use Rattle.fields.proofs.Bounds.{field-good}
use Rattle.fields.proofs.Turns.{fields-done, fields-refused, fields-more}
use Rattle.reports.specs.Report.{values_of}
use Rattle.reports.specs.Said.{Times, times, fields_in}
use Rattle.reports.proofs.Telling.{said-next, inside-next}
use Rattle.reports.proofs.said.look_up.Goals as goal

abbrev times_in : List ℕ → FieldListRead → Times
times_in name fields = times (values_of name (fields_in fields))

pub loop-at-init : goal.loop-at-init
unfolding values_of
loop-at-init c = (length c.args.list.now, [], omega arith, refl, omega arith, refl, tt)

pub returns-in_default : goal.returns-in_default
unfolding values_of
returns-in_default c =
    let l = c.loop-at in
    record { result_value = sym (ap (times_in c.args.name.now) (l.invariant.3 ∙ fields-refused _ _ _ c.loop-at-test.true _ c.read_field.ensures l.invariant.0 (omega arith) _ c.in_default.is)); said_inside = tt }

pub with_field-told-requires : goal.with_field-told-requires
with_field-told-requires c = let g = field-good _ _ _ c.read_field.ensures _ _ c.in-Ok.is in g.name-inside

pub loop-at-smaller : goal.loop-at-smaller
loop-at-smaller c = let g = field-good _ _ _ c.read_field.ensures _ _ c.in-Ok.is in omega arith

pub loop-at-preserved : goal.loop-at-preserved
loop-at-preserved c =
    let l = c.loop-at in
    let a = c.args in
    let e = c.read_field.ensures in
    let found = c.in-Ok.is in
    let place = c.in-Ok.place in
    let g = field-good _ _ _ e _ _ found in
    let field : Field = field_of a.list.now place in (
      l.invariant.0 - 1,
      l.invariant.1 ++ (field ∷ []),
      omega arith,
      l.invariant.3 ∙ fields-more _ _ _ c.loop-at-test.true _ e l.invariant.0 (omega arith) _ _ found,
      g.inside,
      said-next a.name.now a.list.now place l.told c.with_field-told.result c.with_field-told.ensures l.invariant.1 l.invariant.5,
      inside-next a.name.now a.list.now place l.told c.with_field-told.result c.with_field-told.ensures l.invariant.6 g.value-inside,
    )

pub returns : goal.returns
returns c =
    let l = c.loop-at in
    record { result_value = l.invariant.5 ∙ sym (ap (times_in c.args.name.now) (l.invariant.3 ∙ fields-done _ _ _ _ c.loop-at-test.false)); said_inside = l.invariant.6 }
