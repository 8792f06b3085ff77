use Rattle.std.proofs.Common.{◌≡◌, [], ◌∷◌, ◌++◌, ◌-◌, length, refl, sym, ap, ◌∙◌, arith, rules}
use Rattle.std.specs.Prelude.{Err}
use Rattle.integers.specs.Answers.{checked_number}
use Rattle.fields.specs.Reading.{FieldListRead, read_field_list, list_checked, field_list_answer, field_of}
use Rattle.fields.specs.Reading.FieldListRead.{list, refused}
use Rattle.fields.proofs.Bounds.{field-good}
use Rattle.fields.proofs.Turns.{fields-done, fields-refused, fields-more}
use Rattle.fields.proofs.read.check_list.Goals as goal

-- a check's number is the list's
list-number : (r : FieldListRead) → checked_number (list_checked r) ≡ (field_list_answer r).number
list-number (list fs) = refl
list-number (refused why) = refl

pub loop-at-init : goal.loop-at-init
loop-at-init c = (length c.args.s.now, [], omega arith, refl, omega arith)

pub returns-in_err-at : goal.returns-in_err-at
returns-in_err-at c =
    let l = c.loop-at.invariant in
    let e : c.from_residual.result ≡ Err c.in_err-at.field-0.0 = search rules in
    let d = e ∙ sym (ap list_checked (l.3 ∙ fields-refused _ _ _ c.loop-at-test.true _ c.read_field.ensures l.0 (omega arith) _ c.in_err-at.was)) in
    record { checked = d; number = ap checked_number d ∙ list-number (read_field_list c.args.s.now) }

pub loop-at-smaller : goal.loop-at-smaller
loop-at-smaller c = let g = field-good _ _ _ c.read_field.ensures _ _ c.in_ok-at.was in omega arith

pub loop-at-preserved : goal.loop-at-preserved
loop-at-preserved c =
    let l = c.loop-at.invariant in
    let e = c.read_field.ensures in
    let found = c.in_ok-at.was in
    let g = field-good _ _ _ e _ _ found in (
      l.0 - 1,
      l.1 ++ (field_of c.args.s.now c.in_ok-at.field-0-0 ∷ []),
      omega arith,
      l.3 ∙ fields-more _ _ _ c.loop-at-test.true _ e l.0 (omega arith) _ _ found,
      g.inside,
    )

pub returns : goal.returns
returns c =
    let d = sym (ap list_checked (c.loop-at.invariant.3 ∙ fields-done _ _ _ _ c.loop-at-test.false)) in
    record { checked = d; number = ap checked_number d ∙ list-number (read_field_list c.args.s.now) }
