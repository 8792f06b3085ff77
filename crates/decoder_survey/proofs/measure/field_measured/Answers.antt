use native.Mathlib.Omega.{arith}
use mathlib.Core.Path.{sym, ap, ap₂, subst, ◌∙◌}
use Rattle.wire.proofs.TextBounds.{string-size}
use Rattle.fields.specs.Form.{field_size}
use Rattle.blocks.specs.Reading.{InBytes}
use Rattle.blocks.specs.declared.read.RepresentationPlace.{RepresentationPlace}
use Rattle.decoder_survey.specs.declared.measure.Survey.{Survey}
use Rattle.decoder_survey.specs.Measure.{field_at, field_measured}
use Rattle.decoder_survey.proofs.Fields.{measured, literal-by, means-literal}
use Rattle.decoder_survey.proofs.measure.field_measured.Goals as goal

pub indexed_size-requires : goal.indexed_size-requires
indexed_size-requires c =
    let p = c.requires in
    (p.stands, (subst (InBytes _) c.in-Indexed.is p.in_bytes).0)

pub named_size-requires : goal.named_size-requires
named_size-requires c =
    let by_index_lem = literal-by c.in-Literal.is c.in-Index.is in
    let p = c.requires in
    let i = subst (InBytes _) by_index_lem p.in_bytes in
    record { stands = p.stands; in_bytes = (omega arith, i.1, i.2, i.3) }

pub field_size-requires : goal.field_size-requires
field_size-requires c =
    let by_bytes = literal-by c.in-Literal.is c.in-Text.is in
    let known = c in
    let i = subst (InBytes _) by_bytes known.requires.in_bytes in
    omega (arith, i.1.1, i.3, c.length.ensures, c.length-in-Text.ensures)

pub returns-in-Indexed : goal.returns-in-Indexed
returns-in-Indexed c =
    let measure-of : RepresentationPlace → Survey = λ r. field_measured (field_at c.args.m.now c.args.s.now r) in
    c.indexed_size.ensures ∙ sym (ap measure-of c.in-Indexed.is)

pub returns-in-Index : goal.returns-in-Index
returns-in-Index c =
    let by_index_lem = literal-by c.in-Literal.is c.in-Index.is in
    let known = c in
    rw by_index_lem (c.named_size.ensures known.in-Literal.field-0)

pub returns-in-Text : goal.returns-in-Text
returns-in-Text c =
    let measure-of : RepresentationPlace → Survey = λ r. field_measured (field_at c.args.m.now c.args.s.now r) in
    let by_bytes = literal-by c.in-Literal.is c.in-Text.is in
    let known = c in
    let start = known in
    let s = start.args.s.now in
    let i = subst (InBytes s) by_bytes start.requires.in_bytes in
    let n = string-size s known.in-Text.bytes i.1.0 in
    let v = string-size s known.in-Literal.value i.2 in
    measured _ (means-literal _ _ _ _) (omega (arith, n, i.1.1), omega (arith, v, i.3))
    (c.field_size.ensures ∙ ap₂ field_size (c.length.ensures ∙ sym n) (c.length-in-Text.ensures ∙ sym v))
    ∙ sym (ap measure-of by_bytes)
