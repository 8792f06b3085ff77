use mathlib.Core.Path.{sym, ap, ◌∙◌}
use native.Mathlib.Omega.{arith}
use Prim.Native.Nat.{ℕ}
use Rattle.std.specs.Prelude.{Ok, Err}
use Rattle.integers.specs.Answers.{Read, on_read}
use Rattle.blocks.specs.declared.read.RepresentationPlace.{RepresentationPlace}
use Rattle.blocks.proofs.Bounds.{representation-good}
use Rattle.short_forms.proofs.ShortReads.{short-index-reads}
use Rattle.decoder_survey.specs.declared.measure.Survey.{Survey}
use Rattle.decoder_survey.specs.Measure.{field_at, field_measured}
use Rattle.decoder_survey.proofs.ShortForms.{ShortReads, short-reads}
use Rattle.decoder_survey.proofs.measure.next_step.Goals as goal

pub overflow_sub-result : goal.overflow_sub-result
overflow_sub-result c =
    let literal : let a = c.args in ShortReads a.m.now a.s.now a.at c.in-Some.next = short-reads _ _ _ _ c.requires.1 c.if-s-at-lt-INDEXED.true (sym c.short_literal.ensures ∙ c.in-Some.is) in
    omega (arith, literal.past)

pub returns-then-s-at-lt-INDEXED : goal.returns-then-s-at-lt-INDEXED
returns-then-s-at-lt-INDEXED c =
    let step_by : Read RepresentationPlace → Read Survey = λ r. on_read Err r (λ (p : RepresentationPlace) (next : ℕ). Ok (field_measured (field_at c.args.m.now c.args.s.now p), next)) in
    let literal : let a = c.args in ShortReads a.m.now a.s.now a.at c.in-Some.next = short-reads _ _ _ _ c.requires.1 c.if-s-at-lt-INDEXED.true (sym c.short_literal.ensures ∙ c.in-Some.is) in
    sym (ap step_by literal.reads ∙ ap (λ (n : Survey). Ok (n, c.in-Some.next)) literal.measure)

pub indexed_size-requires : goal.indexed_size-requires
indexed_size-requires c =
    let index = short-index-reads _ _ c.requires.1 c.if-s-at-lt-INDEXED.false _ _ (sym c.short_index.ensures ∙ c.in-Some-short_index.is) in
    (c.requires.0, (representation-good _ _ _ _ index).places.0)

pub returns : goal.returns
returns c =
    let step_by : Read RepresentationPlace → Read Survey = λ r. on_read Err r (λ (p : RepresentationPlace) (next : ℕ). Ok (field_measured (field_at c.args.m.now c.args.s.now p), next)) in
    let index = short-index-reads _ _ c.requires.1 c.if-s-at-lt-INDEXED.false _ _ (sym c.short_index.ensures ∙ c.in-Some-short_index.is) in
    ap (λ (n : Survey). Ok (n, c.in-Some-short_index.next)) c.indexed_size.ensures ∙ sym (ap step_by index)
