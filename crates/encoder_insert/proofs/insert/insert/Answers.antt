use mathlib.Core.Path.{◌≡◌, refl, sym, ◌∙◌}
use mathlib.Core.Bool.{true}
use Prim.Native.Nat.{◌+◌}
use lib.ListN.{length}
use native.Mathlib.Omega.{arith}
use borrow.Author.Tests.{leb-true, leb-false}
use Rattle.memory.specs.Bytes.{Small}
use Rattle.state.specs.Layout.{limit_of, held_of}
use Rattle.state.specs.Forms.{forms_encoder}
use Rattle.encoder_insert.specs.Steps.{Fitting}
use Rattle.encoder.proofs.Leaving.{answer-of, memory-of, output-of}
use Rattle.encoder.proofs.Standing.{long}
use Rattle.encoder_insert.proofs.Inserting.{insert-no-state, insert-name-long, insert-value-long, insert-over, insert-fitting}
use Rattle.encoder_insert.proofs.insert.insert.Goals as goal

pub returns-then-not-forms_encoder : goal.returns-then-not-forms_encoder
returns-then-not-forms_encoder c =
    let a = c.args in
    let e = insert-no-state a.m.now a.name.now a.value.now a.out.now (sym c.forms_encoder.ensures ∙ c.if-not-forms_encoder.true) in
    record { result_value = answer-of e c.because.ensures; m_after = memory-of e refl; out_after = output-of e refl }

pub returns-then-name-gt-NAME_LIMIT : goal.returns-then-name-gt-NAME_LIMIT
returns-then-name-gt-NAME_LIMIT c =
    let a = c.args in
    let small : Small a.m.now = λ k. grind arith in
    let forms : forms_encoder a.m.now ≡ true = sym c.forms_encoder.ensures ∙ c.if-not-forms_encoder.false in
    let e = insert-name-long a.m.now small forms a.name.now a.value.now a.out.now c.if-name-gt-NAME_LIMIT.true in
    record { result_value = answer-of e c.because-then-name-gt-NAME_LIMIT.ensures; m_after = memory-of e refl; out_after = output-of e refl }

pub returns-then-value-gt-VALUE_LIMIT : goal.returns-then-value-gt-VALUE_LIMIT
returns-then-value-gt-VALUE_LIMIT c =
    let a = c.args in
    let small : Small a.m.now = λ k. grind arith in
    let forms : forms_encoder a.m.now ≡ true = sym c.forms_encoder.ensures ∙ c.if-not-forms_encoder.false in
    let e = insert-value-long a.m.now small forms a.name.now a.value.now a.out.now c.if-name-gt-NAME_LIMIT.false c.if-value-gt-VALUE_LIMIT.true in
    record { result_value = answer-of e c.because-then-value-gt-VALUE_LIMIT.ensures; m_after = memory-of e refl; out_after = output-of e refl }

pub fits-requires : goal.fits-requires
fits-requires c =
    let a = c.args in
    let small : Small a.m.now = λ k. grind arith in
    let forms : forms_encoder a.m.now ≡ true = sym c.forms_encoder.ensures ∙ c.if-not-forms_encoder.false in
    (omega (arith, long _ small forms), omega arith)

pub returns-then-not-fits : goal.returns-then-not-fits
returns-then-not-fits c =
    let a = c.args in
    let small : Small a.m.now = λ k. grind arith in
    let forms : forms_encoder a.m.now ≡ true = sym c.forms_encoder.ensures ∙ c.if-not-forms_encoder.false in
    let over = leb-false (held_of a.m.now + (length a.name.now + length a.value.now + 32)) (limit_of a.m.now) (sym c.fits.ensures ∙ c.if-not-fits.true) in
    let e = insert-over a.m.now small forms a.name.now a.value.now a.out.now c.if-name-gt-NAME_LIMIT.false c.if-value-gt-VALUE_LIMIT.false over in
    record { result_value = answer-of e c.because-then-not-fits.ensures; m_after = memory-of e refl; out_after = output-of e refl }

pub insert_fitting-requires : goal.insert_fitting-requires
insert_fitting-requires c =
    let a = c.args in
    let forms : forms_encoder a.m.now ≡ true = sym c.forms_encoder.ensures ∙ c.if-not-forms_encoder.false in
    let fitting : Fitting a.m.now a.name.now a.value.now =
    record {
      name_short = c.if-name-gt-NAME_LIMIT.false;
      value_short = c.if-value-gt-VALUE_LIMIT.false;
      limit = leb-true _ _ (sym c.fits.ensures ∙ c.if-not-fits.false);
    } in
    record { m_value = forms; fitting = fitting }

pub returns : goal.returns
returns c =
    let a = c.args in
    let small : Small a.m.now = λ k. grind arith in
    let forms : forms_encoder a.m.now ≡ true = sym c.forms_encoder.ensures ∙ c.if-not-forms_encoder.false in
    let fitting : Fitting a.m.now a.name.now a.value.now =
    record {
      name_short = c.if-name-gt-NAME_LIMIT.false;
      value_short = c.if-value-gt-VALUE_LIMIT.false;
      limit = leb-true _ _ (sym c.fits.ensures ∙ c.if-not-fits.false);
    } in
    let e = insert-fitting a.m.now small forms a.name.now a.value.now a.out.now fitting in
    let d = c.insert_fitting.ensures in
    record { result_value = answer-of e d.result_value; m_after = memory-of e d.m_after; out_after = output-of e d.out_after }
