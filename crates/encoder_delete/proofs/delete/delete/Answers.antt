use mathlib.Core.Path.{◌≡◌, refl, sym, ap, ◌∙◌}
use mathlib.Core.Bool.{true}
use native.Mathlib.Omega.{arith}
use borrow.Author.Rules.{rules}
use Rattle.memory.specs.Bytes.{Small}
use Rattle.integers.specs.declared.number.TableIndex.{TableIndex}
use Rattle.state.specs.Layout.{count_of}
use Rattle.state.specs.Forms.{forms_encoder}
use Rattle.table_search.specs.Search.{find_from}
use Rattle.table_laws.specs.DecoderChanges.{found}
use Rattle.encoder.proofs.Leaving.{answer-of, memory-of, output-of}
use Rattle.encoder.proofs.Standing.{changes, row-found}
use Rattle.encoder_delete.proofs.Deleting.{delete-no-state, delete-low, delete-high, delete-vacant, delete-deleted, delete-found}
use Rattle.encoder_delete.proofs.delete.delete.Goals as goal

pub returns-then-not-forms_encoder : goal.returns-then-not-forms_encoder
returns-then-not-forms_encoder c =
    let a = c.args in
    let e = delete-no-state a.m.now a.index a.out.now (sym c.forms_encoder.ensures ∙ c.if-not-forms_encoder.true) in record { result_value = answer-of e c.because.ensures; m_after = memory-of e refl; out_after = output-of e refl }

pub returns-then-index : goal.returns-then-index
returns-then-index c =
    let small : Small c.args.m.now = search rules in
    let forms : forms_encoder c.args.m.now ≡ true = sym c.forms_encoder.ensures ∙ c.if-not-forms_encoder.false in
    let a = c.args in
    let e = delete-low a.m.now small forms a.index a.out.now c.if-index.true in record { result_value = answer-of e c.because-then-index.ensures; m_after = memory-of e refl; out_after = output-of e refl }

pub returns-then-index-2 : goal.returns-then-index-2
returns-then-index-2 c =
    let small : Small c.args.m.now = search rules in
    let forms : forms_encoder c.args.m.now ≡ true = sym c.forms_encoder.ensures ∙ c.if-not-forms_encoder.false in
    let a = c.args in
    let e = delete-high a.m.now small forms a.index a.out.now c.if-index.false c.if-index-2.true in record { result_value = answer-of e c.because-then-index-2.ensures; m_after = memory-of e refl; out_after = output-of e refl }

pub find-f-requires : goal.find-f-requires
find-f-requires c =
    let small : Small c.args.m.now = search rules in
    let forms : forms_encoder c.args.m.now ≡ true = sym c.forms_encoder.ensures ∙ c.if-not-forms_encoder.false in (
      omega (arith, ap (λ (i : TableIndex). i.value) c.new-i.ensures, c.if-index.false),
      (changes _ small forms).ordered,
    )

pub returns-in_default : goal.returns-in_default
returns-in_default c =
    let small : Small c.args.m.now = search rules in
    let forms : forms_encoder c.args.m.now ≡ true = sym c.forms_encoder.ensures ∙ c.if-not-forms_encoder.false in
    let looked : find_from c.args.m.now c.args.index (count_of c.args.m.now) 0 ≡ c.find-f.result = let m = c.args.m.now in
    sym (c.find-f.ensures ∙ ap (λ (i : TableIndex). find_from m i.value (count_of m) 0) c.new-i.ensures) in
    let a = c.args in
    let e = delete-vacant a.m.now small forms a.index a.out.now c.if-index.false c.if-index-2.false _
    (looked ∙ c.in_default.is) in record { result_value = answer-of e c.because-in_default.ensures; m_after = memory-of e refl; out_after = output-of e refl }

pub status_at-requires : goal.status_at-requires
status_at-requires c =
    let small : Small c.args.m.now = search rules in
    let forms : forms_encoder c.args.m.now ≡ true = sym c.forms_encoder.ensures ∙ c.if-not-forms_encoder.false in
    let looked : find_from c.args.m.now c.args.index (count_of c.args.m.now) 0 ≡ c.find-f.result = let m = c.args.m.now in
    sym (c.find-f.ensures ∙ ap (λ (i : TableIndex). find_from m i.value (count_of m) 0) c.new-i.ensures) in
    let at : found c.args.m.now c.args.index c.in-Ok.place = looked ∙ c.in-Ok.is in
    ((row-found _ small forms _ _ at).below, omega (arith, (changes _ small forms).ordered.long))

pub returns-then-status_at-ne0 : goal.returns-then-status_at-ne0
returns-then-status_at-ne0 c =
    let small : Small c.args.m.now = search rules in
    let forms : forms_encoder c.args.m.now ≡ true = sym c.forms_encoder.ensures ∙ c.if-not-forms_encoder.false in
    let looked : find_from c.args.m.now c.args.index (count_of c.args.m.now) 0 ≡ c.find-f.result = let m = c.args.m.now in
    sym (c.find-f.ensures ∙ ap (λ (i : TableIndex). find_from m i.value (count_of m) 0) c.new-i.ensures) in
    let at : found c.args.m.now c.args.index c.in-Ok.place = looked ∙ c.in-Ok.is in
    let a = c.args in
    let e = delete-deleted a.m.now small forms a.index a.out.now c.if-index.false c.if-index-2.false _ at
    (λ z. c.if-status_at-ne0.true (c.status_at.ensures ∙ z)) in record { result_value = answer-of e c.because-then-status_at-ne0.ensures; m_after = memory-of e refl; out_after = output-of e refl }

pub delete_found-requires : goal.delete_found-requires
delete_found-requires c =
    let forms : forms_encoder c.args.m.now ≡ true = sym c.forms_encoder.ensures ∙ c.if-not-forms_encoder.false in
    record { m_value = forms; m_value_2 = (sym c.find-f.ensures ∙ c.in-Ok.is, sym c.status_at.ensures ∙ omega (arith, c.if-status_at-ne0.false)) }

pub returns : goal.returns
returns c =
    let small : Small c.args.m.now = search rules in
    let forms : forms_encoder c.args.m.now ≡ true = sym c.forms_encoder.ensures ∙ c.if-not-forms_encoder.false in
    let looked : find_from c.args.m.now c.args.index (count_of c.args.m.now) 0 ≡ c.find-f.result = let m = c.args.m.now in
    sym (c.find-f.ensures ∙ ap (λ (i : TableIndex). find_from m i.value (count_of m) 0) c.new-i.ensures) in
    let at : found c.args.m.now c.args.index c.in-Ok.place = looked ∙ c.in-Ok.is in
    let a = c.args in
    let e = delete-found a.m.now small forms a.index a.out.now c.if-index.false c.if-index-2.false _ at in
    let d = c.delete_found.ensures in record { result_value = answer-of e d.result_value; m_after = memory-of e d.m_after; out_after = output-of e d.out_after }
