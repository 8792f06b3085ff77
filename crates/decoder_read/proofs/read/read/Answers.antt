use mathlib.Core.Path.{refl, sym, ◌∙◌}
use native.Mathlib.Omega.{arith}
use borrow.Author.Rules.{rules}
use Rattle.decoder.proofs.Standing.{formed, meets, carried}
use Rattle.decoder_read.proofs.Instructions.{taken-fits, insert-index, insert-value, insert_named_lem, insert-text, delete-index, delete-lists}
use Rattle.decoder_read.proofs.Calls.{read-no-state, read-refused, read-by-index, read-by-string, read-delete, read-acknowledgement}
use Rattle.decoder_read.proofs.read.read.Goals as goal

pub returns-then-not-forms_decoder : goal.returns-then-not-forms_decoder
returns-then-not-forms_decoder c = let all = meets (read-no-state _ _ (sym c.forms_decoder.ensures ∙ c.if-not-forms_decoder.true)) c.because.ensures refl in record { result_value = all.0; m_after = all.1 }

pub returns-in_default : goal.returns-in_default
returns-in_default c =
    let stands = formed c.args.m.now (sym c.forms_decoder.ensures ∙ c.if-not-forms_decoder.false) (search rules) in
    let all = meets
    (read-refused _ _ stands _ c.read_for_decoder-r.ensures _ c.unwrap_err.ensures)
    c.because-in_default.ensures refl in record { result_value = all.0; m_after = all.1 }

pub overflow_cast-taken : goal.overflow_cast-taken
overflow_cast-taken c =
    let w = c in
    omega (arith, taken-fits _ _ w.read_for_decoder-r.ensures _ _ w.in-Ok.is)

pub insert_by_index-requires : goal.insert_by_index-requires
insert_by_index-requires c =
    let stands = formed c.args.m.now (sym c.forms_decoder.ensures ∙ c.if-not-forms_decoder.false) (search rules) in
    let i = c in
    let told = i.read_for_decoder-r.ensures in
    let found = i.in-Ok.is in
    let e = i.in-Insert.is in record {
      fine_index = (
        insert-index _ _ told _ _ found _ _ _ e,
        stands.forms,
        insert_named_lem _ _ told _ _ found _
            _ _ e _ c.in-Index.is,
      );
      in_string = insert-value _ _ told _ _ found _ _ _ e;
    }

pub overflow_cast-taken-in-Text : goal.overflow_cast-taken-in-Text
overflow_cast-taken-in-Text c =
    let w = c in
    omega (arith, taken-fits _ _ w.read_for_decoder-r.ensures _ _ w.in-Ok.is)

pub insert_by_string-requires : goal.insert_by_string-requires
insert_by_string-requires c =
    let stands = formed c.args.m.now (sym c.forms_decoder.ensures ∙ c.if-not-forms_decoder.false) (search rules) in
    let i = c in
    let told = i.read_for_decoder-r.ensures in
    let found = i.in-Ok.is in
    let e = i.in-Insert.is in
    let t = insert-text _ _ told _ _ found _ _ _ e _ c.in-Text.is in
    let v = insert-value _ _ told _ _ found _ _ _ e in
    record { fine_index = (insert-index _ _ told _ _ found _ _ _ e, stands.forms); in_string = (t.0, t.1, v.0, v.1) }

pub overflow_cast-taken-in-Delete : goal.overflow_cast-taken-in-Delete
overflow_cast-taken-in-Delete c =
    let w = c in
    omega (arith, taken-fits _ _ w.read_for_decoder-r.ensures _ _ w.in-Ok.is)

pub delete-requires : goal.delete-requires
delete-requires c =
    let stands = formed c.args.m.now (sym c.forms_decoder.ensures ∙ c.if-not-forms_decoder.false) (search rules) in
    let w = c in
    let told = w.read_for_decoder-r.ensures in
    let found = w.in-Ok.is in
    let e = c.in-Delete.is in
    record { fine_index = (delete-index _ _ told _ _ found _ _ _ e, stands.forms); in_list = delete-lists _ _ told _ _ found _ _ _ e }

pub returns-in-Index : goal.returns-in-Index
returns-in-Index c =
    let stands = formed c.args.m.now (sym c.forms_decoder.ensures ∙ c.if-not-forms_decoder.false) (search rules) in
    let i = c in
    let w = i in let all = carried
    (read-by-index _ _ stands _ w.read_for_decoder-r.ensures _ _ w.in-Ok.is
    _ _ _ i.in-Insert.is _ c.in-Index.is)
    (c.insert_by_index.ensures.result_value, c.insert_by_index.ensures.m_after) in record { result_value = all.0; m_after = all.1 }

pub returns-in-Text : goal.returns-in-Text
returns-in-Text c =
    let stands = formed c.args.m.now (sym c.forms_decoder.ensures ∙ c.if-not-forms_decoder.false) (search rules) in
    let i = c in
    let w = i in let all = carried
    (read-by-string _ _ stands _ w.read_for_decoder-r.ensures _ _ w.in-Ok.is
    _ _ _ i.in-Insert.is _ c.in-Text.is)
    (c.insert_by_string.ensures.result_value, c.insert_by_string.ensures.m_after) in record { result_value = all.0; m_after = all.1 }

pub returns-in-Delete : goal.returns-in-Delete
returns-in-Delete c =
    let stands = formed c.args.m.now (sym c.forms_decoder.ensures ∙ c.if-not-forms_decoder.false) (search rules) in
    let w = c in let all = carried
    (read-delete _ _ stands _ w.read_for_decoder-r.ensures _ _ w.in-Ok.is _ _ _
    c.in-Delete.is)
    (c.delete.ensures.result_value, c.delete.ensures.m_after) in record { result_value = all.0; m_after = all.1 }

pub returns-in-Acknowledge : goal.returns-in-Acknowledge
returns-in-Acknowledge c =
    let stands = formed c.args.m.now (sym c.forms_decoder.ensures ∙ c.if-not-forms_decoder.false) (search rules) in
    let w = c in let all = meets
    (read-acknowledgement _ _ stands _ w.read_for_decoder-r.ensures _ _ w.in-Ok.is _
    c.in-Acknowledge.is)
    c.because-in-Acknowledge.ensures refl in record { result_value = all.0; m_after = all.1 }
