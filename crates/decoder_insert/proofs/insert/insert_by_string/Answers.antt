use mathlib.Core.Path.{refl, sym, ap, ◌∙◌}
use borrow.Author.Rules.{rules}
use Rattle.integers.specs.Answers.{Answer}
use Rattle.wire.proofs.TextBounds.{string-size}
use Rattle.decoder.proofs.Standing.{formed, meets}
use Rattle.decoder_insert.specs.Inserts.{judged_number}
use Rattle.decoder_insert.proofs.Insertion.{sized, insert-refused, insert-opening, insert-done}
use Rattle.decoder_insert.proofs.insert.insert_by_string.Goals as goal

pub returns-in_default : goal.returns-in_default
returns-in_default c =
    let stands = formed c.args.m.now c.requires.fine_index.1 (search rules) in
    let judgement = sized (string-size _ _ c.requires.in_string.0) (string-size _ _ c.requires.in_string.2) c.requires.in_string.1 c.length.ensures c.length-2.ensures c.judge-j.ensures in
    let all = meets
    (insert-refused _ stands _ _ _ _ _ _ _ judgement _ c.unwrap_err.ensures)
    c.because.ensures refl in
    record {
      result_value = all.0;
      m_after = all.1;
      number = ap (λ (a : Answer). a.number) c.because.ensures ∙ sym (ap judged_number (sym judgement.told ∙ c.unwrap_err.ensures));
    }

pub insert_strings-requires : goal.insert_strings-requires
insert_strings-requires c =
    let stands = formed c.args.m.now c.requires.fine_index.1 (search rules) in
    let judgement = sized (string-size _ _ c.requires.in_string.0) (string-size _ _ c.requires.in_string.2) c.requires.in_string.1 c.length.ensures c.length-2.ensures c.judge-j.ensures in
    let texts = c.requires.in_string in
    record { in_string = (texts.0, texts.2); opening = insert-opening _ stands _ _ _ 0 _ _ _ judgement _ c.in-Ok.is }

pub returns : goal.returns
returns c =
    let stands = formed c.args.m.now c.requires.fine_index.1 (search rules) in
    let judgement = sized (string-size _ _ c.requires.in_string.0) (string-size _ _ c.requires.in_string.2) c.requires.in_string.1 c.length.ensures c.length-2.ensures c.judge-j.ensures in
    let all = meets
    (insert-done _ stands _ _ _ _ _ _ _ judgement _
    c.in-Ok.is c.requires.fine_index.0)
    c.done.ensures c.insert_strings.ensures in
    record {
      result_value = all.0;
      m_after = all.1;
      number = ap (λ (a : Answer). a.number) c.done.ensures ∙ sym (ap judged_number (sym judgement.told ∙ c.in-Ok.is));
    }
