use mathlib.Core.Path.{refl}
use native.Mathlib.Omega.{arith}
use borrow.Author.Rules.{rules}
use Rattle.wire.proofs.TextBounds.{string-size}
use Rattle.decoder.proofs.Standing.{formed, meets, changes, long}
use Rattle.decoder_insert.proofs.Naming.{row-name}
use Rattle.decoder_insert.proofs.Insertion.{sized, insert-refused, insert-vacant, insert-opening, insert-done}
use Rattle.decoder_insert.proofs.insert.insert_by_row.Goals as goal

pub name_length_at-name-requires : goal.name_length_at-name-requires
name_length_at-name-requires c =
    let stands = formed c.args.m.now c.requires.fine_index.1 (search rules) in
    ((row-name _ stands _ _ c.requires.m_value).0, omega (arith, long _ stands))

pub judge-j-requires : goal.judge-j-requires
judge-j-requires c =
    let stands = formed c.args.m.now c.requires.fine_index.1 (search rules) in
    let p = c.requires in
    let short = (row-name _ stands _ _ p.m_value).1 in
    (p.fine_index.0.0, omega (arith, c.name_length_at-name.ensures.0, c.length.ensures, p.in_string.1), p.fine_index.1)

pub returns-in_default : goal.returns-in_default
returns-in_default c =
    let stands = formed c.args.m.now c.requires.fine_index.1 (search rules) in
    let judgement = sized (row-name _ stands _ _ c.requires.m_value).2 (string-size _ _ c.requires.in_string.0) (omega (arith, c.name_length_at-name.ensures.0, c.name_length_at-name.ensures.1)) c.name_length_at-name.ensures.0 c.length.ensures c.judge-j.ensures in
    let all = meets
    (insert-refused _ stands _ _ _ _ _ _ _ judgement _ c.unwrap_err.ensures)
    c.because.ensures refl in record { result_value = all.0; m_after = all.1 }

pub insert_like-requires : goal.insert_like-requires
insert_like-requires c =
    let stands = formed c.args.m.now c.requires.fine_index.1 (search rules) in
    let judgement = sized (row-name _ stands _ _ c.requires.m_value).2 (string-size _ _ c.requires.in_string.0) (omega (arith, c.name_length_at-name.ensures.0, c.name_length_at-name.ensures.1)) c.name_length_at-name.ensures.0 c.length.ensures c.judge-j.ensures in
    let e = c.in-Ok.is in record {
      in_string = c.requires.in_string.0;
      named_here = (changes _ stands).named _ _ _ _ (insert-vacant _ stands _ _ _ 0 _ _ _ judgement _ e) c.requires.m_value;
      opening = insert-opening _ stands _ _ _ 0 _ _ _ judgement _ e;
    }

pub returns : goal.returns
returns c =
    let stands = formed c.args.m.now c.requires.fine_index.1 (search rules) in
    let judgement = sized (row-name _ stands _ _ c.requires.m_value).2 (string-size _ _ c.requires.in_string.0) (omega (arith, c.name_length_at-name.ensures.0, c.name_length_at-name.ensures.1)) c.name_length_at-name.ensures.0 c.length.ensures c.judge-j.ensures in
    let all = meets
    (insert-done _ stands _ _ _ _ _ _ _ judgement _ c.in-Ok.is c.requires.fine_index.0)
    c.done.ensures c.insert_like.ensures in record { result_value = all.0; m_after = all.1 }
