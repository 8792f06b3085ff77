use mathlib.Core.Path.{refl, ap, ◌∙◌}
use Rattle.std.specs.Prelude.{Some}
use borrow.Author.Rules.{rules}
use Rattle.decoder.proofs.Standing.{formed, meets, carried, changes}
use Rattle.decoder_insert.proofs.Naming.{name-static, name-row, name-nowhere, indexed-named, indexed-vacant}
use Rattle.decoder_insert.proofs.insert.insert_by_index.Goals as goal

pub locate-requires : goal.locate-requires
locate-requires c =
    let stands = formed c.args.m.now c.requires.fine_index.1 (search rules) in
    (c.requires.fine_index.2, (changes _ stands).ordered)

pub insert_by_static-requires : goal.insert_by_static-requires
insert_by_static-requires c =
    let stands = formed c.args.m.now c.requires.fine_index.1 (search rules) in
    let p = c.requires in
    let n = name-static _ stands _ _ c.locate.ensures _ (c.in-Some.is ∙ ap Some c.in-Static.is) in
    record { fine_index = (p.fine_index.0, p.fine_index.1, n.0.0, n.0.1); in_string = p.in_string }

pub insert_by_row-requires : goal.insert_by_row-requires
insert_by_row-requires c =
    let stands = formed c.args.m.now c.requires.fine_index.1 (search rules) in
    record {
      fine_index = (c.requires.fine_index.0, c.requires.fine_index.1);
      m_value = (name-row _ stands _ _ c.locate.ensures _ (c.in-Some.is ∙ ap Some c.in-Dynamic.is)).0;
      in_string = c.requires.in_string;
    }

pub returns-in-Static : goal.returns-in-Static
returns-in-Static c =
    let stands = formed c.args.m.now c.requires.fine_index.1 (search rules) in
    let n = name-static _ stands _ _ c.locate.ensures _ (c.in-Some.is ∙ ap Some c.in-Static.is) in let all = carried (indexed-named _ stands _ _ _ _ _ n.2) (c.insert_by_static.ensures.result_value, c.insert_by_static.ensures.m_after) in record { result_value = all.0; m_after = all.1 }

pub returns-in-Dynamic : goal.returns-in-Dynamic
returns-in-Dynamic c =
    let stands = formed c.args.m.now c.requires.fine_index.1 (search rules) in
    let n = name-row _ stands _ _ c.locate.ensures _ (c.in-Some.is ∙ ap Some c.in-Dynamic.is) in let all = carried (indexed-named _ stands _ _ _ _ _ n.1) (c.insert_by_row.ensures.result_value, c.insert_by_row.ensures.m_after) in record { result_value = all.0; m_after = all.1 }

pub returns-in_default : goal.returns-in_default
returns-in_default c =
    let stands = formed c.args.m.now c.requires.fine_index.1 (search rules) in
    let all = meets (indexed-vacant _ stands _ _ _ _ (name-nowhere _ stands _ _ c.locate.ensures c.in_default.is)) c.because.ensures refl in record { result_value = all.0; m_after = all.1 }
