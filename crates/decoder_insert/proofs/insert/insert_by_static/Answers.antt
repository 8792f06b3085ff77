use mathlib.Core.Path.{refl, sym, ap, ◌∙◌}
use Prim.Native.Nat.{ℕ}
use native.Mathlib.Omega.{arith}
use borrow.Author.Rules.{rules}
use mathlib.Core.List.{List}
use lib.ListN.{length}
use Rattle.wire.specs.Text.{string_bytes}
use Rattle.wire.proofs.TextBounds.{string-size}
use Rattle.statics.proofs.Places.{name-most}
use Rattle.table.specs.Changes.{inserted}
use Rattle.decoder.proofs.Standing.{formed, meets}
use Rattle.decoder_insert.proofs.Insertion.{sized, insert-refused, insert-opening, insert-done}
use Rattle.decoder_insert.proofs.insert.insert_by_static.Goals as goal

pub judge-j-requires : goal.judge-j-requires
judge-j-requires c =
    let p = c.requires in
    let short = name-most c.args.named.value in
    (p.fine_index.0.0, omega (arith, ap length c.static_name-name.ensures, c.length.ensures, p.in_string.1), p.fine_index.1)

pub returns-in_default : goal.returns-in_default
returns-in_default c =
    let stands = formed c.args.m.now c.requires.fine_index.1 (search rules) in
    let judgement = sized (ap length (sym c.static_name-name.ensures)) (string-size _ _ c.requires.in_string.0) (omega (arith, ap length c.static_name-name.ensures, name-most c.args.named.value)) refl c.length.ensures c.judge-j.ensures in
    let all = meets
    (insert-refused _ stands _ _ _ _ _ _ _ judgement _ c.unwrap_err.ensures)
    c.because.ensures refl in record { result_value = all.0; m_after = all.1 }

pub insert_named-requires : goal.insert_named-requires
insert_named-requires c =
    let stands = formed c.args.m.now c.requires.fine_index.1 (search rules) in
    let judgement = sized (ap length (sym c.static_name-name.ensures)) (string-size _ _ c.requires.in_string.0) (omega (arith, ap length c.static_name-name.ensures, name-most c.args.named.value)) refl c.length.ensures c.judge-j.ensures in
    let w = c in record { in_string = c.requires.in_string.0; opening = insert-opening _ stands _ _ _ 0 _ _ _ judgement _ c.in-Ok.is }

pub returns : goal.returns
returns c =
    let stands = formed c.args.m.now c.requires.fine_index.1 (search rules) in
    let judgement = sized (ap length (sym c.static_name-name.ensures)) (string-size _ _ c.requires.in_string.0) (omega (arith, ap length c.static_name-name.ensures, name-most c.args.named.value)) refl c.length.ensures c.judge-j.ensures in
    let a = c.args in
    let put : List ℕ → List ℕ = λ name. inserted a.m.now c.in-Ok.place a.index.value name (string_bytes a.s.now a.value) in
    let all = meets
    (insert-done _ stands _ _ _ _ _ _ _ judgement _ c.in-Ok.is
    c.requires.fine_index.0)
    c.done.ensures
    (◌∙◌ {b = put c.static_name-name.result.now} c.insert_named.ensures (ap put
    c.static_name-name.ensures)) in record { result_value = all.0; m_after = all.1 }
