use mathlib.Core.Path.{refl, sym, ◌∙◌}
use Prim.Native.Nat.{◌<◌}
use native.Mathlib.Omega.{arith}
use Rattle.table_laws.specs.DecoderChanges.{found}
use Rattle.decoder.proofs.Standing.{formed, meets, changes, long}
use Rattle.decoder_read.proofs.Deletion.{list-fine, delete-vacant, delete-again, delete-kept}
use borrow.Author.Rules.{rules}
use Rattle.decoder_read.proofs.read.delete.Goals as goal

pub find-f-requires : goal.find-f-requires
find-f-requires c =
    let stands = formed c.args.m.now c.requires.fine_index.1 (search rules) in
    (c.requires.fine_index.0.0, (changes _ stands).ordered)

pub returns-in_default : goal.returns-in_default
returns-in_default c =
    let stands = formed c.args.m.now c.requires.fine_index.1 (search rules) in
    let seek = c in let all = meets
    (delete-vacant _ stands _ _ _ (sym seek.find-f.ensures ∙ c.in_default.is))
    c.because.ensures refl in record { result_value = all.0; m_after = all.1 }

pub status_at-requires : goal.status_at-requires
status_at-requires c =
    let stands = formed c.args.m.now c.requires.fine_index.1 (search rules) in
    let place_found_lem : let a = c.args in found a.m.now a.index.value c.in-Ok.place = sym c.find-f.ensures ∙ c.in-Ok.is in
    let near : c.in-Ok.place < 128 = let C = changes _ stands in
    omega (arith, (C.here _ _ place_found_lem).0, C.ordered.few) in
    (near, omega (arith, long _ stands))

pub returns-then-status_at-ne0 : goal.returns-then-status_at-ne0
returns-then-status_at-ne0 c =
    let stands = formed c.args.m.now c.requires.fine_index.1 (search rules) in
    let place_found_lem : let a = c.args in found a.m.now a.index.value c.in-Ok.place = sym c.find-f.ensures ∙ c.in-Ok.is in
    let row = c in let all = meets
    (delete-again _ stands _ _ _ place_found_lem (λ z. omega (arith, c.status_at.ensures, c.if-status_at-ne0.true)))
    c.because-then-status_at-ne0.ensures refl in record { result_value = all.0; m_after = all.1 }

pub append_delete-requires : goal.append_delete-requires
append_delete-requires c =
    let stands = formed c.args.m.now c.requires.fine_index.1 (search rules) in
    let place_found_lem : let a = c.args in found a.m.now a.index.value c.in-Ok.place = sym c.find-f.ensures ∙ c.in-Ok.is in
    let near : c.in-Ok.place < 128 = let C = changes _ stands in
    omega (arith, (C.here _ _ place_found_lem).0, C.ordered.few) in
    let row = c in
    let st = stands in
    let room = (changes _ st).room _ _ place_found_lem (omega (arith, c.status_at.ensures, c.if-status_at-ne0.false)) in
    record { place_bound = (near, omega arith, long _ st); in_list = search rules }

pub returns : goal.returns
returns c =
    let stands = formed c.args.m.now c.requires.fine_index.1 (search rules) in
    let place_found_lem : let a = c.args in found a.m.now a.index.value c.in-Ok.place = sym c.find-f.ensures ∙ c.in-Ok.is in
    let test = c in
    let row = test in
    let lists = row.requires.in_list in let all = meets
    (delete-kept _ stands _ _ _ place_found_lem (omega (arith, test.status_at.ensures, test.if-status_at-ne0.false))
    (list-fine _ _ lists.0) (list-fine _ _ lists.1))
    c.done.ensures c.append_delete.ensures in record { result_value = all.0; m_after = all.1 }
