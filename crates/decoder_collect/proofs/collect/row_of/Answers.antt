use native.Mathlib.Omega.{arith}
use borrow.Author.Rules.{rules}
use mathlib.Core.Path.{◌≡◌, sym, ap, ◌∙◌}
use Rattle.integers.specs.declared.number.TableIndex.{TableIndex}
use Rattle.state.specs.Layout.{count_of, delete_index_at}
use Rattle.table_search.specs.Search.{find_from}
use Rattle.decoder_collect.proofs.ReadyDeletes.{formed, changes, good, fine, row_at, row-there}
use Rattle.decoder_collect.proofs.collect.row_of.Goals as goal

pub delete_index_at-requires : goal.delete_index_at-requires
delete_index_at-requires c =
    let stands = formed c.args.m.now c.requires.1 (search rules) in
    let g = good _ stands _ c.requires.0 in (g.few, g.long)

pub new-requires : goal.new-requires
new-requires c =
    let stands = formed c.args.m.now c.requires.1 (search rules) in
    let f = fine _ stands _ c.requires.0 in
    omega (arith, c.delete_index_at.ensures, f.0, f.1)

pub find-requires : goal.find-requires
find-requires c =
    let stands = formed c.args.m.now c.requires.1 (search rules) in
    let f = fine _ stands _ c.requires.0 in
    rw c.new.ensures (omega (arith, c.delete_index_at.ensures, f.0), (changes _ stands).ordered)

pub returns-in-Ok : goal.returns-in-Ok
returns-in-Ok c =
    let stands = formed c.args.m.now c.requires.1 (search rules) in
    let sought : let a = c.args in c.find.result ≡ find_from a.m.now (delete_index_at a.m.now a.k) (count_of a.m.now) 0 = let m = c.args.m.now in
    c.find.ensures ∙ ap (λ (i : TableIndex). find_from m i.value (count_of m) 0) c.new.ensures
    ∙ ap (λ (x : _). find_from m x (count_of m) 0) c.delete_index_at.ensures in
    let e = sym sought ∙ c.in-Ok.is in
    (e, row_at _ stands _ c.requires.0 _ e)

pub returns-in-Err : goal.returns-in-Err
returns-in-Err c =
    let stands = formed c.args.m.now c.requires.1 (search rules) in
    let sought : let a = c.args in c.find.result ≡ find_from a.m.now (delete_index_at a.m.now a.k) (count_of a.m.now) 0 = let m = c.args.m.now in
    c.find.ensures ∙ ap (λ (i : TableIndex). find_from m i.value (count_of m) 0) c.new.ensures
    ∙ ap (λ (x : _). find_from m x (count_of m) 0) c.delete_index_at.ensures in
    let e = sym sought ∙ c.in-Err.is in
    absurd (row-there _ stands _ c.requires.0 _ e)
