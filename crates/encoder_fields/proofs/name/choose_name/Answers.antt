use mathlib.Core.Path.{◌≡◌, sym, ◌∙◌}
use native.Mathlib.Omega.{arith}
use Rattle.memory.specs.Bytes.{Small}
use Rattle.static_search.specs.Search.{find_name}
use Rattle.encoder_fields.proofs.Choosing.{ordered, serving-row, name-static, name-first, dynamic-row, dynamic-none}
use Rattle.encoder_fields.proofs.name.choose_name.Goals as goal
use Rattle.std.specs.Prelude.{Some, None}

pub find_name-requires-in-None : goal.find_name-requires-in-None
find_name-requires-in-None c =
    let small : Small c.args.m.now = λ k. omega (arith, c.type_inv.m k) in
    let s = c in ordered _ small s.requires

pub row_index-requires : goal.row_index-requires
row_index-requires c =
    let small : Small c.args.m.now = λ k. omega (arith, c.type_inv.m k) in
    let s = c in
    (serving-row _ small s.requires _ _ (sym c.find_name-in-None.ensures ∙ c.in-Some-find_name.is), s.requires)

pub returns-in-Some : goal.returns-in-Some
returns-in-Some c = name-static _ _ _ (sym c.find_name.ensures ∙ c.in-Some.is)

pub returns-in-Some-find_name : goal.returns-in-Some-find_name
returns-in-Some-find_name c =
    let small : Small c.args.m.now = λ k. omega (arith, c.type_inv.m k) in
    let gone : find_name c.args.name.now ≡ None = sym c.find_name.ensures ∙ c.in-None.is in
    let s = c in
    let found = sym c.find_name-in-None.ensures ∙ c.in-Some-find_name.is in
    name-first _ _ None gone (Some c.row_index.result) (dynamic-row _ small s.requires _ _ found _ c.row_index.ensures)

pub returns-in-None-find_name : goal.returns-in-None-find_name
returns-in-None-find_name c =
    let small : Small c.args.m.now = λ k. omega (arith, c.type_inv.m k) in
    let gone : find_name c.args.name.now ≡ None = sym c.find_name.ensures ∙ c.in-None.is in
    let s = c in
    let none = sym c.find_name-in-None.ensures ∙ c.in-None-find_name.is in
    name-first _ _ None gone None (dynamic-none _ small s.requires _ none)
