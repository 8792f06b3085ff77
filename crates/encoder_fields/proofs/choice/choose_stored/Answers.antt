use mathlib.Core.Path.{◌≡◌, sym, ap, ◌∙◌}
use native.Mathlib.Omega.{arith}
use Rattle.memory.specs.Bytes.{Small}
use Rattle.static_search.specs.Search.{find_both}
use Rattle.name_search.proofs.Pairing.{paired-both, paired-name, paired_none}
use Rattle.encoder_fields.specs.Naming.{literal_with}
use Rattle.encoder_fields.specs.Measure.{field_with}
use Rattle.encoder_fields.proofs.Choosing.{choose-static, ordered, serving-row, dynamic-row, dynamic-none, both-row, choose-row, choose-else}
use Rattle.encoder_fields.proofs.choice.choose_stored.Goals as goal
use Rattle.std.specs.Prelude.{Some, None}

pub find_pair-requires : goal.find_pair-requires
find_pair-requires c =
    let small : Small c.args.m.now = λ k. omega (arith, c.type_inv.m k) in
    ordered _ small c.requires

pub row_index-requires : goal.row_index-requires
row_index-requires c =
    let small : Small c.args.m.now = λ k. omega (arith, c.type_inv.m k) in
    (both-row _ small c.requires _ _ _ (paired-both _ _ _ (sym c.find_pair.ensures ∙ c.in-Some-find_pair.is ∙ ap Some c.in-Both.is)), c.requires)

pub row_index-requires-in-Name : goal.row_index-requires-in-Name
row_index-requires-in-Name c =
    let small : Small c.args.m.now = λ k. omega (arith, c.type_inv.m k) in
    (serving-row _ small c.requires _ _ (paired-name _ _ _ (sym c.find_pair.ensures ∙ c.in-Some-find_pair.is ∙ ap Some c.in-Name.is)).1, c.requires)

pub returns-in-Some : goal.returns-in-Some
returns-in-Some c = choose-static _ _ (λ z. omega arith) _ (sym c.find_both.ensures ∙ c.in-Some.is)

pub returns-in-Both : goal.returns-in-Both
returns-in-Both c =
    let small : Small c.args.m.now = λ k. omega (arith, c.type_inv.m k) in
    let gone : find_both c.args.name.now c.args.value.now ≡ None = sym c.find_both.ensures ∙ c.in_default.is in
    choose-row _ small c.requires _ (λ z. omega arith) gone _ (paired-both _ _ _ (sym c.find_pair.ensures ∙ c.in-Some-find_pair.is ∙ ap Some c.in-Both.is))
    _ c.row_index.ensures

pub returns-in-Name : goal.returns-in-Name
returns-in-Name c =
    let small : Small c.args.m.now = λ k. omega (arith, c.type_inv.m k) in
    let gone : find_both c.args.name.now c.args.value.now ≡ None = sym c.find_both.ensures ∙ c.in_default.is in
    let e = paired-name _ _ _ (sym c.find_pair.ensures ∙ c.in-Some-find_pair.is ∙ ap Some c.in-Name.is) in
    choose-else _ small c.requires (field_with 0 c.args.name.now c.args.value.now) (λ z. omega arith) gone e.0 (omega arith)
    (Some c.row_index-in-Name.result) (dynamic-row _ small c.requires _ _ e.1 _ c.row_index-in-Name.ensures)
    _ (c.literal-in-Name.ensures ∙ ap literal_with c.static_first-in-Name.ensures)

pub returns-in_default-find_pair : goal.returns-in_default-find_pair
returns-in_default-find_pair c =
    let small : Small c.args.m.now = λ k. omega (arith, c.type_inv.m k) in
    let gone : find_both c.args.name.now c.args.value.now ≡ None = sym c.find_both.ensures ∙ c.in_default.is in
    let e = paired_none _ _ (sym c.find_pair.ensures ∙ c.in_default-find_pair.is) in
    choose-else _ small c.requires (field_with 0 c.args.name.now c.args.value.now) (λ z. omega arith) gone e.0 (omega arith)
    None (dynamic-none _ small c.requires _ e.1)
    _ (c.literal.ensures ∙ ap literal_with c.static_first.ensures)
