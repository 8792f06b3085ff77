use Rattle.std.proofs.Common.{◌∙◌, arith}
use Rattle.static_search.specs.Search.{has_name}
use Rattle.statics.proofs.Places.{place-stands, name-small}
use Rattle.static_search.proofs.Compared.{compared-fits}
use Rattle.static_search.proofs.Testing.{name-same, name-end}
use Rattle.static_search.proofs.Words.{ends-same}
use Rattle.static_lookup.proofs.lookup.has_name.Goals as goal

-- The candidate is an entry whose name has the right length. The two ends of a short name decide. A long one is compared in the text, where the entry
-- stands at its place.
pub name_ends-requires : goal.name_ends-requires
name_ends-requires c = let f = compared-fits _ _ c.requires in (f.0, f.1)

pub returns-then-n-le-TWO_WORDS : goal.returns-then-n-le-TWO_WORDS
unfolding has_name
returns-then-n-le-TWO_WORDS c =
    c.eq.ensures
    ∙ ends-same _ _ (name-small c.args.index.value) (λ k. omega (arith, c.type_inv.name k)) (compared-fits _ _ c.requires).2 c.if-n-le-TWO_WORDS.true
    c.name_ends.ensures c.ends_of.ensures

pub static_place-requires : goal.static_place-requires
static_place-requires c = let f = compared-fits _ _ c.requires in (f.0, f.1)

pub same-requires : goal.same-requires
same-requires c =
    let f = compared-fits _ _ c.requires in
    let stood = place-stands c.args.index.value c.static_text-text.ensures c.static_place.ensures (f.0, f.1) in
    (name-end _ stood c.args.name.now f.2, omega arith)

pub returns : goal.returns
returns c =
    let f = compared-fits _ _ c.requires in
    let stood = place-stands c.args.index.value c.static_text-text.ensures c.static_place.ensures (f.0, f.1) in
    c.same.ensures ∙ name-same _ stood c.args.name.now f.2
