use Rattle.std.proofs.Common.{◌≡◌, ℕ, ◌+◌, ◌≤◌, refl, ap, ◌∙◌, length, arith}
use Rattle.integers.specs.declared.number.TableIndex.{TableIndex}
use Rattle.statics.specs.Table.{static_value, place_of}
use Rattle.static_search.specs.Ends.{ends_of}
use Rattle.static_search.specs.Hash.{has_value}
use Rattle.statics.proofs.Places.{place-stands, value-small}
use Rattle.static_search.proofs.Testing.{value-other}
use Rattle.static_search.proofs.Words.{ends-same}
use Rattle.static_search.proofs.Values.{value-few}
use Rattle.static_lookup.proofs.lookup.has_value.Goals as goal

abbrev number : TableIndex → ℕ
number index = index.value

-- Lengths that differ decide, and else the two ends do.
pub static_place-p-requires : goal.static_place-p-requires
static_place-p-requires c = let e = ap number c.new-index.ensures in (omega arith, omega arith)

pub returns-then-n-value : goal.returns-then-n-value
returns-then-n-value c =
    let i : ℕ = c.args.first.value + c.args.behind in
    let stands = place-stands i refl (c.static_place-p.ensures ∙ ap place_of (ap number c.new-index.ensures)) (omega arith, omega arith) in
    value-other _ stands _ c.if-n-value.true

pub value_ends-requires : goal.value_ends-requires
value_ends-requires c = let e = ap number c.new-index.ensures in (omega arith, omega arith)

pub returns : goal.returns
unfolding has_value
returns c =
    let i : ℕ = c.args.first.value + c.args.behind in
    let e = ap number c.new-index.ensures in
    let lo : 1 ≤ i = omega arith in
    let stands = place-stands i refl (c.static_place-p.ensures ∙ ap place_of e) (lo, c.requires.le_value.1) in
    let l : length (static_value i) ≡ length c.args.value.now = stands.value_length ∙ c.if-n-value.false in
    let f : length c.args.value.now ≤ 16 = omega (arith, value-few i lo c.requires.le_value.1) in
    c.eq.ensures
    ∙ ends-same _ _ (value-small i) (λ k. omega (arith, c.type_inv.value k)) l f
    (c.value_ends.ensures ∙ ap (λ (k : ℕ). ends_of (static_value k)) e) c.ends_of.ensures
