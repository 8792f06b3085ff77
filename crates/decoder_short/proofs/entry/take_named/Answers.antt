use mathlib.Core.Path.{◌≡◌, refl, sym, ap, ◌∙◌}
use native.Mathlib.Omega.{arith}
use Rattle.integers.specs.Integer.{read_int}
use Rattle.integers.specs.declared.number.TableIndex.{TableIndex}
use Rattle.integers.proofs.Bounds.{int-good}
use Rattle.integers.proofs.Short.{short-int-reads}
use Rattle.wire.specs.declared.name.NamePlace.TheVariants.{Index}
use Rattle.wire.proofs.Strings.{name_index}
use Rattle.decoder_short.proofs.entry.take_named.Goals as goal
use Rattle.std.specs.Prelude.{Ok}

pub new-requires : goal.new-requires
new-requires c =
    let read : let a = c.args in read_int 6 a.s.now a.at ≡ Ok (c.in-Some.n, c.in-Some.next) = (short-int-reads 6 _ _ (omega arith) (omega arith) _ _ (sym c.short-r.ensures ∙ c.in-Some.is)).0 in
    let g = int-good 6 _ _ (omega arith) _ refl _ _ read in (omega (arith, c.if-value-eq0.false), g.2)

pub take_value-requires : goal.take_value-requires
take_value-requires c =
    let read : let a = c.args in read_int 6 a.s.now a.at ≡ Ok (c.in-Some.n, c.in-Some.next) = (short-int-reads 6 _ _ (omega arith) (omega arith) _ _ (sym c.short-r.ensures ∙ c.in-Some.is)).0 in
    let e = name_index 6 _ _ _ refl c.in-Some.n c.in-Some.next read (λ z. omega (arith, z, c.if-value-eq0.false)) in
    record { text_value = c.requires; at_value = e ∙ ap (λ (i : TableIndex). Ok (Index i, c.in-Some.next)) (sym c.new.ensures) }
