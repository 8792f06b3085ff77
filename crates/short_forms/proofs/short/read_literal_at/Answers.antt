use mathlib.Core.Path.{sym, ap, ◌∙◌}
use Prim.Native.Nat.{ℕ}
use Rattle.wire.specs.declared.name.NamePlace.TheVariants.{Index}
use Rattle.blocks.specs.declared.read.RepresentationPlace.TheVariants.{Literal}
use Rattle.blocks.proofs.Equations.{representation-literal}
use Rattle.short_forms.proofs.ShortReads.{short-named-reads}
use Rattle.short_forms.proofs.short.read_literal_at.Goals as goal
use Rattle.std.specs.Prelude.{Ok}

pub returns-in_default : goal.returns-in_default
returns-in_default c =
    let p = c.requires in
    c.read_literal.ensures ∙ sym (representation-literal _ _ p.0 p.1)

pub returns : goal.returns
returns c =
    let p = c.requires in
    let w = c.in-Some in
    ap (λ (b : ℕ). Ok (Literal b (Index w.index) w.value, w.next)) c.flag_of-flag.ensures
    ∙ sym (short-named-reads _ _ p.0 p.1 _ _ _ (sym c.short_named-n.ensures ∙ w.is))
