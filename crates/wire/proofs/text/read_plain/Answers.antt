use mathlib.Core.Path.{sym, ap, ◌∙◌}
use Prim.Native.Nat.{◌+◌}
use Rattle.wire.specs.declared.text.StringPlace.{StringPlace}
use Rattle.wire.proofs.Strings.{after-long, after-cut, plain-found}
use Rattle.wire.proofs.text.read_plain.Goals as goal
use Rattle.std.specs.Prelude.{Ok}

-- `text::read_plain` gives what `string_after` says of a plain string: one equation of it for each way through the function.
pub returns-then-limit-size : goal.returns-then-limit-size
returns-then-limit-size c = sym (after-long _ _ _ _ _ c.if-limit-size.true)

pub returns-then-s-start : goal.returns-then-s-start
returns-then-s-start c = sym (after-cut _ _ _ _ _ c.if-limit-size.false c.if-s-start.true)

pub returns : goal.returns
returns c =
    let a = c.args in
    ap (λ (p : StringPlace). Ok (p, a.start + a.size)) c.plain.ensures
    ∙ sym (plain-found _ _ _ _ c.if-limit-size.false c.if-s-start.false)
