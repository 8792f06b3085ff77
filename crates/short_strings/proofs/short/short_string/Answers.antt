use mathlib.Core.Path.{sym, ap, ◌∙◌}
use Prim.Native.Nat.{◌+◌}
use Rattle.wire.specs.declared.text.StringPlace.{StringPlace}
use Rattle.std.specs.Prelude.{Some}
use Rattle.short_strings.proofs.ShortStrings.{short-string-none, short-string-long, short-string-cut, short-string-found}
use Rattle.short_strings.proofs.short.short_string.Goals as goal

-- `short::short_string` gives what `short_string_at` says: one equation of it for each way through the function.
pub returns-then-s-at : goal.returns-then-s-at
returns-then-s-at c = sym (short-string-none _ _ c.if-s-at.true)

pub returns-then-length-ge-ONES7 : goal.returns-then-length-ge-ONES7
returns-then-length-ge-ONES7 c = sym (short-string-long _ _ c.if-s-at.false _ c.wide-length.ensures.0 c.if-length-ge-ONES7.true)

pub returns-then-left-size : goal.returns-then-left-size
returns-then-left-size c = sym (short-string-cut _ _ c.if-s-at.false _ c.wide-length.ensures.0 c.if-length-ge-ONES7.false c.if-left-size.true)

pub returns : goal.returns
returns c =
    let d = c in
    let a = d.args in
    ap (λ (p : StringPlace). Some (p, a.at + 1 + d.wide-length.result)) c.plain.ensures
    ∙ sym (short-string-found _ _ d.if-s-at.false _ d.wide-length.ensures.0 c.if-length-ge-ONES7.false c.if-left-size.false)
