use mathlib.Core.Path.{sym, ◌∙◌}
use native.Mathlib.Omega.{arith}
use Rattle.integers.proofs.Bounds.{int-good}
use Rattle.wire.proofs.Strings.{string-short, string-refused, string-plain, string-packed}
use Rattle.wire.proofs.text.read_string.Goals as goal

-- `text::read_string` gives what `read_string` says: one equation of it for each way through the function.
-- That the place after the length is in the input is `int-good`.
pub returns-then-s-at : goal.returns-then-s-at
returns-then-s-at c = sym (string-short _ _ _ c.if-s-at.true)

pub returns-in_default : goal.returns-in_default
returns-in_default c =
    let d = c in
    sym (string-refused _ _ _ d.if-s-at.false _ d.read-r.ensures _ c.unwrap_err.ensures)

pub read_packed-requires : goal.read_packed-requires
read_packed-requires c =
    let d = c in
    (d.requires, (int-good 7 _ _ (omega arith) _ d.read-r.ensures _ _ c.in-Ok.is).1)

pub returns-then-first-ge-H_BIT : goal.returns-then-first-ge-H_BIT
returns-then-first-ge-H_BIT c =
    let d = c in
    c.read_packed.ensures
    ∙ sym (string-packed _ _ _ d.if-s-at.false _ d.read-r.ensures _ _ c.in-Ok.is c.if-first-ge-H_BIT.true)

pub read_plain-requires : goal.read_plain-requires
read_plain-requires c =
    let d = c in
    (int-good 7 _ _ (omega arith) _ d.read-r.ensures _ _ c.in-Ok.is).1

pub returns : goal.returns
returns c =
    let d = c in
    c.read_plain.ensures
    ∙ sym (string-plain _ _ _ d.if-s-at.false _ d.read-r.ensures _ _ c.in-Ok.is c.if-first-ge-H_BIT.false)
