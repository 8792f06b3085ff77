use mathlib.Core.Path.{sym, ap, ◌∙◌}
use native.Mathlib.Omega.{arith}
use Rattle.integers.specs.declared.number.TableIndex.{TableIndex}
use Rattle.integers.proofs.Bounds.{int-good}
use Rattle.wire.specs.declared.name.NamePlace.TheVariants.{Index}
use Rattle.wire.proofs.Strings.{name-refused, name_index, name-text-refused, name-text}
use Rattle.wire.proofs.name.read_name.Goals as goal
use Rattle.std.specs.Prelude.{Ok}

pub returns-in_default : goal.returns-in_default
returns-in_default c =
    sym (name-refused _ _ _ _ c.read-r.ensures _ c.unwrap_err.ensures)

pub new-requires : goal.new-requires
new-requires c =
    let u = c in
    omega (arith, c.if-index-ne0.true, int-good _ _ _ u.requires.1 _ u.read-r.ensures _ _ c.in-Ok.is)

pub returns-then-index-ne0 : goal.returns-then-index-ne0
returns-then-index-ne0 c =
    let u = c in
    ap (λ (index : TableIndex). Ok (Index index, u.in-Ok.next)) c.new.ensures
    ∙ sym (name_index _ _ _ _ u.read-r.ensures _ _ u.in-Ok.is c.if-index-ne0.true)

pub returns-in_default-t : goal.returns-in_default-t
returns-in_default-t c =
    let d = c in
    sym (name-text-refused _ _ _ _ d.read-r.ensures _ _ d.in-Ok.is d.if-index-ne0.false
    _ c.read_string-t.ensures _ c.unwrap_err-in_default-t.ensures)

pub returns : goal.returns
returns c =
    let d = c in
    sym (name-text _ _ _ _ d.read-r.ensures _ _ d.in-Ok.is d.if-index-ne0.false
    _ c.read_string-t.ensures _ _ c.in-Ok-t.is)
