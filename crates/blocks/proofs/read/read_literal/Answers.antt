use mathlib.Core.Path.{sym}
use Rattle.std.proofs.lemmas.Result.{err_from_is_err_and}
use Rattle.blocks.proofs.Equations.{literal-name-refused, literal-value-refused, literal-found}
use Rattle.blocks.proofs.read.read_literal.Goals as goal

pub returns-in_err-name : goal.returns-in_err-name
returns-in_err-name c =
    let p = err_from_is_err_and c.from_residual.result c.from_residual.ensures.1 in
    rw (p.1, p.2) (sym (literal-name-refused _ _ _ c.read_name.ensures _ c.in_err-name.was))

pub returns-in_default : goal.returns-in_default
returns-in_default c = sym (literal-value-refused _ _ _ c.read_name.ensures _ _ c.in_ok-name.was _ c.read_string-v.ensures _ c.unwrap_err.ensures)

pub returns : goal.returns
returns c =
    rw c.flag_of-flag.ensures
    (sym (literal-found _ _ _ c.read_name.ensures _ _ c.in_ok-name.was _ c.read_string-v.ensures _ _ c.in-Ok.is))
