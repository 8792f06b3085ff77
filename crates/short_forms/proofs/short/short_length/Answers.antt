use mathlib.Core.Path.{sym, ap, ◌∙◌}
use native.Mathlib.Omega.{arith}
use Rattle.std.specs.Prelude.{Some}
use Rattle.short_forms.proofs.ShortEquations.{length-short, length-long}
use Rattle.short_forms.proofs.short.short_length.Goals as goal

pub returns-then-n-ge-ONES7 : goal.returns-then-n-ge-ONES7
returns-then-n-ge-ONES7 c = sym (length-long _ (omega (arith, c.wide-n.ensures.0, c.if-n-ge-ONES7.true)))

pub returns : goal.returns
returns c = ap Some c.wide-n.ensures.0 ∙ sym (length-short _ (omega (arith, c.wide-n.ensures.0, c.if-n-ge-ONES7.false)))
