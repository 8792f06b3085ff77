use mathlib.Core.Path.{refl}
use native.Mathlib.Omega.{arith}
use Rattle.fields.proofs.Again.{flag-inside, name-inside, value-inside, field-again}
use Rattle.fields.proofs.read.field_at.Goals as goal

-- `field_at` meets its contract: its texts stand where `text_start` tells, which is where a field that reads well has them.
pub overflow_add-at : goal.overflow_add-at
overflow_add-at c = omega (arith, flag-inside c.args.s.now c.args.at c.requires)

pub text_start-name-requires : goal.text_start-name-requires
text_start-name-requires c = name-inside _ _ c.requires _ refl

pub overflow_add-name : goal.overflow_add-name
overflow_add-name c = omega (arith, name-inside c.args.s.now c.args.at c.requires _ c.text_start-name.ensures)

pub text_start-value-requires : goal.text_start-value-requires
text_start-value-requires c = value-inside _ _ c.requires _ c.text_start-name.ensures _ refl

pub bounds-s-at : goal.bounds-s-at
bounds-s-at c = flag-inside _ _ c.requires

pub returns : goal.returns
returns c = field-again _ _ c.requires _ c.text_start-name.ensures _ c.text_start-value.ensures
