use native.Mathlib.Omega.{arith}
use Rattle.fields.proofs.Bounds.{field-good}
use Rattle.readable.proofs.each_field.Goals as goal

pub field-requires : goal.field-requires
field-requires c = let g = field-good _ _ _ c.read_field.ensures _ _ c.in-Ok.is in (g.name-inside, g.value-inside)

pub loop-at-smaller : goal.loop-at-smaller
loop-at-smaller c = let g = field-good _ _ _ c.read_field.ensures _ _ c.in-Ok.is in omega arith
