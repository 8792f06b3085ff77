use mathlib.Core.Path.{sym, ◌∙◌}
use native.Mathlib.Omega.{arith}
use Rattle.blocks.proofs.Bounds.{representation-good}
use Rattle.vectors.proofs.answers.representations.Goals as goal

pub loop-place-smaller : goal.loop-place-smaller
loop-place-smaller c =
    let g = representation-good _ _ _ _ (sym c.read_representation.ensures ∙ c.in-Ok.is) in
    omega (arith, g.past, g.inside)
