use mathlib.Core.Path.{sym, ap, ◌∙◌}
use Prim.Native.Nat.{ℕ, ◌+◌}
use native.Mathlib.Omega.{arith}
use Rattle.sizes.proofs.Equations.{int-prefix, int-groups}
use Rattle.sizes.proofs.int_size.Goals as goal

-- `int_size`: one equation of `int_size` for each way through the function.
pub returns-then-v-ones : goal.returns-then-v-ones
returns-then-v-ones c = (sym (int-prefix _ _ _ c.requires.0 (omega arith)), omega arith)

pub returns : goal.returns
returns c = (ap (λ (n : ℕ). 1 + n) c.groups_size.ensures.0 ∙ sym (int-groups _ _ _ c.requires.0 (omega arith)), omega arith)
