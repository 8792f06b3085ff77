use mathlib.Core.Path.{sym}
use native.Mathlib.Omega.{arith}
use Rattle.sizes.proofs.Equations.{groups-one, groups-two, groups-three, groups-four}
use Rattle.sizes.proofs.groups_size.Goals as goal

-- `groups_size`: one equation of `groups_size` for each way through the function.
pub returns-then-v-lt-TWO_GROUPS : goal.returns-then-v-lt-TWO_GROUPS
returns-then-v-lt-TWO_GROUPS c = (sym (groups-one _ (omega arith)), omega arith)

pub returns-then-v-lt-THREE_GROUPS : goal.returns-then-v-lt-THREE_GROUPS
returns-then-v-lt-THREE_GROUPS c = (sym (groups-two _ (omega arith) (omega arith)), omega arith)

pub returns-then-v-lt-FOUR_GROUPS : goal.returns-then-v-lt-FOUR_GROUPS
returns-then-v-lt-FOUR_GROUPS c = (sym (groups-three _ (omega arith) (omega arith)), omega arith)

pub returns : goal.returns
returns c = (sym (groups-four _ (omega arith)), omega arith)
