use mathlib.Core.Path.{refl}
use Rattle.table_rows.specs.Account.{charged}
use Rattle.table_rows.proofs.account.charge.Goals as goal

pub returns : goal.returns
unfolding charged
returns c = refl
