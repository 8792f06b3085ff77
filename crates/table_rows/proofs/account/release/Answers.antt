use mathlib.Core.Path.{refl}
use Rattle.table_rows.specs.Account.{released}
use Rattle.table_rows.proofs.account.release.Goals as goal

pub returns : goal.returns
unfolding released
returns c = refl
