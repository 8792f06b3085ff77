use mathlib.Core.Path.{refl}
use Rattle.table_rows.specs.Account.{fits}
use Rattle.table_rows.proofs.account.Account.fits.Goals as goal

pub returns : goal.returns
unfolding fits
returns c = refl
