use Rattle.table_rows.specs.Account.{fits}
use Rattle.table_rows.proofs.fits.Goals as goal

pub returns : goal.returns
unfolding fits
returns c = rw (← c.held_of.ensures, ← c.limit_of.ensures) c.fits.ensures
