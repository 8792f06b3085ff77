use mathlib.Core.Path.{sym}
use Rattle.blocks.proofs.Equations.{flag-low, flag-high}
use Rattle.blocks.proofs.read.flag_of.Goals as goal

-- `flag_of` gives the N bit as `flag_of` does.
pub returns-then-b-lt-NEVER_STORE : goal.returns-then-b-lt-NEVER_STORE
returns-then-b-lt-NEVER_STORE c = sym (flag-low _ c.if-b-lt-NEVER_STORE.true)

pub returns-else-b-lt-NEVER_STORE : goal.returns-else-b-lt-NEVER_STORE
returns-else-b-lt-NEVER_STORE c = sym (flag-high _ c.if-b-lt-NEVER_STORE.false)
