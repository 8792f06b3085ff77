use mathlib.Core.Path.{sym, ap}
use Rattle.encoder_fields.specs.Naming.{literal_with}
use Rattle.encoder_fields.proofs.choice.literal.Goals as goal

pub returns-in-Some : goal.returns-in-Some
returns-in-Some c = sym (ap literal_with c.in-Some.is)

pub returns-in-None : goal.returns-in-None
returns-in-None c = sym (ap literal_with c.in-None.is)
