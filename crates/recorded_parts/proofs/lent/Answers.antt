use Rattle.std.proofs.Common.{◌∙◌}
use Rattle.recorded_parts.proofs.Lending.{lent-min}
use Rattle.recorded_parts.proofs.lent.Goals as goal

-- `lent` meets its contract: `lent_of` is the smaller one.
pub returns : goal.returns
returns c = c.min.ensures ∙ lent-min c.args.call.room c.args.n
