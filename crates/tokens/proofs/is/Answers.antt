use Rattle.std.proofs.Common.{◌∙◌}
use Rattle.tokens.proofs.Alike.{pointwise-alike}
use Rattle.tokens.proofs.is.Goals as goal

pub returns : goal.returns
returns c = c.eq.ensures ∙ pointwise-alike c.args.word.now c.args.other.now
