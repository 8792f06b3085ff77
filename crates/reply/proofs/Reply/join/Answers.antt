use Rattle.reply.specs.Reply.{joined}
use borrow.Author.Rules.{rules}
use Rattle.reply.proofs.Reply.join.Goals as goal

pub returns : goal.returns
unfolding joined
returns c = search rules
