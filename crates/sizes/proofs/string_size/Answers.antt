use Rattle.sizes.specs.Sizes.{string_size}
use borrow.Author.Rules.{rules}
use Rattle.sizes.proofs.string_size.Goals as goal

pub returns : goal.returns
unfolding string_size
returns c = search rules
