use Rattle.sizes.specs.Sizes.{delete_size}
use borrow.Author.Rules.{rules}
use Rattle.sizes.proofs.delete_size.Goals as goal

pub returns : goal.returns
unfolding delete_size
returns c = search rules
