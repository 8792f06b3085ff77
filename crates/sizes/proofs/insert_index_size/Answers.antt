use Rattle.sizes.specs.Sizes.{insert_index_size}
use borrow.Author.Rules.{rules}
use Rattle.sizes.proofs.insert_index_size.Goals as goal

pub returns : goal.returns
unfolding insert_index_size
returns c = search rules
