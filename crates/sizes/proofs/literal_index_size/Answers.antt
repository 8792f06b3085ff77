use Rattle.sizes.specs.Sizes.{literal_index_size}
use borrow.Author.Rules.{rules}
use Rattle.sizes.proofs.literal_index_size.Goals as goal

pub returns : goal.returns
unfolding literal_index_size
returns c = search rules
