use Rattle.sizes.specs.Sizes.{insert_text_size}
use borrow.Author.Rules.{rules}
use Rattle.sizes.proofs.insert_text_size.Goals as goal

pub returns : goal.returns
unfolding insert_text_size
returns c = search rules
