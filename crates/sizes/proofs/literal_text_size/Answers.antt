use Rattle.sizes.specs.Sizes.{literal_text_size}
use borrow.Author.Rules.{rules}
use Rattle.sizes.proofs.literal_text_size.Goals as goal

pub returns : goal.returns
unfolding literal_text_size
returns c = search rules
