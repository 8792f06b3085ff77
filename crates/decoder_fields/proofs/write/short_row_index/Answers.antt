use mathlib.Core.Path.{sym, ap, ◌∙◌}
use Rattle.decoder_fields.specs.Indexes.{row_index}
use Rattle.decoder_fields.proofs.Indexing.{row-static, row-above}
use Rattle.decoder_fields.proofs.write.short_row_index.Goals as goal

pub returns-in_default : goal.returns-in_default
returns-in_default c = sym (ap row_index (sym c.short_index.ensures ∙ c.in_default.is))

pub returns-then-index-le-LAST : goal.returns-then-index-le-LAST
returns-then-index-le-LAST c = sym (row-static (sym c.short_index.ensures ∙ c.in-Some.is) c.if-index-le-LAST.true)

pub returns : goal.returns
returns c = sym (row-above (sym c.short_index.ensures ∙ c.in-Some.is) c.if-index-le-LAST.false)
