use mathlib.Core.Path.{refl}
use Rattle.statics.specs.Table.{entries, text_of, static_text}
use Rattle.statics.proofs.table.static_text.Goals as goal

-- `statics::table::static_text` meets its contract, by computing the text of the entries.
pub returns : goal.returns
unfolding static_text text_of entries
returns c = refl
