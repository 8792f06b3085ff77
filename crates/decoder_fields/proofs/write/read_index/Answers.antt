use mathlib.Core.Path.{sym, ap, ◌∙◌}
use Rattle.short_forms.proofs.ShortReads.{short-index-reads}
use Rattle.decoder_fields.specs.Indexes.{index_in}
use Rattle.decoder_fields.proofs.write.read_index.Goals as goal

pub returns : goal.returns
returns c =
    let p = c.requires in
    sym (ap index_in (short-index-reads _ _ p.0 p.1 _ _ (sym c.short_index-i.ensures ∙ c.in-Some.is)))
