use mathlib.Core.Path.{◌≡◌, ap, ◌∙◌}
use Rattle.state.specs.Layout.{count_of, offset_at}
use Rattle.table.proofs.Steps.{row_out}
use Rattle.table.proofs.remove.remove.Goals as goal

pub returns : goal.returns
returns c =
    let ends : c.offset_at.result ≡ offset_at c.args.m.now (count_of c.args.m.now) = c.offset_at.ensures ∙ ap (offset_at c.args.m.now) c.count_of-count.ensures in
    let a = c.args in
    row_out a.m.now _ _ _ a.place c.count_of-count.result c.offset_at-offset.result c.text_length_at-text.result c.offset_at.result
    c.record_removal.ensures c.close_row.ensures c.move_down.ensures
    c.count_of-count.ensures c.offset_at-offset.ensures c.text_length_at-text.ensures.0 ends
