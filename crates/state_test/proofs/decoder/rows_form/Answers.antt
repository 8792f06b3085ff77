use Rattle.std.proofs.Common.{sym, ◌∙◌}
use Rattle.state_test.proofs.FormsWays.{rows-live}
use Rattle.state_test.proofs.decoder.rows_form.Goals as goal

pub returns-then-delete_count-eq0 : goal.returns-then-delete_count-eq0
returns-then-delete_count-eq0 c = c.live_rows.ensures ∙ sym (rows-live _ (sym c.delete_count.ensures ∙ c.if-delete_count-eq0.true) _)
