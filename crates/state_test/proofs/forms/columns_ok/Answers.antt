use Rattle.std.proofs.Common.{sym, ◌∙◌, arith}
use Rattle.state_test.proofs.FormsWays.{columns-front, columns-top, columns-start, columns-held, columns-rising}
use Rattle.state_test.proofs.forms.columns_ok.Goals as goal

pub returns-then-index_before-ne-BEFORE_FIRST : goal.returns-then-index_before-ne-BEFORE_FIRST
returns-then-index_before-ne-BEFORE_FIRST c = sym (columns-front _ _ _ (omega arith))

pub returns-then-top-index_before : goal.returns-then-top-index_before
returns-then-top-index_before c = sym (columns-top _ _ _ (omega arith) (omega arith))

pub returns-then-offset_at-ne0 : goal.returns-then-offset_at-ne0
returns-then-offset_at-ne0 c = sym (columns-start _ _ _ (omega arith) (omega arith) (omega arith))

pub returns-then-offset_at-count : goal.returns-then-offset_at-count
returns-then-offset_at-count c = sym (columns-held _ _ _ (omega arith) (omega arith) (omega arith) (omega arith))

pub returns : goal.returns
returns c = c.rising.ensures ∙ sym (columns-rising _ _ _ (omega arith) (omega arith) (omega arith) (omega arith))
