use Rattle.std.proofs.Common.{sym, ◌∙◌, arith}
use Rattle.state_test.proofs.FormsWays.{head-short, head-role, head-edition, head-limit, head-held, head-count, head-zeros}
use Rattle.state_test.proofs.forms.head_ok.Goals as goal

-- `state_test::forms::head_ok_lem` meets its contract: each question is one of the definition's, in its order.
pub returns-then-m-bytes : goal.returns-then-m-bytes
returns-then-m-bytes c = sym (head-short _ _ _ c.if-m-bytes.true)

pub returns-then-m-role : goal.returns-then-m-role
returns-then-m-role c = sym (head-role _ _ _ (omega arith) c.if-m-role.true)

pub returns-then-m-ne-FEBRUARY : goal.returns-then-m-ne-FEBRUARY
returns-then-m-ne-FEBRUARY c = sym (head-edition _ _ _ (omega arith) c.if-m-role.false c.if-m-ne-FEBRUARY.true)

pub returns-then-limit_of-gt-MOST_HELD : goal.returns-then-limit_of-gt-MOST_HELD
returns-then-limit_of-gt-MOST_HELD c = sym (head-limit _ _ _ (omega arith) c.if-m-role.false c.if-m-ne-FEBRUARY.false (omega arith))

pub returns-then-held_of-gt-MOST_HELD : goal.returns-then-held_of-gt-MOST_HELD
returns-then-held_of-gt-MOST_HELD c =
    sym (head-held _ _ _ (omega arith) c.if-m-role.false c.if-m-ne-FEBRUARY.false (omega arith) (omega arith))

pub returns-then-count_of-gt-PLACES : goal.returns-then-count_of-gt-PLACES
returns-then-count_of-gt-PLACES c =
    sym (head-count _ _ _ (omega arith) c.if-m-role.false c.if-m-ne-FEBRUARY.false (omega arith) (omega arith) (omega arith))

pub returns : goal.returns
returns c =
    c.zeros.ensures ∙ sym (head-zeros _ _ _ (omega arith) c.if-m-role.false c.if-m-ne-FEBRUARY.false (omega arith) (omega arith) (omega arith))
