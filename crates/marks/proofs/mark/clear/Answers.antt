use Rattle.std.proofs.Common.{sym, ◌∙◌}
use Rattle.marks.specs.Marks.{is_set, word_place}
use Rattle.marks.proofs.Bits.{bit_le}
use Rattle.marks.proofs.Clearing.{cleared-none, cleared-one}
use Rattle.marks.proofs.mark.clear.Goals as goal

-- A bit that is set is at most its word, so it can be taken away.
pub returns-then-not-is_set : goal.returns-then-not-is_set
returns-then-not-is_set c = sym (cleared-none _ _ _ (sym c.is_set.ensures ∙ c.if-not-is_set.true))

pub overflow_sub-word : goal.overflow_sub-word
unfolding is_set word_place
overflow_sub-word c =
    let marked = sym c.is_set.ensures ∙ c.if-not-is_set.false in
    rw (c.power.ensures, c.u64_at-word.ensures) (bit_le _ _ marked)

pub returns : goal.returns
unfolding word_place
returns c =
    let word = c.u64_at-word.ensures in
    let marked = sym c.is_set.ensures ∙ c.if-not-is_set.false in
    c.put_u64.ensures ∙ rw (word, c.power.ensures) (sym (cleared-one _ _ _ marked))
