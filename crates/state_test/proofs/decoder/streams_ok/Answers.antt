use Rattle.std.proofs.Common.{sym, ap, ◌∙◌, arith}
use Rattle.state.specs.Forms.{streams_ok}
use Rattle.state_test.proofs.FormsTurns.{streams-low, streams-high, streams-turn, streams-end}
use Rattle.state_test.proofs.decoder.streams_ok.Goals as goal

pub returns-then-stream-before : goal.returns-then-stream-before
returns-then-stream-before c = sym (c.loop-i.invariant ∙ streams-low _ _ _ _ _ (omega arith) (omega arith))

pub returns-then-stream-gt-LAST : goal.returns-then-stream-gt-LAST
returns-then-stream-gt-LAST c = sym (c.loop-i.invariant ∙ streams-high _ _ _ _ _ (omega arith) (omega arith) (omega arith))

pub loop-i-preserved : goal.loop-i-preserved
loop-i-preserved c =
    c.loop-i.invariant ∙ streams-turn _ _ _ _ _ (omega arith) (omega arith) (omega arith)
    ∙ ap (streams_ok _ _ _) (sym c.listed_at-stream.ensures)

pub returns : goal.returns
returns c = sym (c.loop-i.invariant ∙ streams-end _ _ _ _ _ (omega arith))
