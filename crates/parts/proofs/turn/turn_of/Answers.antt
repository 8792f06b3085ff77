use mathlib.Core.Path.{sym, ◌∙◌}
use native.Mathlib.Omega.{arith}
use Rattle.parts.proofs.Turns.{above-out, no-part-out, nontrailer-answer, trailer-answer}
use Rattle.parts.proofs.turn.turn_of.Goals as goal

pub returns-then-stream : goal.returns-then-stream
returns-then-stream c = sym (above-out _ _ _ (omega arith))

pub returns-then-part-eq-NONTRAILER : goal.returns-then-part-eq-NONTRAILER
returns-then-part-eq-NONTRAILER c = c.turn_if.ensures ∙ sym (nontrailer-answer _ _ _ _ c.new-s.ensures (omega arith) _ (omega arith) c.is_set.ensures)

pub returns-then-part-ne-TRAILER : goal.returns-then-part-ne-TRAILER
returns-then-part-ne-TRAILER c = sym (no-part-out _ _ _ (λ e. omega arith) (λ e. omega arith))

pub returns : goal.returns
returns c =
    c.turn_if-2.ensures
    ∙ sym (trailer-answer _ _ _ _ c.new-s.ensures (omega arith) _ (omega arith) c.is_set-2.ensures)
