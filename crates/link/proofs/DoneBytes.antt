-- The bytes that a call answered "done" wrote are the bytes of the model's output.
-- The told count is their length, and they stand at the output's front; a call that is refused has no output.
use mathlib.Core.Path.{◌≡◌, sym, ap, ap₂, ◌∙◌}
use Prim.Native.Nat.{ℕ}
use native.Mathlib.Omega.{arith}
use mathlib.Core.List.{List}
use lib.ListN.{length, take}
use lib.Dec.{eqb}
use borrow.Author.Tests.{eqb-true, eqb-false}
use Rattle.memory.specs.Bytes.{overlay}
use Rattle.memory.proofs.Order.{either, pick_true, pick-false}
use Rattle.memory.proofs.Places.{part-overlay}
use Rattle.integers.specs.Answers.{Answer}
use Rattle.model.specs.Outcome.{Outcome, output_bytes}
use Rattle.model_laws.specs.Promises.{Unchanged, Tells}
use Rattle.reply.specs.Result.{Result}
use Rattle.link.specs.Calls.{done_bytes}

pub done-bytes : {S : Type 0} (s : S) (o : Outcome S) (lent : List ℕ) (r : Result) → r.answer ≡ o.answer
    → r.output ≡ overlay lent 0 (output_bytes o.output) → Unchanged s o → Tells (length lent) o → done_bytes r ≡ output_bytes o.output
unfolding output_bytes
done-bytes s o lent r answered written unchanged tells =
    let number : r.answer.number ≡ o.answer.number = ap (λ (a : Answer). a.number) answered in
    let first : r.answer.first ≡ o.answer.first = ap (λ (a : Answer). a.first) answered in
    either (eqb r.answer.number 0)
    (λ t. pick_true (eqb r.answer.number 0) _ _ t
    ∙ ap₂ take (first ∙ tells.told (sym number ∙ eqb-true r.answer.number 0 t)) written
    ∙ part-overlay lent 0 (output_bytes o.output) (omega (arith, tells.fits)))
    (λ t. pick-false (eqb r.answer.number 0) _ _ t
    ∙ sym (ap output_bytes (unchanged (λ z. eqb-false r.answer.number 0 t (number ∙ z))).1))
