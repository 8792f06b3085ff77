-- What a way through a call leaves is what the call's definition says, part by part, where that way's result is known.
use mathlib.Core.Path.{◌≡◌, sym, ap, ◌∙◌}
use mathlib.Core.List.{List}
use Prim.Native.Nat.{ℕ}
use Rattle.integers.specs.Answers.{Answer}
use Rattle.reply.specs.Result.{Result}

module _ {call way : Result} (e : call ≡ way) where
  pub answer-of : {a : Answer} → a ≡ way.answer → a ≡ call.answer
  answer-of p = p ∙ ap (λ (r : Result). r.answer) (sym e)

  pub memory-of : {m : List ℕ} → m ≡ way.memory → m ≡ call.memory
  memory-of p = p ∙ ap (λ (r : Result). r.memory) (sym e)

  pub output-of : {out : List ℕ} → out ≡ way.output → out ≡ call.output
  output-of p = p ∙ ap (λ (r : Result). r.output) (sym e)
