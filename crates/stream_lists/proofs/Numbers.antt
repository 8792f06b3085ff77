-- The numbers of answers by their definitions, as in `Numbers` of `integers`.
use mathlib.Core.Path.{◌≡◌, refl}
use Prim.Native.Nat.{ℕ}
use Rattle.std.specs.Prelude.{Result, Ok, Err}
use Rattle.integers.specs.Answers.{Read, answer_number}
use Rattle.integers.specs.declared.answer.Refusal.{Refusal}
use Rattle.integers.specs.declared.number.StreamNumber.{StreamNumber}
use Rattle.stream_lists.specs.StreamList.{delta_answer, deltas_answer, list_answer}
use Rattle.stream_lists.specs.declared.stream_list.ListPlace.{ListPlace}

pub delta-number : (r : Read StreamNumber) → (delta_answer r).number ≡ answer_number r
delta-number (Ok (x, next)) = refl
delta-number (Err why) = refl

pub deltas-number : (r : Result ℕ Refusal) → (deltas_answer r).number ≡ answer_number r
deltas-number (Ok next) = refl
deltas-number (Err why) = refl

pub list-number : (r : Read ListPlace) → (list_answer r).number ≡ answer_number r
list-number (Ok (p, next)) = refl
list-number (Err why) = refl
