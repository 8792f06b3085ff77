-- The numbers of answers by their definitions, as in `Numbers` of `integers`.
use mathlib.Core.Path.{◌≡◌, refl}
use Rattle.std.specs.Prelude.{Ok, Err}
use Rattle.integers.specs.Answers.{Read, answer_number}
use Rattle.blocks.specs.Reading.{representation_answer}
use Rattle.blocks.specs.declared.read.RepresentationPlace.{RepresentationPlace}

pub representation-number : (r : Read RepresentationPlace) → (representation_answer r).number ≡ answer_number r
representation-number (Ok (p, next)) = refl
representation-number (Err why) = refl
