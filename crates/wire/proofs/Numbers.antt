-- The numbers of answers by their definitions, as in `Numbers` of `integers`.
use mathlib.Core.Path.{◌≡◌, refl}
use Rattle.std.specs.Prelude.{Ok, Err}
use Rattle.integers.specs.Answers.{Read, answer_number}
use Rattle.wire.specs.Text.{string_answer}
use Rattle.wire.specs.Name.{name_answer}
use Rattle.wire.specs.declared.text.StringPlace.{StringPlace}
use Rattle.wire.specs.declared.name.NamePlace.{NamePlace}

pub string-number : (r : Read StringPlace) → (string_answer r).number ≡ answer_number r
string-number (Ok (p, next)) = refl
string-number (Err why) = refl

pub name-number : (r : Read NamePlace) → (name_answer r).number ≡ answer_number r
name-number (Ok (p, next)) = refl
name-number (Err why) = refl
