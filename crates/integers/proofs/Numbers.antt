-- The number that a definition of answers gives is that of what was answered: 0 where something was found, or the refusal's. For the definition
-- of each reader, here and in the crates above, case by case.
use mathlib.Core.Path.{◌≡◌, refl}
use Rattle.std.specs.Prelude.{Ok, Err}
use Rattle.integers.specs.Answers.{Read, answer_number}
use Rattle.integers.specs.Integer.{int_answer}
use Rattle.integers.specs.declared.integer.WireInt.{WireInt}

pub int-number : (r : Read WireInt) → (int_answer r).number ≡ answer_number r
int-number (Ok (n, next)) = refl
int-number (Err why) = refl
