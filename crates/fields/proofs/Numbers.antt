-- The numbers of answers by their definitions, as in `Numbers` of `integers`.
use mathlib.Core.Path.{◌≡◌, refl}
use Prim.Native.Nat.{ℕ}
use Rattle.std.specs.Prelude.{Ok, Err}
use Rattle.integers.specs.Answers.{Read, answer_number}
use Rattle.fields.specs.Reading.{length_answer, text_answer, field_answer}
use Rattle.fields.specs.declared.read.TextPlace.{TextPlace}
use Rattle.fields.specs.declared.read.FieldPlace.{FieldPlace}

pub length-number : (r : Read ℕ) → (length_answer r).number ≡ answer_number r
length-number (Ok (n, next)) = refl
length-number (Err why) = refl

pub text-number : (r : Read TextPlace) → (text_answer r).number ≡ answer_number r
text-number (Ok (p, next)) = refl
text-number (Err why) = refl

pub one-field-number : (r : Read FieldPlace) → (field_answer r).number ≡ answer_number r
one-field-number (Ok (p, next)) = refl
one-field-number (Err why) = refl
