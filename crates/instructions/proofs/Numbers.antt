-- The numbers of answers by their definitions, as in `Numbers` of `integers`.
use mathlib.Core.Path.{◌≡◌, refl}
use Rattle.std.specs.Prelude.{Ok, Err}
use Rattle.integers.specs.Answers.{Read, answer_number}
use Rattle.integers.specs.declared.number.TableIndex.{TableIndex}
use Rattle.instructions.specs.Reading.{index_answer, instruction_answer}
use Rattle.instructions.specs.declared.read.InstructionPlace.{InstructionPlace}

pub index-number : (r : Read TableIndex) → (index_answer r).number ≡ answer_number r
index-number (Ok (i, next)) = refl
index-number (Err why) = refl

pub instruction-number : (r : Read InstructionPlace) → (instruction_answer r).number ≡ answer_number r
instruction-number (Ok (p, next)) = refl
instruction-number (Err why) = refl
