-- The number that is shown of an answer.
use Rattle.std.specs.Prelude.{ℕ, Result, Ok, Err}
use Rattle.integers.specs.declared.answer.Refusal.{Refusal}
use Rattle.integers.specs.Answers.{number_of}

-- "0 is done", else the refusal's number
abbrev pub judged_number : Result (Unit {0}) Refusal → ℕ
judged_number (Ok nothing) = 0
judged_number (Err why) = number_of why
