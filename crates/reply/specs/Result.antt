-- What a call leaves: its answer with the told numbers, and every byte of the lent memory and of the lent output.
use Rattle.std.specs.Prelude.{ℕ, List}
use Rattle.memory.specs.Bytes.{overlay}
use Rattle.integers.specs.Answers.{Answer, refusal}
use Rattle.model.specs.Outcome.{Outcome, output_bytes}

pub record Result : Type 0 where
  pub answer : Answer
  pub memory : List ℕ
  pub output : List ℕ

-- "Every number but 0 leaves state and buffers unchanged."
abbrev pub refused : List ℕ → List ℕ → ℕ → Result
refused m out number = record { answer = refusal number; memory = m; output = out }

-- what a step of the model gives: its state over the memory, as `over` lays it, and its output from the front of the lent one
-- ("On 0 only the told count of output bytes is written.")
unfoldable pub stepped : {S : Type 0} → (S → List ℕ → List ℕ) → List ℕ → List ℕ → Outcome S → Result
stepped over m out o = record { answer = o.answer; memory = over o.state m; output = overlay out 0 (output_bytes o.output) }
