-- What is told of a survey whose refusal is given by its enum or by its number alone: `number` says which it is.
use Rattle.std.specs.Prelude.{ℕ, ◌≤◌, ◌≡◌, Result, Ok, Err}
use Rattle.integers.specs.Answers.{Answer, refusal}
use Rattle.decoder_survey.specs.Passes.{survey_answer}
use Rattle.decoder_survey.specs.declared.measure.Survey.{Survey}

abbrev pub told : {W : Type 0} → (W → ℕ) → Result Survey W → Answer
told number (Ok survey) = survey_answer (Ok survey)
told number (Err why) = refusal (number why)

-- the told number has room for the fields of a block, as `ToldSurvey` says
abbrev pub FitsTold : {W : Type 0} → (W → ℕ) → Result Survey W → Type 0
FitsTold number r = (told number r).number ≡ 0 → (told number r).first ≤ 37797888
