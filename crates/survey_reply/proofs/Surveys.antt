-- What is told of a survey is the answer to it, where the refusal is given by its enum.
use mathlib.Core.Path.{◌≡◌, refl}
use Rattle.std.specs.Prelude.{Result, Ok, Err}
use Rattle.integers.specs.Answers.{number_of}
use Rattle.integers.specs.declared.answer.Refusal.{Refusal}
use Rattle.decoder_survey.specs.Passes.{survey_answer, ToldSurvey}
use Rattle.decoder_survey.specs.declared.measure.Survey.{Survey}
use Rattle.survey_reply.specs.Told.{told, FitsTold}

pub survey-told : (r : Result Survey Refusal) → told number_of r ≡ survey_answer r
survey-told (Ok survey) = refl
survey-told (Err why) = refl

pub survey-fits : (r : Result Survey Refusal) → ToldSurvey r → FitsTold number_of r
survey-fits (Ok survey) h = h
survey-fits (Err why) h = h
