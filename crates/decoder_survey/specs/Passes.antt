-- What the two passes over a block find and write: its representations from a place on, one after the other.
use Rattle.std.specs.Prelude.{ℕ, ◌+◌, ◌-◌, ◌≤◌, ◌≡◌, List, [], ◌∷◌, length, get_or, Result, Ok, Err}
use Rattle.memory.specs.Bytes.{part}
use Rattle.integers.specs.Answers.{Answer, done, refusal, number_of, Read, on_read}
use Rattle.integers.specs.declared.answer.Refusal.{Refusal}
use Rattle.integers.specs.declared.number.TableIndex.{TableIndex}
use Rattle.fields.specs.Form.{Field}
use Rattle.blocks.specs.Representation.{Representation}
use Rattle.blocks.specs.Reading.{BlockRead, block, block_from, read_block, flag_of, read_representation}
use Rattle.blocks.specs.Reading as reading
use Rattle.blocks.specs.Meaning.{BlockMeaning, block_meaning}
use Rattle.model.specs.Decoder.{lookup}
use Rattle.state.specs.Rows.{name_at, value_at}
use Rattle.state.specs.DecoderState.{decoder_of}
use Rattle.decoder_survey.specs.Measure.{waits_for, field_at, field_measured, representations, IsList, list_bytes, block_measured}
use Rattle.decoder_survey.specs.declared.measure.Survey.{Survey}
use Rattle.decoder_survey.specs.declared.measure.Survey.TheVariants.{Bytes, Waits}

-- ---- answers

-- of a whole block: the bytes of its fields are told, or the index that is waited for
abbrev pub survey_answer : Result Survey Refusal → Answer
survey_answer (Ok (Bytes n)) = done n 0
survey_answer (Ok (Waits index)) = waits_for index
survey_answer (Err why) = refusal (number_of why)

-- ---- entries

-- the field that an index of row i stands for
abbrev pub row_field : List ℕ → ℕ → Field
row_field m i = record { flag = 0; name = name_at m i; value = value_at m i }

-- ---- short literals

-- the field of one up to the place next, in the list's form: the flag, and what stands in the block behind the first byte
abbrev pub short_form : List ℕ → ℕ → ℕ → List ℕ
short_form s at next = flag_of (get_or s at 0) ∷ part s (at + 1) (next - (at + 1))

-- ---- the first pass

-- the representation at the place at, and the place after it
abbrev pub step_at : List ℕ → List ℕ → ℕ → Read Survey
step_at m s at = on_read Err (read_representation s at) (λ p next. Ok (field_measured (field_at m s p), next))

-- the block from the place at on
abbrev pub rest_at : List ℕ → ℕ → BlockRead
rest_at s at = block_from (length s - at) s at []

-- a refusal comes before the index that is waited for
abbrev pub waits_unless : TableIndex → BlockRead → Result Survey Refusal
waits_unless index (block rs) = Ok (Waits index)
waits_unless index (reading.BlockRead.refused why) = Err why

-- the refusal, or the measure of what the block means
abbrev pub survey_of : List ℕ → BlockRead → Result Survey Refusal
survey_of m (block rs) = Ok (block_measured (block_meaning (lookup (decoder_of m)) rs))
survey_of m (reading.BlockRead.refused why) = Err why

unfoldable pub block_survey : List ℕ → List ℕ → Result Survey Refusal
block_survey m s = survey_of m (read_block s)

-- a field takes at most 2,307 bytes and a byte of the block at least, so the told number has room for the fields of a block
abbrev pub ToldSurvey : Result Survey Refusal → Type 0
ToldSurvey r = (survey_answer r).number ≡ 0 → (survey_answer r).first ≤ 37797888

-- ---- the second pass

-- the block reads well from the place at on
abbrev pub ReadsOn : List ℕ → ℕ → Type 0
ReadsOn s at = (rs : List Representation) × (rest_at s at ≡ block rs)

-- what it means from there on
unfoldable pub meaning_from : List ℕ → List ℕ → ℕ → BlockMeaning
meaning_from m s at = block_meaning (lookup (decoder_of m)) (representations (rest_at s at))

-- what stands from the place at on is fields, which have room in the output from the place `to` on
pub record Unwritten (m s out : List ℕ) (at to : ℕ) : Type 0 where
  pub reads : ReadsOn s at
  pub meant : IsList (meaning_from m s at)
  pub room : to + length (list_bytes (meaning_from m s at)) ≤ length out
