-- What the pass over a short block takes from it and writes: several fields, and the whole block.
use Rattle.std.specs.Prelude.{ℕ, ◌+◌, ◌<◌, ◌≤◌, ◌≡◌, List, [], ◌∷◌, ◌++◌, length, take}
use Rattle.memory.specs.Bytes.{overlay}
use Rattle.blocks.specs.Reading.{read_representation}
use Rattle.blocks.specs.declared.read.RepresentationPlace.{RepresentationPlace}
use Rattle.decoder_survey.specs.Measure.{field_at, IsField, field_bytes, meaning_of, list_bytes}
use Rattle.decoder_survey.specs.Passes.{block_survey}
use Rattle.decoder_survey.specs.declared.measure.Survey.TheVariants.{Bytes}
use Rattle.std.specs.Prelude.{Result, Ok, Err, Option, Some, None}
use Rattle.integers.specs.declared.answer.Refusal.{Refusal}
use Rattle.integers.specs.declared.answer.Refusal.TheVariants.{NoRoom}

-- ---- fields, one behind the other

-- the representations there, up to the place next, are these, and each means a field
abbrev pub FieldsTo : List ℕ → List ℕ → ℕ → List RepresentationPlace → ℕ → Type 0
FieldsTo m s at [] next = at ≡ next
FieldsTo m s at (p ∷ ps) next = (middle : ℕ) × (read_representation s at ≡ Ok (p, middle)) × IsField (field_at m s p) × FieldsTo m s middle ps next

-- their bytes
unfoldable pub fields_bytes : List ℕ → List ℕ → List RepresentationPlace → List ℕ
fields_bytes m s [] = []
fields_bytes m s (p ∷ ps) = field_bytes (field_at m s p) ++ fields_bytes m s ps

-- The list's bytes before the place `to` stay; those from the place after on mean nothing, since a field may have been tried there that does not fit.
pub record TookAll (m s : List ℕ) (at : ℕ) (lent out : List ℕ) (to next after : ℕ) : Type 0 where
  pub places : List RepresentationPlace
  pub fields : FieldsTo m s at places next
  pub inside : next ≤ length s
  pub ends : after ≡ to + length (fields_bytes m s places)
  pub fits : after ≤ length out
  pub same : length out ≡ length lent
  pub written : take after out ≡ take to lent ++ fields_bytes m s places

-- ---- what the answers say

-- one at least
abbrev pub FieldsTaken : List ℕ → List ℕ → ℕ → List ℕ → List ℕ → ℕ → Option (ℕ × ℕ) → Type 0
FieldsTaken m s at lent out to (Some (next, after)) = (at < next) × TookAll m s at lent out to next after
FieldsTaken m s at lent out to None = Unit {0}

-- the list stands at the front of the buffer
abbrev pub BlockDecoded : List ℕ → List ℕ → List ℕ → Option ℕ → Type 0
BlockDecoded m s out (Some n) = (block_survey m s ≡ Ok (Bytes n)) × (n ≤ length out) × (take n out ≡ list_bytes (meaning_of m s))
BlockDecoded m s out None = Unit {0}

-- the output's; the told number is small. Nothing is refused but for want of room
abbrev pub BlockGiven : List ℕ → List ℕ → List ℕ → List ℕ → Option (Result ℕ Refusal) → Type 0
BlockGiven m s lent out (Some (Ok n)) = (block_survey m s ≡ Ok (Bytes n)) × (n ≤ length lent) × (n ≤ 1024) × (out ≡ overlay lent 0 (list_bytes (meaning_of m s)))
BlockGiven m s lent out (Some (Err why)) = (why ≡ NoRoom) × ((n : ℕ) × (block_survey m s ≡ Ok (Bytes n)) × (length lent < n)) × (out ≡ lent)
BlockGiven m s lent out None = out ≡ lent
