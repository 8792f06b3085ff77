-- What is taken from a block and written: a string, or a field.
use Rattle.std.specs.Prelude.{ℕ, ◌+◌, ◌≤◌, ◌≡◌, List, length, take}
use Rattle.memory.specs.Bytes.{overlay}
use Rattle.wire.specs.Text.{string_bytes, read_string}
use Rattle.wire.specs.declared.text.StringPlace.{StringPlace}
use Rattle.fields.specs.Form.{text_form}
use Rattle.blocks.specs.Reading.{read_representation}
use Rattle.blocks.specs.declared.read.RepresentationPlace.{RepresentationPlace}
use Rattle.decoder_survey.specs.Measure.{field_at, IsField, field_bytes}
use Rattle.std.specs.Prelude.{Ok, Option, Some, None}

-- The list was `lent` and is `out`; what is taken from s at the place at, up to the place next, stands in it from the place `to` on, up to the place after.

-- ---- a string

-- read there within every limit, since it has at most 126 bytes
pub record TookString (s : List ℕ) (at : ℕ) (lent out : List ℕ) (to next after : ℕ) : Type 0 where
  pub place : StringPlace
  pub reads : (limit : ℕ) → 126 ≤ limit → read_string s at limit ≡ Ok (place, next)
  pub ends : after ≡ to + length (text_form (string_bytes s place))
  pub fits : after ≤ length lent
  pub written : out ≡ overlay lent to (text_form (string_bytes s place))

-- ---- a field

-- the representation there, which means a field against the table in memory
pub record Took (m s : List ℕ) (at : ℕ) (lent out : List ℕ) (to next after : ℕ) : Type 0 where
  pub place : RepresentationPlace
  pub reads : read_representation s at ≡ Ok (place, next)
  pub meant : IsField (field_at m s place)
  pub ends : after ≡ to + length (field_bytes (field_at m s place))
  pub fits : after ≤ length lent
  pub written : out ≡ overlay lent to (field_bytes (field_at m s place))

-- ---- what the answers say. Where nothing is taken the list's bytes before the place `to` stay.

abbrev pub StringTaken : List ℕ → ℕ → List ℕ → List ℕ → ℕ → Option (ℕ × ℕ) → Type 0
StringTaken s at lent out to (Some (next, after)) = TookString s at lent out to next after
StringTaken s at lent out to None = take to out ≡ take to lent

abbrev pub FieldTaken : List ℕ → List ℕ → ℕ → List ℕ → List ℕ → ℕ → Option (ℕ × ℕ) → Type 0
FieldTaken m s at lent out to (Some (next, after)) = Took m s at lent out to next after
FieldTaken m s at lent out to None = take to out ≡ take to lent
