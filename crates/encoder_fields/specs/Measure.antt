-- The representations that the encoder chooses for a field list, measured and written one field after another.
use Rattle.std.specs.Prelude.{ℕ, ◌<◌, ◌≤◌, ◌≡◌, List, [], map, ltb, leb, Result, Ok, Err}
use Rattle.memory.specs.Choice.{pick, need}
use Rattle.integers.specs.declared.answer.Refusal.{Refusal}
use Rattle.integers.specs.declared.answer.Refusal.TheVariants.{TooLong, NoRoom}
use Rattle.fields.specs.Form.{Field}
use Rattle.fields.specs.Reading.{InText, FieldListRead, list, read_field_list}
use Rattle.fields.specs.Reading as reading
use Rattle.fields.specs.declared.read.FieldPlace.{FieldPlace}
use Rattle.wire.specs.Name.{indexed as by_index, literal as by_bytes}
use Rattle.blocks.specs.Representation.{Representation, indexed, literal}
use Rattle.model.specs.Encoder.{choose}
use Rattle.state.specs.EncoderState.{encoder_of}
use Rattle.encoder_fields.specs.declared.field.ListField.{ListField}
use Rattle.encoder_fields.specs.declared.choice.Choice.{Choice}
use Rattle.encoder_fields.specs.declared.choice.Choice.TheVariants.{Indexed, Named, Literal}

-- a field that stands in the list s, within its limits
pub record InField (s : List ℕ) (f : FieldPlace) : Type 0 where
  pub flag : f.flag < 2
  pub name : InText s f.name
  pub value : InText s f.value
  pub name_short : f.name.length ≤ 255
  pub value_short : f.value.length ≤ 2047

-- what it says
abbrev pub as_field : ListField → Field
as_field f = record { flag = f.flag; name = f.name.now; value = f.value.now }

-- the representation that a choice for a field stands for
abbrev pub chosen : Field → Choice → Representation
chosen f (Indexed i) = indexed i.value
chosen f (Named i) = literal f.flag (by_index i.value) f.value
chosen f Literal = literal f.flag (by_bytes f.name) f.value

abbrev pub field_with : ℕ → List ℕ → List ℕ → Field
field_with flag name value = record { flag = flag; name = name; value = value }

-- it is the one that the encoder chooses, against the table in memory
abbrev pub Chooses : List ℕ → Field → Choice → Type 0
Chooses m f choice = chosen f choice ≡ choose (encoder_of m).entries f

-- the fields of a list that reads well
abbrev pub fields_in : FieldListRead → List Field
fields_in (list fs) = fs
fields_in (reading.FieldListRead.refused why) = []

abbrev pub ReadsWell : List ℕ → Type 0
ReadsWell s = (fs : List Field) × (read_field_list s ≡ list fs)

-- the representations of the list s against the table in memory
abbrev pub representations_of : List ℕ → List ℕ → List Representation
representations_of m s = map (choose (encoder_of m).entries) (fields_in (read_field_list s))

-- a block's bytes, counted up to one more than a block may have: a list has no limit of its own, so a sum would overflow
unfoldable pub capped : ℕ → ℕ
capped n = pick (ltb 16384 n) 16385 n

-- "block length 13, 12"
unfoldable pub room_answer : ℕ → ℕ → Result (Unit {0}) Refusal
room_answer n room = need (leb n 16384) (Err TooLong) (need (leb n room) (Err NoRoom) (Ok tt))
