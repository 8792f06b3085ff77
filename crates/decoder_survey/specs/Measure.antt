-- What a block of s means against the table in memory: its fields in the host's list form and their bytes, or the index that it waits for.
use Rattle.std.specs.Prelude.{ℕ, ◌≡◌, List, [], length}
use Rattle.integers.specs.Answers.{Answer, waits}
use Rattle.integers.specs.declared.number.TableIndex.{TableIndex}
use Rattle.wire.specs.Text.{string_bytes}
use Rattle.wire.specs.declared.text.StringPlace.{StringPlace}
use Rattle.wire.specs.declared.name.NamePlace.TheVariants.{Index}
use Rattle.fields.specs.Form.{Field, field_form, list_form}
use Rattle.blocks.specs.Representation.{Representation}
use Rattle.blocks.specs.Reading.{BlockRead, block, read_block, representation_of}
use Rattle.blocks.specs.Reading as reading
use Rattle.blocks.specs.Meaning.{FieldMeaning, field, field_meaning, BlockMeaning, list, block_meaning}
use Rattle.blocks.specs.Meaning as meaning
use Rattle.blocks.specs.declared.read.RepresentationPlace.{RepresentationPlace}
use Rattle.blocks.specs.declared.read.RepresentationPlace.TheVariants.{Literal}
use Rattle.model.specs.Decoder.{lookup}
use Rattle.state.specs.DecoderState.{decoder_of}
use Rattle.table_laws.specs.DecoderChanges.{DecoderStands}
use Rattle.decoder_survey.specs.declared.measure.Survey.{Survey}
use Rattle.decoder_survey.specs.declared.measure.Survey.TheVariants.{Bytes, Waits}

-- memory that forms a decoder's state
abbrev pub Stands : List ℕ → Type 0
Stands m = DecoderStands m (decoder_of m)

-- ---- answers

-- "a block names a vacant dynamic index; the first in byte order is told"
abbrev pub waits_for : TableIndex → Answer
waits_for index = record { number = waits; first = index.value; second = 0 }

-- ---- one representation

-- what it means against the table in memory
unfoldable pub field_meant : List ℕ → Representation → FieldMeaning
field_meant m r = field_meaning (lookup (decoder_of m)) r

-- of the representation at a place of s, and of a literal there whose name is an entry's
abbrev pub field_at : List ℕ → List ℕ → RepresentationPlace → FieldMeaning
field_at m s r = field_meant m (representation_of s r)

abbrev pub named_at : List ℕ → List ℕ → ℕ → TableIndex → StringPlace → FieldMeaning
named_at m s flag index value = field_at m s (Literal flag (Index index) value)

-- the field of a literal there whose name is a string
abbrev pub literal_at : List ℕ → ℕ → StringPlace → StringPlace → Field
literal_at s flag name value = record { flag = flag; name = string_bytes s name; value = string_bytes s value }

abbrev pub IsField : FieldMeaning → Type 0
IsField (field f) = Unit {0}
IsField (meaning.FieldMeaning.waits i) = ⊥

-- the bytes of its field; none if it waits
abbrev pub field_bytes : FieldMeaning → List ℕ
field_bytes (field f) = field_form f
field_bytes (meaning.FieldMeaning.waits i) = []

abbrev pub field_measured : FieldMeaning → Survey
field_measured (field f) = Bytes (length (field_form f))
field_measured (meaning.FieldMeaning.waits i) = Waits (record { value = i })

-- ---- a whole block

-- the block was read whole, without a refusal
abbrev pub ReadsWell : List ℕ → Type 0
ReadsWell s = (rs : List Representation) × (read_block s ≡ block rs)

-- its representations
abbrev pub representations : BlockRead → List Representation
representations (block rs) = rs
representations (reading.BlockRead.refused why) = []

-- what they mean against the table in memory
unfoldable pub meaning_of : List ℕ → List ℕ → BlockMeaning
meaning_of m s = block_meaning (lookup (decoder_of m)) (representations (read_block s))

abbrev pub IsList : BlockMeaning → Type 0
IsList (list fs) = Unit {0}
IsList (meaning.BlockMeaning.waits i) = ⊥

-- the bytes of its fields; none if it waits
abbrev pub list_bytes : BlockMeaning → List ℕ
list_bytes (list fs) = list_form fs
list_bytes (meaning.BlockMeaning.waits i) = []

abbrev pub block_measured : BlockMeaning → Survey
block_measured (list fs) = Bytes (length (list_form fs))
block_measured (meaning.BlockMeaning.waits i) = Waits (record { value = i })
