-- What a block means, over a lookup of entries by index: its fields, or the first index in byte order that is vacant.
use Rattle.std.specs.Prelude.{ℕ, Bool, false, leb}
use mathlib.Core.List.{List, [], ◌∷◌, ◌++◌, Memᴰ}
use Rattle.memory.specs.Choice.{pick}
use Rattle.wire.specs.Name.{indexed as by_index, literal as by_bytes}
use Rattle.statics.specs.Table.{last_static, Entry, entry_at}
use Rattle.fields.specs.Form.{Field}
use Rattle.blocks.specs.Representation.{Representation, indexed, literal}

-- what an index names
pub data Slot : Type 0 where
  vacant : Slot
  holds : Entry → Slot

-- "Indexes 1 to 61 are static."
unfoldable pub is_static : ℕ → Bool
is_static i = pick (leb 1 i) (leb i last_static) false

-- an index that is not static is the header table's
unfoldable pub with_statics : (ℕ → Slot) → ℕ → Slot
with_statics dynamic i = pick (is_static i) (holds (entry_at i)) (dynamic i)

-- a field, or the vacant index that it names
pub data FieldMeaning : Type 0 where
  field : Field → FieldMeaning
  waits : ℕ → FieldMeaning

abbrev pub on_slot : ℕ → Slot → (Entry → Field) → FieldMeaning
on_slot i vacant f = waits i
on_slot i (holds e) f = field (f e)

-- "A field read from an indexed representation has 0; a literal carries its N bit."
unfoldable pub field_meaning : (ℕ → Slot) → Representation → FieldMeaning
field_meaning lookup (indexed i) = on_slot i (lookup i) (λ e. record { flag = 0; name = e.name; value = e.value })
field_meaning lookup (literal flag (by_index i) value) = on_slot i (lookup i) (λ e. record { flag = flag; name = e.name; value = value })
field_meaning lookup (literal flag (by_bytes name) value) = field (record { flag = flag; name = name; value = value })

-- the fields of a block, or the first vacant index
pub data BlockMeaning : Type 0 where
  list : List Field → BlockMeaning
  waits : ℕ → BlockMeaning

abbrev pub after_field : FieldMeaning → BlockMeaning → BlockMeaning
after_field (FieldMeaning.waits i) rest = BlockMeaning.waits i
after_field (field f) (BlockMeaning.waits i) = BlockMeaning.waits i
after_field (field f) (list fs) = list (f ∷ fs)

unfoldable pub block_meaning : (ℕ → Slot) → List Representation → BlockMeaning
block_meaning lookup [] = list []
block_meaning lookup (r ∷ rs) = after_field (field_meaning lookup r) (block_meaning lookup rs)

-- "Blocks refer to or name a slot by index or for a name": the index that a representation names
abbrev pub references : Representation → List ℕ
references (indexed i) = i ∷ []
references (literal flag (by_index i) value) = i ∷ []
references (literal flag (by_bytes name) value) = []

-- the indexes that a block names, in byte order
unfoldable pub block_references : List Representation → List ℕ
block_references [] = []
block_references (r ∷ rs) = references r ++ block_references rs

-- the block names the index i
abbrev pub Refers : List Representation → ℕ → Type 0
Refers rs i = Memᴰ i (block_references rs)
