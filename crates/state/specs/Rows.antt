-- The rows of a table and their text: read from memory, and as bytes. Names and values stand in the order of the rows, with no gaps.
use Rattle.std.specs.Prelude.{ℕ, zero, suc, ◌+◌, List, [], ◌∷◌, ◌++◌, length}
use Rattle.memory.specs.Bytes.{part}
use Rattle.statics.specs.Table.{Entry}
use Rattle.model.specs.Table.{size, total}
use Rattle.state.specs.Layout.{index_at, offset_at, name_length_at, value_length_at, status_at, text_place}

-- what a row stands for
pub record Row : Type 0 where
  pub index : ℕ
  pub entry : Entry
  pub status : ℕ

abbrev pub row_index : Row → ℕ
row_index r = r.index

-- ---- reading

abbrev pub name_at : List ℕ → ℕ → List ℕ
name_at m i = part m (text_place + offset_at m i) (name_length_at m i)

abbrev pub value_at : List ℕ → ℕ → List ℕ
value_at m i = part m (text_place + offset_at m i + name_length_at m i) (value_length_at m i)

abbrev pub row_at : List ℕ → ℕ → Row
row_at m i = record { index = index_at m i; entry = record { name = name_at m i; value = value_at m i }; status = status_at m i }

-- the k rows from row i on
unfoldable pub rows_of : List ℕ → ℕ → ℕ → List Row
rows_of m i zero = []
rows_of m i (suc k) = row_at m i ∷ rows_of m (i + 1) k

-- ---- writing

abbrev pub text_of : Entry → List ℕ
text_of e = e.name ++ e.value

-- the numbers of the columns
abbrev pub name_length : Row → ℕ
name_length r = length r.entry.name

abbrev pub row_status : Row → ℕ
row_status r = r.status

-- where the texts of rows start that stand from the offset on, and where the last one ends
unfoldable pub offsets_from : ℕ → List Row → List ℕ
offsets_from offset [] = offset ∷ []
offsets_from offset (r ∷ rs) = offset ∷ offsets_from (offset + length (text_of r.entry)) rs

unfoldable pub text_bytes : List Row → List ℕ
text_bytes [] = []
text_bytes (r ∷ rs) = text_of r.entry ++ text_bytes rs

-- "The held size is the sum over all entries held"
unfoldable pub rows_size : List Row → ℕ
rows_size rs = total row_index (λ r. size r.entry) rs
