-- The host's field list form: "fields one after another: a byte 0 or 1 (1: never store), name length, name, value length, value.
-- Lengths are in groups of seven bits, low first, top bit for more, shortest form only .. The empty list is no bytes."
use Rattle.std.specs.Prelude.{ℕ, ◌+◌, ◌<◌, ◌≤◌, List, [], ◌∷◌, ◌++◌, length, ltb}
use Rattle.memory.specs.Choice.{pick}
use Rattle.integers.specs.Integer.{group_wire}
use Rattle.wire.specs.Text.{name_limit, value_limit}

-- a header field; the flag 1 says that it is never stored
pub record Field : Type 0 where
  pub flag : ℕ
  pub name : List ℕ
  pub value : List ℕ

-- "A name has 0 to 255 bytes, a value 0 to 2,047"
pub record FineField (f : Field) : Type 0 where
  pub flag_bit : f.flag < 2
  pub name_short : length f.name ≤ name_limit
  pub value_short : length f.value ≤ value_limit

-- a length, in one or two groups of seven bits
abbrev pub length_form : ℕ → List ℕ
length_form n = group_wire 3 n

-- a length before its bytes
unfoldable pub text_form : List ℕ → List ℕ
text_form xs = length_form (length xs) ++ xs

unfoldable pub field_form : Field → List ℕ
field_form f = f.flag ∷ (text_form f.name ++ text_form f.value)

-- the list of fields, as bytes
unfoldable pub list_form : List Field → List ℕ
list_form [] = []
list_form (f ∷ fs) = field_form f ++ list_form fs

abbrev pub AllFine : List Field → Type 0
AllFine [] = Unit {0}
AllFine (f ∷ fs) = FineField f × AllFine fs

-- how many bytes a field takes, by the lengths of its name and its value
abbrev pub text_size : ℕ → ℕ
text_size n = pick (ltb n 128) 1 2 + n

unfoldable pub field_size : ℕ → ℕ → ℕ
field_size name value = 1 + text_size name + text_size value
