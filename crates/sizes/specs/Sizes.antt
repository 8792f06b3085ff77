-- How many bytes integers, strings, instructions and representations take on the wire, without writing them.
use Rattle.std.specs.Prelude.{ℕ, ◌+◌, ◌-◌, ◌^◌, ltb}
use Rattle.memory.specs.Choice.{pick}

-- groups of seven bits, at most four
unfoldable pub groups_size : ℕ → ℕ
groups_size v = pick (ltb v 128) 1 (pick (ltb v 16384) 2 (pick (ltb v 2097152) 3 4))

-- an integer with a prefix of k bits: in the prefix, or all ones and groups
unfoldable pub int_size : ℕ → ℕ → ℕ
int_size k v = pick (ltb v (2 ^ k - 1)) 1 (1 + groups_size (v - (2 ^ k - 1)))

-- a string that takes n bytes behind its length, plain or packed (wire's `wire_size`)
unfoldable pub string_size : ℕ → ℕ
string_size n = int_size 7 n + n

-- "Insert: bit 1, new index (7-bit prefix), name index (8-bit prefix; 0 means a name string follows), value string."
unfoldable pub insert_index_size : ℕ → ℕ → ℕ → ℕ
insert_index_size index name value = int_size 7 index + (int_size 8 name + string_size value)

unfoldable pub insert_text_size : ℕ → ℕ → ℕ → ℕ
insert_text_size index name value = int_size 7 index + (1 + string_size name + string_size value)

-- a delete with empty lists
unfoldable pub delete_size : ℕ → ℕ → ℕ → ℕ
delete_size index nontrailer trailer = int_size 6 index + (int_size 8 nontrailer + 1 + (int_size 8 trailer + 1))

-- "Literal is bit 0, N, name index (6-bit prefix; 0 means a name string follows), value string."
unfoldable pub literal_index_size : ℕ → ℕ → ℕ
literal_index_size name value = int_size 6 name + string_size value

unfoldable pub literal_text_size : ℕ → ℕ → ℕ
literal_text_size name value = 1 + string_size name + string_size value
