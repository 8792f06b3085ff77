-- The places of the state memory (docs/STATE.md). Head, marks, columns and text keep them in later requests.
use Rattle.std.specs.Prelude.{ℕ, ◌+◌, ◌*◌, ◌-◌, List, get_or}
use Rattle.memory.specs.Numbers.{number}
use Rattle.model.specs.Parts.{Part, nontrailer, trailer}

-- "State memory is at most 64 KiB per table; docs/ fixes the length"
abbrev pub decoder_length : ℕ
decoder_length = 35912

abbrev pub encoder_length : ℕ
encoder_length = 16960

-- what the role byte says, and the edition byte: February, the draft's second month
abbrev pub decoder_role : ℕ
decoder_role = 1

abbrev pub encoder_role : ℕ
encoder_role = 2

abbrev pub february : ℕ
february = 2

-- head, marks, columns and text, which both ends have, and room behind them
abbrev pub front_length : ℕ
front_length = 7232

-- the marks of a kind of part: 512 bytes each
abbrev pub marks_place : Part → ℕ
marks_place nontrailer = 64
marks_place trailer = 576

-- the columns: of each row its index, where its text starts, how long its name is, and its status. In front of the first index stands 61, below every
-- index of the table; behind the last row's text offset stands where the text ends
abbrev pub indexes_place : ℕ
indexes_place = 1088

abbrev pub offsets_place : ℕ
offsets_place = 1604

abbrev pub name_lengths_place : ℕ
name_lengths_place = 1862

abbrev pub statuses_place : ℕ
statuses_place = 1990

abbrev pub text_place : ℕ
text_place = 2246

-- what stands in front of the first index
abbrev pub before_first : ℕ
before_first = 61

-- after the text: at the decoder the deletes in order of arrival
abbrev pub deletes_place : ℕ
deletes_place = 7232

abbrev pub delete_place : ℕ → ℕ
delete_place k = 7232 + 76 * k

-- a delete's two stream lists, and the streams of one
abbrev pub nontrailer_list : ℕ → ℕ
nontrailer_list k = delete_place k + 4

abbrev pub trailer_list : ℕ → ℕ
trailer_list k = delete_place k + 40

abbrev pub listed_place : ℕ → ℕ
listed_place at = at + 4

-- at the encoder what an entry's delete will be made from: a column of horizons for each kind of part, by row
abbrev pub nontrailer_horizons : ℕ
nontrailer_horizons = 7232

abbrev pub trailer_horizons : ℕ
trailer_horizons = 7488

abbrev pub nontrailer_place : ℕ → ℕ
nontrailer_place i = 7232 + 2 * i

abbrev pub trailer_place : ℕ → ℕ
trailer_place i = 7488 + 2 * i

-- ---- the head: role, edition, limit, held size, entry count, number of deletes, then zeros
abbrev pub head_length : ℕ
head_length = 64

abbrev pub limit_place : ℕ
limit_place = 2

abbrev pub held_place : ℕ
held_place = 4

abbrev pub count_place : ℕ
count_place = 6

abbrev pub delete_count_place : ℕ
delete_count_place = 8

abbrev pub role_of : List ℕ → ℕ
role_of m = get_or m 0 0

abbrev pub edition_of : List ℕ → ℕ
edition_of m = get_or m 1 0

abbrev pub limit_of : List ℕ → ℕ
limit_of m = number 2 m limit_place

abbrev pub held_of : List ℕ → ℕ
held_of m = number 2 m held_place

abbrev pub count_of : List ℕ → ℕ
count_of m = number 2 m count_place

abbrev pub delete_count : List ℕ → ℕ
delete_count m = number 2 m delete_count_place

-- ---- row i
abbrev pub index_place : ℕ → ℕ
index_place i = 1092 + 4 * i

abbrev pub offset_place : ℕ → ℕ
offset_place i = 1604 + 2 * i

abbrev pub name_length_place : ℕ → ℕ
name_length_place i = 1862 + i

abbrev pub status_place : ℕ → ℕ
status_place i = 1990 + 2 * i

abbrev pub index_at : List ℕ → ℕ → ℕ
index_at m i = number 4 m (index_place i)

-- the index of the row before it, and in front of the first row 61
abbrev pub index_before : List ℕ → ℕ → ℕ
index_before m i = number 4 m (1088 + 4 * i)

abbrev pub offset_at : List ℕ → ℕ → ℕ
offset_at m i = number 2 m (offset_place i)

abbrev pub name_length_at : List ℕ → ℕ → ℕ
name_length_at m i = number 1 m (name_length_place i)

-- its text ends where that of the next row starts; of it the name takes the first bytes and the value the others
abbrev pub text_length_at : List ℕ → ℕ → ℕ
text_length_at m i = offset_at m (i + 1) - offset_at m i

abbrev pub value_length_at : List ℕ → ℕ → ℕ
value_length_at m i = text_length_at m i - name_length_at m i

-- at the decoder 0, or the place of the entry's delete and one; at the encoder 1 where the entry is under deletion, else 0
abbrev pub status_at : List ℕ → ℕ → ℕ
status_at m i = number 2 m (status_place i)

-- ---- delete k, and the list at a place
abbrev pub delete_index_at : List ℕ → ℕ → ℕ
delete_index_at m k = number 4 m (delete_place k)

abbrev pub horizon_at : List ℕ → ℕ → ℕ
horizon_at m at = number 2 m at

abbrev pub listed_count_at : List ℕ → ℕ → ℕ
listed_count_at m at = number 2 m (at + 2)
