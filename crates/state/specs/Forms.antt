-- What forms a state: "docs/ says exactly what forms one". A computed test, linear in what is used. docs/STATE.md has the bytes that it looks at.
use Rattle.std.specs.Prelude.{ℕ, zero, suc, ◌+◌, ◌*◌, ◌-◌, Bool, true, ◌&&◌, List, length, eqb, ltb, leb}
use Rattle.memory.specs.Choice.{pick}
use Rattle.memory.specs.Numbers.{number}
use Rattle.memory.specs.Compare.{zeros_at}
use Rattle.integers.specs.Integer.{largest}
use Rattle.state.specs.Layout.{
  decoder_length,
  encoder_length,
  decoder_role,
  encoder_role,
  february,
  nontrailer_list,
  trailer_list,
  listed_place,
  role_of,
  edition_of,
  limit_of,
  held_of,
  count_of,
  delete_count,
  before_first,
  index_at,
  index_before,
  offset_at,
  name_length_at,
  value_length_at,
  status_at,
  delete_index_at,
  horizon_at,
  listed_count_at,
}
use Rattle.state.specs.EncoderState.{nontrailer_at, trailer_at}

-- enough bytes; role; edition; "a held size or limit above 4,096, does not" form a state; "The list has 128 places"; zeros to the head's end
unfoldable pub head_ok : ℕ → ℕ → List ℕ → Bool
head_ok role bytes m =
    leb bytes (length m) && (eqb (role_of m) role && (eqb (edition_of m) february
    && (leb (limit_of m) 4096 && (leb (held_of m) 4096 && (leb (count_of m) 128 && zeros_at 54 m 10)))))

-- a test that each of the k rows from row i on passes
unfoldable pub each : (ℕ → Bool) → ℕ → ℕ → Bool
each test zero i = true
each test (suc k) i = test i && each test k (i + 1)

-- "Memory with two entries at one index .. does not" form a state: each index is above the one before it
unfoldable pub index_ok : List ℕ → ℕ → Bool
index_ok m i = ltb (index_before m i) (index_at m i)

-- the text of a row ends within the table's, and has room for its name and a value of at most 2,047 bytes. The length of a name has one byte
unfoldable pub text_ok : List ℕ → ℕ → Bool
text_ok m i =
    leb (offset_at m (i + 1)) 4096 && (leb (offset_at m i + name_length_at m i) (offset_at m (i + 1)) && leb (value_length_at m i) 2047)

-- n indexes from 62 to top, in order, and texts from 0 on: "a held size that is not their sum" does not form a state
unfoldable pub columns_ok : List ℕ → ℕ → ℕ → Bool
columns_ok m top n =
    eqb (index_before m 0) before_first && (leb (index_before m n) top && (eqb (offset_at m 0) 0 && (eqb (offset_at m n + 32 * n) (held_of m)
    && each (index_ok m) n 0)))

-- n rows
unfoldable pub rows_ok : List ℕ → ℕ → ℕ → Bool
rows_ok m top n = columns_ok m top n && each (text_ok m) n 0

-- ---- decoder

-- the row's status is 0, or points at a delete with its index
unfoldable pub status_ok : List ℕ → ℕ → Bool
status_ok m i =
    pick (eqb (status_at m i) 0) true
    (leb (status_at m i) (delete_count m) && eqb (delete_index_at m (status_at m i - 1)) (index_at m i))

-- how many of the k rows from row i on point at a delete
unfoldable pub pointing : List ℕ → ℕ → ℕ → ℕ
pointing m zero i = 0
pointing m (suc k) i = pick (eqb (status_at m i) 0) 0 1 + pointing m k (i + 1)

-- k streams from the place at on, each above the one before it and at most 4,095
unfoldable pub streams_ok : List ℕ → ℕ → ℕ → ℕ → Bool
streams_ok m zero at last = true
streams_ok m (suc k) at last = ltb last (number 2 m at) && (leb (number 2 m at) 4095 && streams_ok m k (at + 2) (number 2 m at))

-- "Horizon at most 4,096, count at most 16"; the unused places are 0
unfoldable pub list_ok : List ℕ → ℕ → Bool
list_ok m at =
    leb (horizon_at m at) 4096 && (leb (listed_count_at m at) 16
    && (streams_ok m (listed_count_at m at) (listed_place at) (horizon_at m at)
    && zeros_at (32 - 2 * listed_count_at m at) m (listed_place at + 2 * listed_count_at m at)))

unfoldable pub deletes_ok : List ℕ → ℕ → ℕ → Bool
deletes_ok m zero k = true
deletes_ok m (suc n) k = list_ok m (nontrailer_list k) && (list_ok m (trailer_list k) && deletes_ok m n (k + 1))

-- as many rows point at a delete as there are deletes. Rows have different indexes, so two never point at one delete:
-- every delete has its row, and no index has two deletes
unfoldable pub forms_decoder : List ℕ → Bool
forms_decoder m =
    head_ok decoder_role decoder_length m && (leb (delete_count m) 256 && (rows_ok m largest (count_of m) && (each (status_ok m) (count_of m) 0
    && (eqb (pointing m (count_of m) 0) (delete_count m) && deletes_ok m (delete_count m) 0))))

-- ---- encoder

-- under deletion or not, and both horizons at most 4,096
unfoldable pub reference_ok : List ℕ → ℕ → Bool
reference_ok m i = leb (status_at m i) 1 && (leb (nontrailer_at m i) 4096 && leb (trailer_at m i) 4096)

-- "the lowest from 62 that is not held" is at most 189
unfoldable pub forms_encoder : List ℕ → Bool
forms_encoder m =
    head_ok encoder_role encoder_length m && (eqb (delete_count m) 0 && (rows_ok m 189 (count_of m) && each (reference_ok m) (count_of m) 0))
