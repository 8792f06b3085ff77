-- The decoder's state and its bytes. After the front stand the deletes, in order of arrival, 76 bytes each.
use Rattle.std.specs.Prelude.{ℕ, zero, suc, ◌+◌, ◌*◌, ◌-◌, List, [], ◌∷◌, ◌++◌, map, length, replicate, eqb}
use Rattle.memory.specs.Choice.{pick}
use Rattle.memory.specs.Bytes.{overlay}
use Rattle.memory.specs.Numbers.{number, number_bytes}
use Rattle.stream_lists.specs.StreamList.{StreamList}
use Rattle.model.specs.Parts.{Delete}
use Rattle.model.specs.Decoder.{Held, Decoder}
use Rattle.state.specs.Layout.{
  decoder_role,
  deletes_place,
  nontrailer_list,
  trailer_list,
  listed_place,
  limit_of,
  count_of,
  delete_count,
  delete_index_at,
  horizon_at,
  listed_count_at,
}
use Rattle.state.specs.Rows.{Row, rows_of}
use Rattle.state.specs.Front.{Front, marks_of, overlay_front}

-- ---- reading

-- n stream numbers of two bytes
unfoldable pub streams_at : ℕ → List ℕ → ℕ → List ℕ
streams_at zero m at = []
streams_at (suc n) m at = number 2 m at ∷ streams_at n m (at + 2)

-- a stream list: horizon, count, and 16 places for streams
unfoldable pub list_at : List ℕ → ℕ → StreamList
list_at m at = record { horizon = horizon_at m at; streams = streams_at (listed_count_at m at) m (listed_place at) }

unfoldable pub delete_at : List ℕ → ℕ → Delete
delete_at m k = record { index = delete_index_at m k; nontrailer = list_at m (nontrailer_list k); trailer = list_at m (trailer_list k) }

-- the n deletes from delete k on
unfoldable pub deletes_of : List ℕ → ℕ → ℕ → List Delete
deletes_of m k zero = []
deletes_of m k (suc n) = delete_at m k ∷ deletes_of m (k + 1) n

abbrev pub held_of_row : Row → Held
held_of_row r = record { index = r.index; entry = r.entry }

-- the state that memory stands for
unfoldable pub decoder_of : List ℕ → Decoder
decoder_of m = record {
  limit = limit_of m;
  entries = map held_of_row (rows_of m 0 (count_of m));
  deletes = deletes_of m 0 (delete_count m);
  finished = marks_of m;
}

-- ---- writing

unfoldable pub streams_bytes : List ℕ → List ℕ
streams_bytes [] = []
streams_bytes (x ∷ xs) = number_bytes 2 x ++ streams_bytes xs

-- "unused places 0"
unfoldable pub list_bytes : StreamList → List ℕ
list_bytes l =
    number_bytes 2 l.horizon ++ (number_bytes 2 (length l.streams) ++ (streams_bytes l.streams ++ replicate (32 - 2 * length l.streams) 0))

unfoldable pub delete_bytes : Delete → List ℕ
delete_bytes d = number_bytes 4 d.index ++ (list_bytes d.nontrailer ++ list_bytes d.trailer)

unfoldable pub deletes_bytes : List Delete → List ℕ
deletes_bytes [] = []
deletes_bytes (d ∷ ds) = delete_bytes d ++ deletes_bytes ds

-- where the delete of the entry with this index stands, counted from k and one more; 0 if it is not under deletion
unfoldable pub place_from : ℕ → ℕ → List Delete → ℕ
place_from k index [] = 0
place_from k index (d ∷ ds) = pick (eqb d.index index) (k + 1) (place_from (k + 1) index ds)

unfoldable pub row_of_held : List Delete → Held → Row
row_of_held ds h = record { index = h.index; entry = h.entry; status = place_from 0 h.index ds }

unfoldable pub decoder_front : Decoder → Front
decoder_front D = record {
  role = decoder_role;
  limit = D.limit;
  rows = map (row_of_held D.deletes) D.entries;
  deletes = length D.deletes;
  marks = D.finished;
}

-- m, with the bytes of the state over it: every byte of a used part is determined, every other byte stays as it was
unfoldable pub overlay_decoder : Decoder → List ℕ → List ℕ
overlay_decoder D m = overlay (overlay_front (decoder_front D) m) deletes_place (deletes_bytes D.deletes)
