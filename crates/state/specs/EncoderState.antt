-- The encoder's state and its bytes. After the front stand two columns of horizons, by row: what an entry's delete will be made from, for each kind of part.
use Rattle.std.specs.Prelude.{ℕ, zero, suc, ◌+◌, List, [], ◌∷◌, map, eqb}
use Rattle.memory.specs.Choice.{pick}
use Rattle.memory.specs.Numbers.{number}
use Rattle.columns.specs.Columns.{column_bytes}
use Rattle.columns.specs.Pieces.{Piece, piece, overlays}
use Rattle.model.specs.Encoder.{Sent, Encoder}
use Rattle.state.specs.Layout.{
  encoder_role,
  nontrailer_horizons,
  trailer_horizons,
  nontrailer_place,
  trailer_place,
  limit_of,
  count_of,
  index_at,
  status_at,
}
use Rattle.state.specs.Rows.{Row, name_at, value_at}
use Rattle.state.specs.Front.{Front, marks_of, overlay_front}

-- ---- reading

-- the horizons of row i
abbrev pub nontrailer_at : List ℕ → ℕ → ℕ
nontrailer_at m i = number 2 m (nontrailer_place i)

abbrev pub trailer_at : List ℕ → ℕ → ℕ
trailer_at m i = number 2 m (trailer_place i)

-- the entry in row i
unfoldable pub sent_at : List ℕ → ℕ → Sent
sent_at m i = record {
  index = index_at m i;
  entry = record { name = name_at m i; value = value_at m i };
  nontrailer = nontrailer_at m i;
  trailer = trailer_at m i;
  deleted = eqb (status_at m i) 1;
}

-- the k entries from row i on
unfoldable pub sents_of : List ℕ → ℕ → ℕ → List Sent
sents_of m i zero = []
sents_of m i (suc k) = sent_at m i ∷ sents_of m (i + 1) k

-- the state that memory stands for
unfoldable pub encoder_of : List ℕ → Encoder
encoder_of m = record { limit = limit_of m; entries = sents_of m 0 (count_of m); written = marks_of m }

-- ---- writing

unfoldable pub row_of_sent : Sent → Row
row_of_sent e = record { index = e.index; entry = e.entry; status = pick e.deleted 1 0 }

unfoldable pub encoder_front : Encoder → Front
encoder_front E = record { role = encoder_role; limit = E.limit; rows = map row_of_sent E.entries; deletes = 0; marks = E.written }

abbrev pub nontrailer_of : Sent → ℕ
nontrailer_of e = e.nontrailer

abbrev pub trailer_of : Sent → ℕ
trailer_of e = e.trailer

-- the two columns
abbrev pub horizon_pieces : List Sent → List Piece
horizon_pieces es =
    piece nontrailer_horizons (column_bytes 2 (map nontrailer_of es)) ∷ piece trailer_horizons (column_bytes 2 (map trailer_of es)) ∷ []

-- m, with the bytes of the state over it
unfoldable pub overlay_encoder : Encoder → List ℕ → List ℕ
overlay_encoder E m = overlays (overlay_front (encoder_front E) m) (horizon_pieces E.entries)
