-- Memory of bytes stays one of bytes where a state of bytes is laid over it, and the state that it stands for has bytes alone.
-- By the parts of a state: numbers are bytes anyhow, names and values are parts of memory.
use Prim.Native.Nat.{ℕ, zero, suc, ◌+◌, ◌*◌, ◌-◌, ◌<◌}
use native.Mathlib.Omega.{arith}
use mathlib.Core.Bool.{Bool, not}
use mathlib.Core.List.{List, [], ◌∷◌, ◌++◌}
use lib.ListN.{length, replicate}
use Rattle.memory.specs.Bytes.{Small, overlay}
use Rattle.memory.specs.Numbers.{number_bytes}
use Rattle.memory.proofs.Overlay.{small-overlay, small-cons, small-append, small-part}
use Rattle.memory.proofs.Numbers.{small-number_bytes}
use Rattle.columns.specs.Columns.{column_bytes}
use Rattle.columns.specs.Pieces.{Piece, overlays}
use Rattle.marks.specs.Marks.{word_of, words_bytes}
use Rattle.stream_lists.specs.StreamList.{StreamList}
use Rattle.statics.specs.Table.{Entry}
use Rattle.model.specs.Parts.{nontrailer, trailer, Marks, Delete}
use Rattle.model.specs.Decoder.{Held, Decoder}
use Rattle.model.specs.Encoder.{Sent, Encoder}
use Rattle.state.specs.Layout.{
  deletes_place,
  text_place,
  offset_at,
  name_length_at,
  value_length_at,
  count_of,
}
use Rattle.state.specs.Rows.{Row, rows_of, text_of, text_bytes, rows_size}
use Rattle.state.specs.Front.{Front, head_bytes, marks_bytes, front_pieces, overlay_front}
use Rattle.state.specs.DecoderState.{
  held_of_row,
  decoder_of,
  streams_bytes,
  list_bytes,
  delete_bytes,
  deletes_bytes,
  row_of_held,
  decoder_front,
  overlay_decoder,
}
use Rattle.state.specs.EncoderState.{sent_at, sents_of, encoder_of, row_of_sent, encoder_front, horizon_pieces, overlay_encoder}
use Rattle.state_laws.proofs.Each.{Each, each_map}

-- a list of bytes: a record, so that antt finds the list
record Bytes (l : List ℕ) : Type 0 where
  small : Small l

no_bytes : Bytes []
no_bytes = record { small = λ k. omega arith }

byte : {v : ℕ} {vs : List ℕ} → v < 256 → Bytes vs → Bytes (v ∷ vs)
byte {v = v} {vs = vs} h s = record { small = small-cons v vs h s.small }

join : {xs ys : List ℕ} → Bytes xs → Bytes ys → Bytes (xs ++ ys)
join {xs = xs} {ys = ys} s t = record { small = small-append xs ys s.small t.small }

number : (n v : ℕ) → Bytes (number_bytes n v)
number n v = record { small = small-number_bytes n v }

zeros : (n : ℕ) → Bytes (replicate n 0)
zeros zero = no_bytes
zeros (suc n) = byte (omega arith) (zeros n)

over : (m : List ℕ) (at : ℕ) (vs : List ℕ) → Bytes m → Bytes vs → Bytes (overlay m at vs)
over m at vs s t = record { small = small-overlay m at vs s.small t.small }

-- ---- entries of bytes

abbrev pub SmallEntry : Entry → Type 0
SmallEntry e = Small e.name × Small e.value

abbrev pub SmallRow : Row → Type 0
SmallRow r = SmallEntry r.entry

abbrev pub SmallHeld : Held → Type 0
SmallHeld h = SmallEntry h.entry

abbrev pub SmallSent : Sent → Type 0
SmallSent e = SmallEntry e.entry

-- ---- the front

column-bytes : (w : ℕ) (xs : List ℕ) → Bytes (column_bytes w xs)
unfolding column_bytes
column-bytes w [] = no_bytes
column-bytes w (x ∷ xs) = join (number w x) (column-bytes w xs)

text-bytes : (rs : List Row) → Each SmallRow rs → Bytes (text_bytes rs)
unfolding text_bytes
text-bytes [] s = no_bytes
text-bytes (r ∷ rs) s =
    join {xs = text_of r.entry} (record { small = small-append r.entry.name r.entry.value s.0.0 s.0.1 }) (text-bytes rs s.1)

words-bytes : (g : ℕ → Bool) (s n : ℕ) → Bytes (words_bytes g s n)
unfolding words_bytes
words-bytes g s zero = no_bytes
words-bytes g s (suc n) = join (number 8 (word_of g s 64)) (words-bytes g (s + 64) n)

marks-bytes : (marks : Marks) → Bytes (marks_bytes marks)
unfolding marks_bytes
marks-bytes marks = join (words-bytes (λ s. not (marks s nontrailer)) 0 64) (words-bytes (λ s. not (marks s trailer)) 0 64)

head_bytes_lem : (f : Front) → f.role < 256 → Bytes (head_bytes f)
unfolding head_bytes
head_bytes_lem f h =
    byte h (byte (omega arith) (join (number 2 f.limit) (join (number 2 (rows_size f.rows)) (join (number 2 (length f.rows))
    (join (number 2 f.deletes) (zeros 54))))))

-- pieces of bytes over memory of bytes
abbrev AllBytes : List Piece → Type 0
AllBytes [] = Unit {0}
AllBytes (p ∷ ps) = Bytes p.bytes × AllBytes ps

overs : (m : List ℕ) (ps : List Piece) → Bytes m → AllBytes ps → Bytes (overlays m ps)
unfolding overlays
overs m [] s t = s
overs m (p ∷ ps) s t = overs (overlay m p.place p.bytes) ps (over m p.place p.bytes s t.0) t.1

front_bytes : (f : Front) (m : List ℕ) → Small m → f.role < 256 → Each SmallRow f.rows → Bytes (overlay_front f m)
unfolding overlay_front front_pieces
front_bytes f m s h e =
    overs m (front_pieces f) (record { small = s })
    (head_bytes_lem f h, (marks-bytes f.marks, (column-bytes 4 _, (column-bytes 2 _, (column-bytes 1 _, (column-bytes 2 _, (text-bytes f.rows e, tt)))))))

-- names and values that memory stands for are parts of it
rows-small : (m : List ℕ) → Small m → (i k : ℕ) → Each SmallRow (rows_of m i k)
unfolding rows_of
rows-small m s i zero = tt
rows-small m s i (suc k) = (
  (small-part m (text_place + offset_at m i) (name_length_at m i) s, small-part m (text_place + offset_at m i + name_length_at m i) (value_length_at m i) s),
  rows-small m s (i + 1) k,
)

-- ---- the decoder

streams-bytes : (xs : List ℕ) → Bytes (streams_bytes xs)
unfolding streams_bytes
streams-bytes [] = no_bytes
streams-bytes (x ∷ xs) = join (number 2 x) (streams-bytes xs)

list-bytes : (l : StreamList) → Bytes (list_bytes l)
unfolding list_bytes
list-bytes l =
    join (number 2 l.horizon) (join (number 2 (length l.streams)) (join (streams-bytes l.streams) (zeros (32 - 2 * length l.streams))))

deletes-bytes : (ds : List Delete) → Bytes (deletes_bytes ds)
unfolding deletes_bytes delete_bytes
deletes-bytes [] = no_bytes
deletes-bytes (d ∷ ds) = join (join (number 4 d.index) (join (list-bytes d.nontrailer) (list-bytes d.trailer))) (deletes-bytes ds)

pub small-decoder : (D : Decoder) (m : List ℕ) → Small m → Each SmallHeld D.entries → Small (overlay_decoder D m)
unfolding overlay_decoder decoder_front row_of_held
small-decoder D m s e =
    (over (overlay_front (decoder_front D) m) deletes_place (deletes_bytes D.deletes)
    (front_bytes (decoder_front D) m s (omega arith) (each_map SmallHeld SmallRow (row_of_held D.deletes) (λ h p. p) D.entries e))
    (deletes-bytes D.deletes)).small

pub decoder_small : (m : List ℕ) → Small m → Each SmallHeld (decoder_of m).entries
unfolding decoder_of
decoder_small m s = each_map SmallRow SmallHeld held_of_row (λ r p. p) (rows_of m 0 (count_of m)) (rows-small m s 0 (count_of m))

-- ---- the encoder

pub small-encoder : (E : Encoder) (m : List ℕ) → Small m → Each SmallSent E.entries → Small (overlay_encoder E m)
unfolding overlay_encoder encoder_front row_of_sent
small-encoder E m s e =
    (overs (overlay_front (encoder_front E) m) (horizon_pieces E.entries)
    (front_bytes (encoder_front E) m s (omega arith) (each_map SmallSent SmallRow row_of_sent (λ x p. p) E.entries e))
    (column-bytes 2 _, (column-bytes 2 _, tt))).small

sents-small : (m : List ℕ) (i k : ℕ) → Each SmallRow (rows_of m i k) → Each SmallSent (sents_of m i k)
unfolding rows_of sents_of sent_at
sents-small m i zero e = tt
sents-small m i (suc k) e = (e.0, sents-small m (i + 1) k e.1)

pub encoder_small : (m : List ℕ) → Small m → Each SmallSent (encoder_of m).entries
unfolding encoder_of
encoder_small m s = sents-small m 0 (count_of m) (rows-small m s 0 (count_of m))
