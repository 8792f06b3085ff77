-- What every call promises beside its definition: refusals change nothing, "done" tells what was written, and what the enquiry's numbers mean.
use Rattle.std.specs.Prelude.{◌≡◌, ◌↔◌, ◌⊎◌, ℕ, ◌≤◌, ◌<◌, true, false, List, length}
use Rattle.std.proofs.Math.Option.{some}
use Rattle.fields.specs.Form.{Field}
use Rattle.blocks.specs.Representation.{Representation}
use Rattle.model.specs.Parts.{Part, nontrailer, trailer, part_number, over, ended, Delete, names_part, streams}
use Rattle.model.specs.Outcome.{nothing, output_bytes, Outcome, finish}
use Rattle.model.specs.Decoder.{Decoder, delete_of, ready, FormsDecoder}
use Rattle.model.specs.DecoderCalls.{DecoderCall, close, collect, hold, decoder_call}
use Rattle.model.specs.DecoderCalls as at-decoder
use Rattle.model.specs.Encoder.{Encoder}
use Rattle.model.specs.EncoderCalls.{EncoderCall, insert, delete, encoder_call}
use Rattle.model.specs.EncoderCalls as at-encoder
use Rattle.model_laws.specs.Ready.{AbstractCouldStill}

-- "Every number but 0 leaves state and buffers unchanged."
abbrev pub Unchanged : {S : Type 0} → S → Outcome S → Type 0
Unchanged s o = (o.answer.number ≡ 0 → ⊥) → (o.state ≡ s) × (o.output ≡ nothing)

-- the bytes written have room, and "done" tells how many they are
pub record Tells {S : Type 0} (room : ℕ) (o : Outcome S) : Type 0 where
  pub told : o.answer.number ≡ 0 → o.answer.first ≡ length (output_bytes o.output)
  pub fits : length (output_bytes o.output) ≤ room

-- "tells how many named parts are unfinished and the lowest stream having one (4,096 if none)"
pub record HoldTells (D : Decoder) (i : ℕ) (d : Delete) : Type 0 where
  pub count : ℕ
  pub lowest : ℕ
  pub told : decoder_call D (hold i) ≡ finish D count lowest nothing
  pub none_when_ready : (count ≡ 0) ↔ (ready D i ≡ true)
  pub before : (s : ℕ) (p : Part) → s < lowest → names_part d s p ≡ true → D.finished s p ≡ true
  pub there : (lowest ≡ streams) ⊎ ((p : Part) × (lowest < streams) × (names_part d lowest p ≡ true) × (D.finished lowest p ≡ false))

pub record Promises : Type 0 where
  -- an answer other than 0 changes nothing and writes nothing
  pub decoder_refused : (D : Decoder) (c : DecoderCall) → Unchanged D (decoder_call D c)
  pub encoder_refused : (E : Encoder) (c : EncoderCall) → Unchanged E (encoder_call E c)
  -- "On 0 only the told count of output bytes is written", and they have room
  pub decoded : (D : Decoder) (s part : ℕ) (rs : List Representation) (room : ℕ) → Tells room (decoder_call D (at-decoder.block s part rs room))
  pub collected : (D : Decoder) (room : ℕ) → Tells room (decoder_call D (collect room))
  pub inserted : (E : Encoder) (name value : List ℕ) (room : ℕ) → Tells room (encoder_call E (insert name value room))
  pub deleted : (E : Encoder) (i room : ℕ) → Tells room (encoder_call E (delete i room))
  pub encoded : (E : Encoder) (s part : ℕ) (fs : List Field) (room : ℕ) → Tells room (encoder_call E (at-encoder.block s part fs room))
  -- "a non-trailer block does not finish its part": it leaves the state as it was
  pub nontrailer_leaves : (D : Decoder) (s : ℕ) (rs : List Representation) (room : ℕ)
      → (decoder_call D (at-decoder.block s (part_number nontrailer) rs room)).state ≡ D
  -- "a trailer block is answered "done", which finishes both": no block of either part is accepted any more
  pub trailer_finishes : (D : Decoder) (s : ℕ) (p : Part) (rs : List Representation) (room : ℕ)
      → (decoder_call D (at-decoder.block s (part_number trailer) rs room)).answer.number ≡ 0
      → (qs : List Representation) → AbstractCouldStill (decoder_call D (at-decoder.block s (part_number trailer) rs room)).state s p qs → ⊥
  -- "The host says "non-trailer part over""
  pub over_finishes : (D : Decoder) (s : ℕ) → s < streams → (rs : List Representation) → AbstractCouldStill (decoder_call D (close over s)).state s nontrailer rs → ⊥
  -- "a stream has ended or was reset: both parts are finished"
  pub ended_finishes : (D : Decoder) (s : ℕ) (p : Part) → s < streams → (rs : List Representation) → AbstractCouldStill (decoder_call D (close ended s)).state s p rs → ⊥
  -- the hold enquiry about an entry under deletion
  pub hold_tells : (D : Decoder) → FormsDecoder D → (i : ℕ) (d : Delete) → delete_of D i ≡ some d → HoldTells D i d
