-- What ties memory to the model's states: four laws for each end.
use Rattle.std.specs.Prelude.{ℕ, ◌≤◌, ◌≡◌, true, false, List, length}
use Rattle.memory.specs.Bytes.{Small}
use Rattle.model.specs.Parts.{Part, Marks, streams}
use Rattle.model.specs.Decoder.{Decoder, FormsDecoder}
use Rattle.model.specs.Encoder.{Encoder, FormsEncoder}
use Rattle.state.specs.Layout.{decoder_length, encoder_length}
use Rattle.state.specs.DecoderState.{decoder_of, overlay_decoder}
use Rattle.state.specs.EncoderState.{encoder_of, overlay_encoder}
use Rattle.state.specs.Forms.{forms_decoder, forms_encoder}

-- "Message streams are numbered 0 to 4,095": no other is marked
abbrev pub MarksBelow : Marks → Type 0
MarksBelow marks = (s : ℕ) (p : Part) → streams ≤ s → marks s p ≡ false

-- a state that memory can hold: one that forms a state in the model's sense, with marks of streams that there are
pub record FitsDecoder (D : Decoder) : Type 0 where
  pub forms : FormsDecoder D
  pub marks : MarksBelow D.finished

pub record FitsEncoder (E : Encoder) : Type 0 where
  pub forms : FormsEncoder E
  pub marks : MarksBelow E.written

pub record DecoderLaws : Type 0 where
  -- memory that forms a state is the overlay of its state on itself
  pub self : (m : List ℕ) → Small m → forms_decoder m ≡ true → overlay_decoder (decoder_of m) m ≡ m
  -- the overlay of a well-formed state forms a state
  pub forms : (D : Decoder) (m : List ℕ) → decoder_length ≤ length m → FitsDecoder D → forms_decoder (overlay_decoder D m) ≡ true
  -- and reads back as it
  pub back : (D : Decoder) (m : List ℕ) → decoder_length ≤ length m → FitsDecoder D → decoder_of (overlay_decoder D m) ≡ D
  -- every state that memory forms is well formed in the model's sense: demand 3's first half holds from other memory too
  pub fits : (m : List ℕ) → Small m → forms_decoder m ≡ true → FitsDecoder (decoder_of m)

pub record EncoderLaws : Type 0 where
  pub self : (m : List ℕ) → Small m → forms_encoder m ≡ true → overlay_encoder (encoder_of m) m ≡ m
  pub forms : (E : Encoder) (m : List ℕ) → encoder_length ≤ length m → FitsEncoder E → forms_encoder (overlay_encoder E m) ≡ true
  pub back : (E : Encoder) (m : List ℕ) → encoder_length ≤ length m → FitsEncoder E → encoder_of (overlay_encoder E m) ≡ E
  pub fits : (m : List ℕ) → Small m → forms_encoder m ≡ true → FitsEncoder (encoder_of m)
