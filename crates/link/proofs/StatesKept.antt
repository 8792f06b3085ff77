-- What the model's calls keep, beside what forms a state: no stream above 4,095 is marked, and names and values are bytes.
-- By the ways of each call: only a stream that is one gets marked, and a new entry's strings are the call's, a held entry's or a static one's.
use mathlib.Core.Path.{◌≡◌, refl, subst}
use Prim.Native.Nat.{ℕ, ◌≤◌, ◌<◌}
use native.Mathlib.Omega.{arith}
use mathlib.Core.Bool.{Bool, true, false, ◌||◌}
use mathlib.Core.Option.{Option, none, some}
use mathlib.Core.List.{List}
use Rattle.memory.specs.Bytes.{Small}
use Rattle.memory.proofs.Order.{pick-both}
use Rattle.statics.specs.Table.{entry_at}
use Rattle.statics.proofs.Places.{name-small}
use Rattle.wire.specs.Name.{Name, indexed, literal}
use Rattle.instructions.specs.Instruction.{insert, delete, acknowledge}
use Rattle.instructions.proofs.Lengths.{SmallName, SmallText}
use Rattle.blocks.specs.Meaning.{Slot, holds, is_static, with_statics}
use Rattle.model.specs.Table.{look}
use Rattle.model.specs.Parts.{Part, nontrailer, trailer, Marks, same_part, mark, mark_both, block_marks, Closing, over, ended, closed, streams}
use Rattle.model.specs.Outcome.{Outcome}
use Rattle.model.specs.Decoder.{Held, held_index, Decoder, slot_in, lookup, slot_name, name_bytes, start_decoder, without}
use Rattle.model.specs.DecoderCalls.{decoder_call}
use Rattle.model.specs.DecoderCalls as at-decoder
use Rattle.model_laws.specs.Ready.{FineCall}
use Rattle.model.specs.Encoder.{sent_index, Encoder, mark_deleted, refer, start_encoder, new_sent}
use Rattle.model.specs.EncoderCalls.{encoder_call}
use Rattle.model.specs.EncoderCalls as at-encoder
use Rattle.model_laws.proofs.Tables.{nope, pick-eq}
use Rattle.model_laws.proofs.DecoderWays.{new_held}
use Rattle.model_laws.proofs.DecoderWays as decoder
use Rattle.model_laws.proofs.EncoderWays as encoder
use Rattle.model_laws.proofs.Forms.{forms-start, forms-call}
use Rattle.model_laws.proofs.FormsSent.{sent-start, sent-call}
use Rattle.model_laws.proofs.SentChanges.{delete-entry, refer-entry}
use Rattle.state_laws.specs.Laws.{MarksBelow, FitsDecoder, FitsEncoder}
use Rattle.state_laws.proofs.Each.{Each, each-found, each-put, each-cut, each_map}
use Rattle.link.proofs.SmallStates.{SmallHeld, SmallSent}

-- ---- marks

module _ (s : ℕ) (below : s < streams) (marks : Marks) (others : MarksBelow marks) where
  mark-below : (p : Part) → MarksBelow (mark s p marks)
  unfolding mark
  mark-below p t q high =
      pick-eq (λ (b : Bool). b ≡ false) s t (same_part p q || marks t q) (marks t q) (λ e. absurd (omega arith)) (λ e. others t q high)

  both_below : MarksBelow (mark_both s marks)
  unfolding mark_both
  both_below t q high = pick-eq (λ (b : Bool). b ≡ false) s t true (marks t q) (λ e. absurd (omega arith)) (λ e. others t q high)

  closed-below : (k : Closing) → MarksBelow (closed k s marks)
  closed-below over = mark-below nontrailer
  closed-below ended = both_below

  block-below : (p : Part) → MarksBelow (block_marks p s marks)
  unfolding block_marks
  block-below nontrailer = others
  block-below trailer = both_below

-- ---- the decoder

-- the strings of a call are bytes
abbrev pub SmallDecoderCall : at-decoder.DecoderCall → Type 0
SmallDecoderCall (at-decoder.read i taken) = SmallText i
SmallDecoderCall (at-decoder.block s part rs room) = Unit {0}
SmallDecoderCall (at-decoder.close k s) = Unit {0}
SmallDecoderCall (at-decoder.collect room) = Unit {0}
SmallDecoderCall (at-decoder.hold i) = Unit {0}
SmallDecoderCall (at-decoder.unread number) = Unit {0}

-- a state that memory of bytes can stand for
pub record KeptDecoder (D : Decoder) : Type 0 where
  pub fits : FitsDecoder D
  pub bytes : Each SmallHeld D.entries

abbrev Unmarked : Outcome Decoder → Type 0
Unmarked o = MarksBelow o.state.finished

decoder-marks : (D : Decoder) → MarksBelow D.finished → (c : at-decoder.DecoderCall) → Unmarked (decoder_call D c)
unfolding decoder_call without
decoder-marks D B (at-decoder.read (insert i name value) taken) = decoder.insert-ways Unmarked D (λ a z. B) i name value taken (λ xs e n f. B)
decoder-marks D B (at-decoder.read (delete i first last) taken) = decoder.delete-ways Unmarked D (λ a z. B) i first last taken (λ h e f. B)
decoder-marks D B (at-decoder.read (acknowledge i) taken) = decoder.acknowledge-ways Unmarked D (λ a z. B) i taken
decoder-marks D B (at-decoder.block s part rs room) =
    decoder.block-ways Unmarked D (λ a z. B) s part rs room (λ p fs e below turn m fits. block-below s below D.finished B p)
decoder-marks D B (at-decoder.close k s) = decoder.close-ways Unmarked D (λ a z. B) k s (λ below. closed-below s below D.finished B k)
decoder-marks D B (at-decoder.collect room) = decoder.collect-ways Unmarked D (λ a z. B) room (λ e. B) (λ h e f. B)
decoder-marks D B (at-decoder.hold i) = decoder.hold-ways Unmarked D (λ a z. B) i (λ d e. B)
decoder-marks D B (at-decoder.unread number) = B

-- an insert's name is its own string, a held entry's name or a static one's
module _ (D : Decoder) (S : Each SmallHeld D.entries) where
  slot_small : (o : Option Held) → ((h : Held) → o ≡ some h → SmallHeld h) → (name : List ℕ) → slot_name (slot_in o) ≡ some name → Small name
  unfolding slot_name slot_in
  slot_small none f name e = nope (cc)
  slot_small (some h) f name e = let same : h.entry.name ≡ name = cc in subst Small same (f h refl).0

  static-small : (i : ℕ) (name : List ℕ) → slot_name (holds (entry_at i)) ≡ some name → Small name
  unfolding slot_name
  static-small i name e = let same : (entry_at i).name ≡ name = cc in subst Small same (name-small i)

  found-small : (n : Name) → SmallName n → (name : List ℕ) → name_bytes (lookup D) n ≡ some name → Small name
  unfolding name_bytes lookup with_statics
  found-small (indexed i) s name e =
      pick-both (λ (t : Slot). slot_name t ≡ some name → Small name) (is_static i) (holds (entry_at i)) (slot_in (look held_index i D.entries))
      (λ t q. static-small i name q)
      (λ t q. slot_small (look held_index i D.entries) (each-found SmallHeld held_index D.entries S i) name q)
      e
  found-small (literal xs) s name e = let same : xs ≡ name = cc in subst Small same s

abbrev HeldBytes : Outcome Decoder → Type 0
HeldBytes o = Each SmallHeld o.state.entries

decoder-bytes : (D : Decoder) → Each SmallHeld D.entries → (c : at-decoder.DecoderCall) → SmallDecoderCall c → HeldBytes (decoder_call D c)
unfolding decoder_call without
decoder-bytes D S (at-decoder.read (insert i name value) taken) b =
    decoder.insert-ways HeldBytes D (λ a z. S) i name value taken
    (λ xs e n f. each-put SmallHeld held_index (new_held i xs value) D.entries (found-small D S name b.0 xs e, b.1) S)
decoder-bytes D S (at-decoder.read (delete i first last) taken) b = decoder.delete-ways HeldBytes D (λ a z. S) i first last taken (λ h e f. S)
decoder-bytes D S (at-decoder.read (acknowledge i) taken) b = decoder.acknowledge-ways HeldBytes D (λ a z. S) i taken
decoder-bytes D S (at-decoder.block s part rs room) b =
    decoder.block-ways HeldBytes D (λ a z. S) s part rs room (λ p fs e below turn m fits. S)
decoder-bytes D S (at-decoder.close k s) b = decoder.close-ways HeldBytes D (λ a z. S) k s (λ below. S)
decoder-bytes D S (at-decoder.collect room) b =
    decoder.collect-ways HeldBytes D (λ a z. S) room (λ e. S) (λ i e f. each-cut SmallHeld held_index i D.entries S)
decoder-bytes D S (at-decoder.hold i) b = decoder.hold-ways HeldBytes D (λ a z. S) i (λ d e. S)
decoder-bytes D S (at-decoder.unread number) b = S

pub kept-start-decoder : (limit : ℕ) → limit ≤ 4096 → KeptDecoder (start_decoder limit)
unfolding start_decoder
kept-start-decoder limit h = record { fits = record { forms = forms-start limit h; marks = λ s p high. refl }; bytes = tt }

pub kept-decoder : (D : Decoder) → KeptDecoder D → (c : at-decoder.DecoderCall) → FineCall c → SmallDecoderCall c → KeptDecoder (decoder_call D c).state
kept-decoder D K c f b = record {
  fits = record { forms = forms-call D c K.fits.forms f; marks = decoder-marks D K.fits.marks c };
  bytes = decoder-bytes D K.bytes c b;
}

-- ---- the encoder

abbrev pub SmallEncoderCall : at-encoder.EncoderCall → Type 0
SmallEncoderCall (at-encoder.insert name value room) = Small name × Small value
SmallEncoderCall (at-encoder.delete i room) = Unit {0}
SmallEncoderCall (at-encoder.block s part fs room) = Unit {0}
SmallEncoderCall (at-encoder.acknowledged i taken) = Unit {0}
SmallEncoderCall (at-encoder.unread number) = Unit {0}

pub record KeptEncoder (E : Encoder) : Type 0 where
  pub fits : FitsEncoder E
  pub bytes : Each SmallSent E.entries

abbrev Unwritten : Outcome Encoder → Type 0
Unwritten o = MarksBelow o.state.written

encoder-marks : (E : Encoder) → MarksBelow E.written → (c : at-encoder.EncoderCall) → Unwritten (encoder_call E c)
unfolding encoder_call
encoder-marks E B (at-encoder.insert name value room) = encoder.insert-ways Unwritten E (λ a z. B) name value room (λ i e n v fits w. B)
encoder-marks E B (at-encoder.delete i room) = encoder.delete-ways Unwritten E (λ a z. B) i room (λ e there still fits. B)
encoder-marks E B (at-encoder.block s part fs room) =
    encoder.block-ways Unwritten E (λ a z. B) s part fs room (λ p rs chosen e below turn short fits. block-below s below E.written B p)
encoder-marks E B (at-encoder.acknowledged i taken) = encoder.acknowledged-ways Unwritten E (λ a z. B) i taken (λ e there gone. B)
encoder-marks E B (at-encoder.unread number) = B

abbrev SentBytes : Outcome Encoder → Type 0
SentBytes o = Each SmallSent o.state.entries

encoder-bytes : (E : Encoder) → Each SmallSent E.entries → (c : at-encoder.EncoderCall) → SmallEncoderCall c → SentBytes (encoder_call E c)
unfolding encoder_call
encoder-bytes E S (at-encoder.insert name value room) b =
    encoder.insert-ways SentBytes E (λ a z. S) name value room
    (λ i e n v fits w. each-put SmallSent sent_index (new_sent i name value) E.entries b S)
encoder-bytes E S (at-encoder.delete i room) b =
    encoder.delete-ways SentBytes E (λ a z. S) i room
    (λ e there still fits. each_map SmallSent SmallSent (mark_deleted e.index) (λ x p. rw (delete-entry e.index x) p) E.entries S)
encoder-bytes E S (at-encoder.block s part fs room) b =
    encoder.block-ways SentBytes E (λ a z. S) s part fs room
    (λ p rs chosen e below turn short fits. each_map SmallSent SmallSent (refer s p rs) (λ x q. rw (refer-entry s p rs x) q) E.entries S)
encoder-bytes E S (at-encoder.acknowledged i taken) b =
    encoder.acknowledged-ways SentBytes E (λ a z. S) i taken (λ e there gone. each-cut SmallSent sent_index e.index E.entries S)
encoder-bytes E S (at-encoder.unread number) b = S

pub kept-start-encoder : (limit : ℕ) → limit ≤ 4096 → KeptEncoder (start_encoder limit)
unfolding start_encoder
kept-start-encoder limit h = record { fits = record { forms = sent-start limit h; marks = λ s p high. refl }; bytes = tt }

pub kept-encoder : (E : Encoder) → KeptEncoder E → (c : at-encoder.EncoderCall) → SmallEncoderCall c → KeptEncoder (encoder_call E c).state
kept-encoder E K c b = record {
  fits = record { forms = sent-call E c K.fits.forms; marks = encoder-marks E K.fits.marks c };
  bytes = encoder-bytes E K.bytes c b;
}
