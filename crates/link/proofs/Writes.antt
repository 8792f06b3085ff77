-- On 0 only the told count of output bytes is written: a call that writes tells the length of its bytes, the others are lent nothing.
-- By the model's promises, for each call.
use mathlib.Core.Path.{◌≡◌, refl, ap}
use Prim.Native.Nat.{ℕ, ◌+◌}
use native.Mathlib.Omega.{arith}
use mathlib.Core.List.{List, [], ◌∷◌}
use lib.ListN.{length, drop}
use Rattle.memory.specs.Bytes.{overlay}
use Rattle.memory.proofs.Order.{pick-both}
use Rattle.memory.proofs.Overlay.{drop-overlay}
use Rattle.integers.specs.Answers.{out_of_turn, number_of}
use Rattle.fields.specs.Reading.{FieldListRead, read_field_list}
use Rattle.fields.specs.Reading as lists
use Rattle.blocks.specs.Reading.{BlockRead, read_block}
use Rattle.blocks.specs.Reading as blocks
use Rattle.model.specs.Parts.{part_of}
use Rattle.model.specs.Outcome.{output_bytes, Outcome, refuse}
use Rattle.model.specs.Decoder.{Decoder}
use Rattle.model.specs.DecoderCalls.{decoder_call}
use Rattle.model.specs.DecoderCalls as at-decoder
use Rattle.model.specs.Encoder.{Encoder}
use Rattle.model.specs.EncoderCalls.{encoder_call}
use Rattle.model.specs.EncoderCalls as at-encoder
use Rattle.model_laws.specs.Promises.{Tells}
use Rattle.model_laws.proofs.Promises.{promises}
use Rattle.parts.specs.Turn.{part_turn}
use Rattle.link.specs.Calls.{DecoderCall, decoder_lent, EncoderCall, encoder_lent}
use Rattle.link.specs.Calls as calls
use Rattle.link.proofs.Lifted.{read_block_call, decoder_call_of, read_list_call, encoder_call_of}

-- "On 0 only the told count of output bytes is written."
abbrev pub Writes : {S : Type 0} → List ℕ → Outcome S → Type 0
Writes out o = o.answer.number ≡ 0 → drop o.answer.first (overlay out 0 (output_bytes o.output)) ≡ drop o.answer.first out

tells-writes : {S : Type 0} (out : List ℕ) (o : Outcome S) → Tells (length out) o → Writes out o
tells-writes out o t z = drop-overlay out 0 (output_bytes o.output) o.answer.first (omega (arith, t.told z))

-- nothing is written where nothing is lent
overlay-none : (i : ℕ) (ys : List ℕ) → overlay [] i ys ≡ []
overlay-none i [] = refl
overlay-none i (y ∷ ys) = overlay-none (i + 1) ys

none-writes : {S : Type 0} (o : Outcome S) → Writes [] o
none-writes o z = ap (drop o.answer.first) (overlay-none 0 (output_bytes o.output))

-- a call whose bytes the reading refuses tells nothing
unread-tells : {S : Type 0} (s : S) (number room : ℕ) → Tells room (refuse s number)
unfolding output_bytes
unread-tells s number room = record { told = λ z. refl; fits = omega arith }

-- ---- the decoder

unread-decoder : (D : Decoder) (number room : ℕ) → Tells room (decoder_call D (at-decoder.unread number))
unfolding decoder_call
unread-decoder D number room = unread-tells D number room

-- a block, by its turn and its reading
pub block-tells : (D : Decoder) (stream part : ℕ) (s out : List ℕ)
    → Tells (length out) (decoder_call D (decoder_call_of D (calls.DecoderCall.block stream part s out)))
unfolding decoder_call_of
block-tells D stream part s out =
    pick-both (λ (x : at-decoder.DecoderCall). Tells (length out) (decoder_call D x)) (part_turn D.finished stream (part_of part))
    (read_block_call stream part (length out) (read_block s)) (at-decoder.unread out_of_turn)
    (λ e. go (read_block s)) (λ e. unread-decoder D out_of_turn (length out))
  where
    go : (r : BlockRead) → Tells (length out) (decoder_call D (read_block_call stream part (length out) r))
    go (blocks.BlockRead.block rs) = promises.decoded D stream part rs (length out)
    go (blocks.BlockRead.refused why) = unread-decoder D (number_of why) (length out)

pub decoder-writes : (D : Decoder) (c : DecoderCall) → Writes (decoder_lent c) (decoder_call D (decoder_call_of D c))
unfolding decoder_call_of
decoder-writes D (calls.DecoderCall.read s) = none-writes (decoder_call D (decoder_call_of D (calls.DecoderCall.read s)))
decoder-writes D (calls.DecoderCall.block stream part s out) =
    tells-writes out (decoder_call D (decoder_call_of D (calls.DecoderCall.block stream part s out))) (block-tells D stream part s out)
decoder-writes D (calls.DecoderCall.close k stream) = none-writes (decoder_call D (at-decoder.close k stream))
decoder-writes D (calls.DecoderCall.collect out) = tells-writes out (decoder_call D (at-decoder.collect (length out))) (promises.collected D (length out))
decoder-writes D (calls.DecoderCall.hold index) = none-writes (decoder_call D (at-decoder.hold index))

-- ---- the encoder

unread-encoder : (E : Encoder) (number room : ℕ) → Tells room (encoder_call E (at-encoder.unread number))
unfolding encoder_call
unread-encoder E number room = unread-tells E number room

pub encoder-writes : (E : Encoder) (c : EncoderCall) → Writes (encoder_lent c) (encoder_call E (encoder_call_of E c))
unfolding encoder_call_of
encoder-writes E (calls.EncoderCall.insert name value out) =
    tells-writes out (encoder_call E (at-encoder.insert name value (length out))) (promises.inserted E name value (length out))
encoder-writes E (calls.EncoderCall.delete index out) =
    tells-writes out (encoder_call E (at-encoder.delete index (length out))) (promises.deleted E index (length out))
encoder-writes E (calls.EncoderCall.block stream part s out) =
    tells-writes out (encoder_call E (encoder_call_of E (calls.EncoderCall.block stream part s out)))
    (pick-both (λ (x : at-encoder.EncoderCall). Tells (length out) (encoder_call E x)) (part_turn E.written stream (part_of part))
    (read_list_call stream part (length out) (read_field_list s)) (at-encoder.unread out_of_turn)
    (λ e. go (read_field_list s)) (λ e. unread-encoder E out_of_turn (length out)))
  where
    go : (r : FieldListRead) → Tells (length out) (encoder_call E (read_list_call stream part (length out) r))
    go (lists.FieldListRead.list fs) = promises.encoded E stream part fs (length out)
    go (lists.FieldListRead.refused why) = unread-encoder E (number_of why) (length out)
encoder-writes E (calls.EncoderCall.acknowledge s) = none-writes (encoder_call E (encoder_call_of E (calls.EncoderCall.acknowledge s)))
