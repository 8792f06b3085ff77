-- From a start the held size stays within the limit that the start was given, at both ends: an insert is done only where it keeps the limit, and nothing
-- else adds an entry or changes the limit. By the ways of each call, then over the calls.
use mathlib.Core.Path.{◌≡◌, refl, ap, ◌∙◌}
use Prim.Native.Nat.{ℕ, ◌≤◌}
use native.Mathlib.Omega.{arith}
use mathlib.Core.List.{List, [], ◌∷◌}
use Rattle.memory.specs.Bytes.{Small}
use Rattle.instructions.specs.Instruction.{insert, delete, acknowledge}
use Rattle.model.specs.Table.{size, look, total}
use Rattle.model.specs.Outcome.{Outcome}
use Rattle.model.specs.Decoder.{Decoder, Held, held_index, held_size, start_decoder, without, FormsDecoder}
use Rattle.model.specs.DecoderCalls.{decoder_call, after_decoder}
use Rattle.model.specs.DecoderCalls as at-decoder
use Rattle.model.specs.Encoder.{Encoder, Sent, sent_index, sent_size, start_encoder, mark_deleted, refer, new_sent}
use Rattle.model.specs.EncoderCalls.{encoder_call, after_encoder}
use Rattle.model.specs.EncoderCalls as at-encoder
use Rattle.model_laws.specs.Ready.{FineCalls}
use Rattle.model_laws.proofs.Tables.{look-index, total-put, total-cut, total-map}
use Rattle.model_laws.proofs.Order.{delete-index, refer-index}
use Rattle.model_laws.proofs.SentChanges.{delete-entry, refer-entry}
use Rattle.model_laws.proofs.Forms.{freed-held, forms-start, forms-call}
use Rattle.model_laws.proofs.DecoderWays as decoding
use Rattle.model_laws.proofs.EncoderWays as encoding
use Rattle.state.specs.Layout.{held_of}
use Rattle.decoder.specs.Calls as decoder
use Rattle.encoder.specs.Calls as encoder
use Rattle.link.specs.Calls.{DecoderCall, AllDecoderBytes, decoder_after, EncoderCall, AllEncoderBytes, encoder_after}
use Rattle.link.proofs.DecoderLifting.{start-decoder, start-decoder-limit}
use Rattle.link.proofs.EncoderLifting.{start-encoder}
use Rattle.link.proofs.Runs.{decoder_calls_of, fine-decoders, after-decoder, encoder_calls_of, after-encoder}
use Rattle.link.proofs.HeldSizes.{held-decoder, held-encoder}

-- ---- the decoder
record Within (limit : ℕ) (D : Decoder) : Type 0 where
  held : held_size D.entries ≤ limit
  same : D.limit ≡ limit

abbrev held_weight : Held → ℕ
held_weight h = size h.entry

module _ (limit : ℕ) (D : Decoder) (F : FormsDecoder D) (W : Within limit D) where
  abbrev Stays : Outcome Decoder → Type 0
  Stays o = Within limit o.state

  within-call : (c : at-decoder.DecoderCall) → Stays (decoder_call D c)
  unfolding decoder_call without held_size
  within-call (at-decoder.read (insert i name value) taken) =
      decoding.insert-ways Stays D (λ a z. W) i name value taken
      (λ xs e n fits. record {
        held = omega (arith, total-put held_index held_weight (decoding.new_held i xs value) D.entries, fits, W.same);
        same = W.same;
      })
  within-call (at-decoder.read (delete i first last) taken) =
      decoding.delete-ways Stays D (λ a z. W) i first last taken (λ h e f. record { held = W.held; same = W.same })
  within-call (at-decoder.read (acknowledge i) taken) = decoding.acknowledge-ways Stays D (λ a z. W) i taken
  within-call (at-decoder.block s part rs room) =
      decoding.block-ways Stays D (λ a z. W) s part rs room (λ p fs e low turn m fits. record { held = W.held; same = W.same })
  within-call (at-decoder.close k s) = decoding.close-ways Stays D (λ a z. W) k s (λ low. record { held = W.held; same = W.same })
  within-call (at-decoder.collect room) =
      decoding.collect-ways Stays D (λ a z. W) room (λ e. W)
      (λ i e f.
      let h = freed-held D F i e in
      record { held = omega (arith, total-cut held_index held_weight i D.entries h.0 h.1, W.held); same = W.same })
  within-call (at-decoder.hold i) = decoding.hold-ways Stays D (λ a z. W) i (λ d e. W)
  within-call (at-decoder.unread number) = W

within-calls : (limit : ℕ) (D : Decoder) → FormsDecoder D → Within limit D → (cs : List at-decoder.DecoderCall) → FineCalls cs → Within limit (after_decoder D cs)
unfolding after_decoder
within-calls limit D F W [] f = W
within-calls limit D F W (c ∷ cs) f =
    within-calls limit (decoder_call D c).state (forms-call D c F f.0) (within-call limit D F W c) cs f.1

within-start : (limit : ℕ) → Within limit (start_decoder limit)
unfolding start_decoder held_size total
within-start limit = record { held = omega arith; same = refl }

pub decoder_within : (m : List ℕ) (limit : ℕ) → Small m → (decoder.start_call m limit).answer.number ≡ 0 → (cs : List DecoderCall) → AllDecoderBytes cs
    → held_of (decoder_after (decoder.start_call m limit).memory cs) ≤ limit
decoder_within m limit small ok cs b =
    let D = start_decoder limit in
    let S = start-decoder m limit small ok in
    let W = within-calls limit D (forms-start limit (start-decoder-limit m limit ok)) (within-start limit) (decoder_calls_of D cs) (fine-decoders D cs) in
    omega (arith, held-decoder (decoder_after (decoder.start_call m limit).memory cs) _ (after-decoder (decoder.start_call m limit).memory D S cs b), W.held)

-- ---- the encoder
record Below (limit : ℕ) (E : Encoder) : Type 0 where
  held : sent_size E.entries ≤ limit
  same : E.limit ≡ limit

abbrev sent_weight : Sent → ℕ
sent_weight e = size e.entry

module _ (limit : ℕ) (E : Encoder) (W : Below limit E) where
  abbrev Keeps : Outcome Encoder → Type 0
  Keeps o = Below limit o.state

  below-call : (c : at-encoder.EncoderCall) → Keeps (encoder_call E c)
  unfolding encoder_call sent_size
  below-call (at-encoder.insert name value room) =
      encoding.insert-ways Keeps E (λ a z. W) name value room
      (λ i e n v fits w. record {
        held = omega (arith, total-put sent_index sent_weight (new_sent i name value) E.entries, fits, W.same);
        same = W.same;
      })
  below-call (at-encoder.delete i room) =
      encoding.delete-ways Keeps E (λ a z. W) i room
      (λ e there still fits. record {
        held = omega (
          arith,
          total-map sent_index (mark_deleted e.index) (delete-index e.index) sent_weight
              (λ x. ap size (delete-entry e.index x)) E.entries,
          W.held,
        );
        same = W.same;
      })
  below-call (at-encoder.block s part fs room) =
      encoding.block-ways Keeps E (λ a z. W) s part fs room
      (λ p rs chosen e low turn short fits. record {
        held = omega (arith, total-map sent_index (refer s p rs) (refer-index s p rs) sent_weight (λ x. ap size (refer-entry s p rs x)) E.entries, W.held);
        same = W.same;
      })
  below-call (at-encoder.acknowledged i taken) =
      encoding.acknowledged-ways Keeps E (λ a z. W) i taken
      (λ e there gone.
      let q = look-index sent_index i E.entries e there in
      record {
        held = omega (arith, total-cut sent_index sent_weight e.index E.entries e (ap (λ (k : ℕ). look sent_index k E.entries) q ∙ there), W.held);
        same = W.same;
      })
  below-call (at-encoder.unread number) = W

below-calls : (limit : ℕ) (E : Encoder) → Below limit E → (cs : List at-encoder.EncoderCall) → Below limit (after_encoder E cs)
unfolding after_encoder
below-calls limit E W [] = W
below-calls limit E W (c ∷ cs) = below-calls limit (encoder_call E c).state (below-call limit E W c) cs

below-start : (limit : ℕ) → Below limit (start_encoder limit)
unfolding start_encoder sent_size total
below-start limit = record { held = omega arith; same = refl }

pub encoder_within : (m : List ℕ) (limit : ℕ) → Small m → (encoder.start_call m limit).answer.number ≡ 0 → (cs : List EncoderCall) → AllEncoderBytes cs
    → held_of (encoder_after (encoder.start_call m limit).memory cs) ≤ limit
encoder_within m limit small ok cs b =
    let E = start_encoder limit in
    let S = start-encoder m limit small ok in
    let W = below-calls limit E (below-start limit) (encoder_calls_of E cs) in
    omega (arith, held-encoder (encoder_after (encoder.start_call m limit).memory cs) _ (after-encoder (encoder.start_call m limit).memory E S cs b), W.held)
