-- Demand 1, the answers: of every call, on whatever memory. Memory that forms no state refuses; else the call is the model's step laid over memory,
-- and the model's promises, what it may answer and the length of a state say the rest.
use mathlib.Core.Path.{◌≡◌, refl, sym, subst}
use mathlib.Core.Logic.{◌↔◌}
use Prim.Native.Nat.{ℕ, ◌≤◌, ◌<◌}
use native.Mathlib.Omega.{arith}
use mathlib.Core.Bool.{Bool, true, false}
use mathlib.Core.List.{List, []}
use lib.ListN.{length}
use lib.Dec.{T, leb}
use borrow.Author.Tests.{leb-true, leb-false}
use Rattle.memory.specs.Bytes.{Small}
use Rattle.memory.proofs.Order.{either, not-both, need-both, need-false}
use Rattle.integers.specs.Answers.{over_limit, no_room, no_state}
use Rattle.model.specs.Outcome.{nothing, Outcome}
use Rattle.model.specs.Decoder.{Decoder, start_decoder}
use Rattle.model.specs.DecoderCalls.{decoder_call}
use Rattle.model.specs.Encoder.{Encoder, start_encoder}
use Rattle.model.specs.EncoderCalls.{encoder_call}
use Rattle.model_laws.proofs.Promises.{promises}
use Rattle.state.specs.Layout.{decoder_length, encoder_length}
use Rattle.state.specs.DecoderState.{decoder_of, overlay_decoder}
use Rattle.state.specs.EncoderState.{encoder_of, overlay_encoder}
use Rattle.state.specs.Forms.{forms_decoder, forms_encoder}
use Rattle.state_laws.proofs.DecoderHolds.{length-overlay_decoder}
use Rattle.state_laws.proofs.DecoderLaws.{decoder-laws}
use Rattle.state_laws.proofs.EncoderOverlay.{length-overlay_encoder}
use Rattle.state_laws.proofs.EncoderLaws.{encoder-laws}
use Rattle.reply.specs.Result.{refused}
use Rattle.decoder.specs.Calls.{read_call, over_call, ended_call, hold_call, collect_call}
use Rattle.decoder.specs.Calls as decoder
use Rattle.encoder.specs.Calls.{insert_call, delete_call, acknowledge_call}
use Rattle.encoder.specs.Calls as encoder
use Rattle.model.specs.Parts.{over, ended}
use Rattle.link.specs.Calls.{DecoderCall, decoder_result, decoder_lent, DecoderBytes, EncoderCall, encoder_result, encoder_lent, EncoderBytes}
use Rattle.link.specs.Calls.{Call, decoder_start, at_decoder, encoder_start, at_encoder, result_of, CallBytes}
use Rattle.link.specs.Calls as calls
use Rattle.link.specs.Answers.{AnswersClaim, Starts}
use Rattle.link.proofs.Lifted.{decoder_call_of, encoder_call_of}
use Rattle.link.proofs.StatesKept.{KeptDecoder, kept-start-decoder, KeptEncoder, kept-start-encoder}
use Rattle.link.proofs.DecoderLifting.{long-decoder, same-decoder, kept-next-decoder}
use Rattle.link.proofs.EncoderLifting.{long-encoder, same-encoder, kept-next-encoder}
use Rattle.link.proofs.Beyond.{decoder-beyond, encoder-beyond}
use Rattle.link.proofs.Says.{refuses, both_say}
use Rattle.link.proofs.Writes.{decoder-writes, encoder-writes}
use Rattle.link.proofs.DecoderAnswers.{decoder-says}
use Rattle.link.proofs.EncoderAnswers.{encoder-says}
use Rattle.link.proofs.Leaves.{Leaves, leaves-answered, Laid, refused-leaves, started-leaves, stepped-leaves}

-- ---- the decoder

laid-decoder : (D : Decoder) (m : List ℕ) → decoder_length ≤ length m → KeptDecoder D → Laid forms_decoder decoder_length m (overlay_decoder D m)
laid-decoder D m long K = record {
  formed = decoder-laws.forms D m long K.fits;
  beyond = decoder-beyond D m K.fits;
  same_length = length-overlay_decoder D m;
}

-- memory that forms no state
pub no-decoder : (m : List ℕ) → forms_decoder m ≡ false → (c : DecoderCall) → decoder_result m c ≡ refused m (decoder_lent c) no_state
unfolding decoder_result read_call decoder.block_call over_call ended_call hold_call collect_call
no-decoder m e (calls.DecoderCall.read s) = need-false (forms_decoder m) _ _ e
no-decoder m e (calls.DecoderCall.block stream part s out) = need-false (forms_decoder m) _ _ e
no-decoder m e (calls.DecoderCall.close over stream) = need-false (forms_decoder m) _ _ e
no-decoder m e (calls.DecoderCall.close ended stream) = need-false (forms_decoder m) _ _ e
no-decoder m e (calls.DecoderCall.collect out) = need-false (forms_decoder m) _ _ e
no-decoder m e (calls.DecoderCall.hold index) = need-false (forms_decoder m) _ _ e

-- 17 exactly where memory forms no state
first-none : (forms : Bool) → forms ≡ false → (no_state ≡ 17) ↔ (forms ≡ false)
first-none forms e = (λ z. e, λ z. refl)

first_some : (forms : Bool) (number : ℕ) → forms ≡ true → (number ≡ no_state → ⊥) → (number ≡ 17) ↔ (forms ≡ false)
first_some forms number e f = (λ z. absurd (f z), λ z. not-both forms e z)

-- a start: 7, then 12
starts-over : (limit bytes : ℕ) (m : List ℕ) → 4096 < limit → Starts limit bytes m over_limit
starts-over limit bytes m h = ((λ z. h, λ z. refl), (λ z. absurd (omega (arith, z)), λ z. absurd (omega (arith, h, z.0))), (λ z. absurd (omega (arith, z)), λ z. absurd (omega (arith, h, z.0))))

starts-short : (limit bytes : ℕ) (m : List ℕ) → limit ≤ 4096 → length m < bytes → Starts limit bytes m no_room
starts-short limit bytes m h k = ((λ z. absurd (omega (arith, z)), λ z. absurd (omega (arith, h, z))), (λ z. (h, k), λ z. refl), (λ z. absurd (omega (arith, z)), λ z. absurd (omega (arith, k, z.1))))

starts-done : (limit bytes : ℕ) (m : List ℕ) → limit ≤ 4096 → bytes ≤ length m → Starts limit bytes m 0
starts-done limit bytes m h k = ((λ z. absurd (omega (arith, z)), λ z. absurd (omega (arith, h, z))), (λ z. absurd (omega (arith, z)), λ z. absurd (omega (arith, k, z.1))), (λ z. (h, k), λ z. refl))

-- 17 is in each call's list
no-state-decoder : (c : DecoderCall) → T (refuses (at_decoder c) no_state)
no-state-decoder (calls.DecoderCall.read s) = tt
no-state-decoder (calls.DecoderCall.block stream part s out) = tt
no-state-decoder (calls.DecoderCall.close k stream) = tt
no-state-decoder (calls.DecoderCall.collect out) = tt
no-state-decoder (calls.DecoderCall.hold index) = tt

decoder-leaves : (m : List ℕ) → Small m → (c : DecoderCall) → DecoderBytes c → Leaves (at_decoder c) m (decoder_result m c)
decoder-leaves m small c b =
    let D : Decoder = decoder_of m in
    let o : Outcome Decoder = decoder_call D (decoder_call_of D c) in
    either (forms_decoder m)
    (λ e. subst (Leaves (at_decoder c) m) (sym (same-decoder m small e c))
    (stepped-leaves (at_decoder c) m overlay_decoder D o (decoder-laws.self m small e)
    (laid-decoder o.state m (long-decoder m small e) (kept-next-decoder m small e c b)) (promises.decoder_refused D (decoder_call_of D c))
    (decoder-writes D c) (decoder-says D (decoder-laws.fits m small e).forms c)
    (first_some (forms_decoder m) o.answer.number e (decoder-says D (decoder-laws.fits m small e).forms c).standing)))
    (λ e. subst (Leaves (at_decoder c) m) (sym (no-decoder m e c)) (refused-leaves (at_decoder c) m no_state (no-state-decoder c) (first-none (forms_decoder m) e)))

decoder-starts : (m : List ℕ) (limit : ℕ) → Leaves (decoder_start limit) m (decoder.start_call m limit)
unfolding decoder.start_call
decoder-starts m limit =
    let c : Call = decoder_start limit in
    need-both (Leaves c m) (leb limit 4096) (refused m [] over_limit) _
    (λ e. refused-leaves c m over_limit tt (starts-over limit decoder_length m (leb-false limit 4096 e)))
    (λ e. need-both (Leaves c m) (leb decoder_length (length m)) (refused m [] no_room) _
    (λ d. refused-leaves c m no_room tt (starts-short limit decoder_length m (leb-true limit 4096 e) (leb-false decoder_length (length m) d)))
    (λ d. started-leaves c m (overlay_decoder (start_decoder limit) m) refl
    (both_say c m 0 0 nothing refl (λ z. refl) (λ z. refl) tt (omega arith) (omega arith))
    (laid-decoder (start_decoder limit) m (leb-true decoder_length (length m) d) (kept-start-decoder limit (leb-true limit 4096 e)))
    (starts-done limit decoder_length m (leb-true limit 4096 e) (leb-true decoder_length (length m) d))))

-- ---- the encoder

laid-encoder : (E : Encoder) (m : List ℕ) → encoder_length ≤ length m → KeptEncoder E → Laid forms_encoder encoder_length m (overlay_encoder E m)
laid-encoder E m long K = record {
  formed = encoder-laws.forms E m long K.fits;
  beyond = encoder-beyond E m K.fits;
  same_length = length-overlay_encoder E m;
}

no-encoder : (m : List ℕ) → forms_encoder m ≡ false → (c : EncoderCall) → encoder_result m c ≡ refused m (encoder_lent c) no_state
unfolding encoder_result insert_call delete_call encoder.block_call acknowledge_call
no-encoder m e (calls.EncoderCall.insert name value out) = need-false (forms_encoder m) _ _ e
no-encoder m e (calls.EncoderCall.delete index out) = need-false (forms_encoder m) _ _ e
no-encoder m e (calls.EncoderCall.block stream part s out) = need-false (forms_encoder m) _ _ e
no-encoder m e (calls.EncoderCall.acknowledge s) = need-false (forms_encoder m) _ _ e

no-state-encoder : (c : EncoderCall) → T (refuses (at_encoder c) no_state)
no-state-encoder (calls.EncoderCall.insert name value out) = tt
no-state-encoder (calls.EncoderCall.delete index out) = tt
no-state-encoder (calls.EncoderCall.block stream part s out) = tt
no-state-encoder (calls.EncoderCall.acknowledge s) = tt

encoder-leaves : (m : List ℕ) → Small m → (c : EncoderCall) → EncoderBytes c → Leaves (at_encoder c) m (encoder_result m c)
encoder-leaves m small c b =
    let E : Encoder = encoder_of m in
    let o : Outcome Encoder = encoder_call E (encoder_call_of E c) in
    either (forms_encoder m)
    (λ e. subst (Leaves (at_encoder c) m) (sym (same-encoder m small e c))
    (stepped-leaves (at_encoder c) m overlay_encoder E o (encoder-laws.self m small e)
    (laid-encoder o.state m (long-encoder m small e) (kept-next-encoder m small e c b)) (promises.encoder_refused E (encoder_call_of E c))
    (encoder-writes E c) (encoder-says E (encoder-laws.fits m small e).forms c)
    (first_some (forms_encoder m) o.answer.number e (encoder-says E (encoder-laws.fits m small e).forms c).standing)))
    (λ e. subst (Leaves (at_encoder c) m) (sym (no-encoder m e c)) (refused-leaves (at_encoder c) m no_state (no-state-encoder c) (first-none (forms_encoder m) e)))

encoder-starts : (m : List ℕ) (limit : ℕ) → Leaves (encoder_start limit) m (encoder.start_call m limit)
unfolding encoder.start_call
encoder-starts m limit =
    let c : Call = encoder_start limit in
    need-both (Leaves c m) (leb limit 4096) (refused m [] over_limit) _
    (λ e. refused-leaves c m over_limit tt (starts-over limit encoder_length m (leb-false limit 4096 e)))
    (λ e. need-both (Leaves c m) (leb encoder_length (length m)) (refused m [] no_room) _
    (λ d. refused-leaves c m no_room tt (starts-short limit encoder_length m (leb-true limit 4096 e) (leb-false encoder_length (length m) d)))
    (λ d. started-leaves c m (overlay_encoder (start_encoder limit) m) refl
    (both_say c m 0 0 nothing refl (λ z. refl) (λ z. refl) tt (omega arith) (omega arith))
    (laid-encoder (start_encoder limit) m (leb-true encoder_length (length m) d) (kept-start-encoder limit (leb-true limit 4096 e)))
    (starts-done limit encoder_length m (leb-true limit 4096 e) (leb-true encoder_length (length m) d))))

-- ---- every call

leaves : (m : List ℕ) → Small m → (c : Call) → CallBytes c → Leaves c m (result_of m c)
unfolding result_of
leaves m small (decoder_start limit) b = decoder-starts m limit
leaves m small (at_decoder c) b = decoder-leaves m small c b
leaves m small (encoder_start limit) b = encoder-starts m limit
leaves m small (at_encoder c) b = encoder-leaves m small c b

pub answers : AnswersClaim
answers m small c b = leaves-answered m c (leaves m small c b)
