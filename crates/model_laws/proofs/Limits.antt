-- No call changes a limit: "the limit is fixed at start".
-- By the ways of each call.
use mathlib.Core.Path.{◌≡◌, refl}
use Rattle.instructions.specs.Instruction.{insert, delete, acknowledge}
use Rattle.model.specs.Decoder.{Decoder, without}
use Rattle.model.specs.DecoderCalls.{DecoderCall, decoder_call}
use Rattle.model.specs.DecoderCalls as at-decoder
use Rattle.model.specs.Encoder.{Encoder}
use Rattle.model.specs.EncoderCalls.{EncoderCall, encoder_call}
use Rattle.model.specs.EncoderCalls as at-encoder
use Rattle.model_laws.proofs.DecoderWays as decoder
use Rattle.model_laws.proofs.EncoderWays as ways
use Prim.Native.Nat.{ℕ, ◌≤◌}
use lib.Dec.{leb}
use borrow.Author.Tests.{leb-true}
use native.Mathlib.Omega.{arith}
use Rattle.memory.proofs.Order.{need-both}
use Rattle.integers.specs.Answers.{Answer, done, refusal}
use Rattle.model.specs.Outcome.{start_answer}

pub encoder_limit : (E : Encoder) (c : EncoderCall) → (encoder_call E c).state.limit ≡ E.limit
unfolding encoder_call
encoder_limit E (at-encoder.insert name value room) =
    ways.insert-ways (λ o. o.state.limit ≡ E.limit) E (λ a e. refl) name value room (λ i e f g h m. refl)
encoder_limit E (at-encoder.delete i room) = ways.delete-ways (λ o. o.state.limit ≡ E.limit) E (λ a e. refl) i room (λ x e f g. refl)
encoder_limit E (at-encoder.block s part fs room) =
    ways.block-ways (λ o. o.state.limit ≡ E.limit) E (λ a e. refl) s part fs room (λ p rs e f g h k m. refl)
encoder_limit E (at-encoder.acknowledged i taken) =
    ways.acknowledged-ways (λ o. o.state.limit ≡ E.limit) E (λ a e. refl) i taken (λ x e f. refl)
encoder_limit E (at-encoder.unread number) = refl

pub decoder_limit : (D : Decoder) (c : DecoderCall) → (decoder_call D c).state.limit ≡ D.limit
unfolding decoder_call without
decoder_limit D (at-decoder.read (insert i name value) taken) =
    decoder.insert-ways (λ o. o.state.limit ≡ D.limit) D (λ a e. refl) i name value taken (λ xs e n f. refl)
decoder_limit D (at-decoder.read (delete i first last) taken) =
    decoder.delete-ways (λ o. o.state.limit ≡ D.limit) D (λ a e. refl) i first last taken (λ h e f. refl)
decoder_limit D (at-decoder.read (acknowledge i) taken) =
    decoder.acknowledge-ways (λ o. o.state.limit ≡ D.limit) D (λ a e. refl) i taken
decoder_limit D (at-decoder.block s part rs room) =
    decoder.block-ways (λ o. o.state.limit ≡ D.limit) D (λ a e. refl) s part rs room (λ p fs e f g h k. refl)
decoder_limit D (at-decoder.close k s) = decoder.close-ways (λ o. o.state.limit ≡ D.limit) D (λ a e. refl) k s (λ e. refl)
decoder_limit D (at-decoder.collect room) =
    decoder.collect-ways (λ o. o.state.limit ≡ D.limit) D (λ a e. refl) room (λ e. refl) (λ h e f. refl)
decoder_limit D (at-decoder.hold i) = decoder.hold-ways (λ o. o.state.limit ≡ D.limit) D (λ a e. refl) i (λ d e. refl)
decoder_limit D (at-decoder.unread number) = refl

-- a start answered "done" has a limit of at most 4,096
pub start-low : (limit : ℕ) → (start_answer limit).number ≡ 0 → limit ≤ 4096
unfolding start_answer
start-low limit =
    need-both (λ (a : Answer). a.number ≡ 0 → limit ≤ 4096) (leb limit 4096) (refusal 7) (done 0 0)
    (λ e z. absurd (omega arith)) (λ e z. leb-true limit 4096 e)
