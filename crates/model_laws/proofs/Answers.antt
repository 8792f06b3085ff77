-- What the answers say of what a call did: a number other than 0 leaves the state as it was and writes nothing, and where a call writes, 0 tells
-- how many bytes, and they have room. By the ways through each call.
use mathlib.Core.Path.{◌≡◌, refl}
use Prim.Native.Nat.{ℕ}
use native.Mathlib.Omega.{arith}
use mathlib.Core.List.{List}
use mathlib.Core.Bool.{false}
use lib.Dec.{eqb}
use borrow.Author.Tests.{eqb-false}
use Rattle.integers.specs.Answers.{Answer}
use Rattle.fields.specs.Form.{Field}
use Rattle.instructions.specs.Instruction.{Instruction, insert, delete, acknowledge}
use Rattle.blocks.specs.Representation.{Representation}
use Rattle.model.specs.Outcome.{nothing, output_bytes}
use Rattle.model.specs.Decoder.{Decoder, read_instruction}
use Rattle.model.specs.DecoderCalls.{DecoderCall, decoder_call}
use Rattle.model.specs.DecoderCalls as at-decoder
use Rattle.model.specs.Encoder.{Encoder}
use Rattle.model.specs.EncoderCalls.{EncoderCall, encoder_call}
use Rattle.model.specs.EncoderCalls as at-encoder
use Rattle.model_laws.specs.Promises.{Unchanged, Tells}
use Rattle.model_laws.proofs.DecoderWays as decoder
use Rattle.model_laws.proofs.EncoderWays as encoder

-- ---- the two claims of an outcome, from the state s

-- what is refused, or waits, tells nothing and writes nothing
silent : {S : Type 0} (s : S) (room : ℕ) (a : Answer) → eqb a.number 0 ≡ false → Tells room (record { state = s; answer = a; output = nothing })
unfolding output_bytes
silent s room a z = record { told = λ e. absurd (eqb-false a.number 0 z e); fits = omega arith }

-- ---- the decoder

read-refused : (D : Decoder) (i : Instruction) (taken : ℕ) → Unchanged D (read_instruction D i taken)
read-refused D (insert i name value) taken =
    decoder.insert-ways (Unchanged D) D (λ a z h. (refl, refl)) i name value taken (λ xs e free fits h. absurd (h refl))
read-refused D (delete i nontrailer trailer) taken =
    decoder.delete-ways (Unchanged D) D (λ a z h. (refl, refl)) i nontrailer trailer taken (λ entry there free h. absurd (h refl))
read-refused D (acknowledge i) taken = decoder.acknowledge-ways (Unchanged D) D (λ a z h. (refl, refl)) i taken

pub decoder_refused : (D : Decoder) (c : DecoderCall) → Unchanged D (decoder_call D c)
unfolding decoder_call
decoder_refused D (at-decoder.read i taken) = read-refused D i taken
decoder_refused D (at-decoder.block s part rs room) =
    decoder.block-ways (Unchanged D) D (λ a z h. (refl, refl)) s part rs room (λ p fs e below turn m fits h. absurd (h refl))
decoder_refused D (at-decoder.close k s) = decoder.close-ways (Unchanged D) D (λ a z h. (refl, refl)) k s (λ below h. absurd (h refl))
decoder_refused D (at-decoder.collect room) =
    decoder.collect-ways (Unchanged D) D (λ a z h. (refl, refl)) room (λ e h. absurd (h refl)) (λ entry e fits h. absurd (h refl))
decoder_refused D (at-decoder.hold i) = decoder.hold-ways (Unchanged D) D (λ a z h. (refl, refl)) i (λ d e h. absurd (h refl))
decoder_refused D (at-decoder.unread number) = λ h. (refl, refl)

pub decoded-told : (D : Decoder) (s part : ℕ) (rs : List Representation) (room : ℕ) → Tells room (decoder_call D (at-decoder.block s part rs room))
unfolding decoder_call output_bytes
decoded-told D s part rs room =
    decoder.block-ways (Tells room) D (silent D room) s part rs room (λ p fs e below turn m fits. record { told = λ z. refl; fits = fits })

pub collected-told : (D : Decoder) (room : ℕ) → Tells room (decoder_call D (at-decoder.collect room))
unfolding decoder_call output_bytes
collected-told D room =
    decoder.collect-ways (Tells room) D (silent D room) room
    (λ e. record { told = λ z. refl; fits = omega arith })
    (λ h e fits. record { told = λ z. refl; fits = fits })

-- ---- the encoder

pub encoder_refused : (E : Encoder) (c : EncoderCall) → Unchanged E (encoder_call E c)
unfolding encoder_call
encoder_refused E (at-encoder.insert name value room) =
    encoder.insert-ways (Unchanged E) E (λ a z h. (refl, refl)) name value room (λ i e n v fits written h. absurd (h refl))
encoder_refused E (at-encoder.delete i room) =
    encoder.delete-ways (Unchanged E) E (λ a z h. (refl, refl)) i room (λ e there still fits h. absurd (h refl))
encoder_refused E (at-encoder.block s part fs room) =
    encoder.block-ways (Unchanged E) E (λ a z h. (refl, refl)) s part fs room (λ p rs chosen e below turn short fits h. absurd (h refl))
encoder_refused E (at-encoder.acknowledged i taken) =
    encoder.acknowledged-ways (Unchanged E) E (λ a z h. (refl, refl)) i taken (λ e there gone h. absurd (h refl))
encoder_refused E (at-encoder.unread number) = λ h. (refl, refl)

pub inserted-told : (E : Encoder) (name value : List ℕ) (room : ℕ) → Tells room (encoder_call E (at-encoder.insert name value room))
unfolding encoder_call output_bytes
inserted-told E name value room =
    encoder.insert-ways (Tells room) E (silent E room) name value room (λ i e n v fits written. record { told = λ z. refl; fits = written })

pub deleted-told : (E : Encoder) (i room : ℕ) → Tells room (encoder_call E (at-encoder.delete i room))
unfolding encoder_call output_bytes
deleted-told E i room =
    encoder.delete-ways (Tells room) E (silent E room) i room (λ e there still fits. record { told = λ z. refl; fits = fits })

pub encoded-told : (E : Encoder) (s part : ℕ) (fs : List Field) (room : ℕ) → Tells room (encoder_call E (at-encoder.block s part fs room))
unfolding encoder_call output_bytes
encoded-told E s part fs room =
    encoder.block-ways (Tells room) E (silent E room) s part fs room (λ p rs chosen e below turn short fits. record { told = λ z. refl; fits = fits })
