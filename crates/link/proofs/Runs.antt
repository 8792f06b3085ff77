-- Lists of calls on memory are the model's lists of calls. By induction: each call is lifted from the state that the memory before it stands for.
use Prim.Native.Nat.{ℕ}
use mathlib.Core.List.{List, [], ◌∷◌}
use Rattle.model.specs.Decoder.{Decoder}
use Rattle.model.specs.DecoderCalls.{decoder_call, after_decoder}
use Rattle.model.specs.DecoderCalls as at-decoder
use Rattle.model_laws.specs.Ready.{FineCalls}
use Rattle.model.specs.Encoder.{Encoder}
use Rattle.model.specs.EncoderCalls.{encoder_call, after_encoder}
use Rattle.model.specs.EncoderCalls as at-encoder
use Rattle.link.specs.Calls.{
  DecoderCall,
  decoder_result,
  EncoderCall,
  encoder_result,
  AllDecoderBytes,
  AllEncoderBytes,
  decoder_after,
  encoder_after,
}
use Rattle.link.proofs.Lifted.{decoder_call_of, encoder_call_of, StandsDecoder, StandsEncoder}
use Rattle.link.proofs.DecoderLifting.{fine-decoder, lift-decoder}
use Rattle.link.proofs.EncoderLifting.{lift-encoder}

-- ---- the decoder

-- the model's calls, each by the state before it
unfoldable pub decoder_calls_of : Decoder → List DecoderCall → List at-decoder.DecoderCall
decoder_calls_of D [] = []
decoder_calls_of D (c ∷ cs) = decoder_call_of D c ∷ decoder_calls_of (decoder_call D (decoder_call_of D c)).state cs

pub fine-decoders : (D : Decoder) (cs : List DecoderCall) → FineCalls (decoder_calls_of D cs)
unfolding decoder_calls_of
fine-decoders D [] = tt
fine-decoders D (c ∷ cs) = (fine-decoder D c, fine-decoders (decoder_call D (decoder_call_of D c)).state cs)

pub after-decoder : (m : List ℕ) (D : Decoder) → StandsDecoder m D → (cs : List DecoderCall) → AllDecoderBytes cs
    → StandsDecoder (decoder_after m cs) (after_decoder D (decoder_calls_of D cs))
unfolding decoder_after after_decoder decoder_calls_of
after-decoder m D S [] b = S
after-decoder m D S (c ∷ cs) b =
    after-decoder (decoder_result m c).memory (decoder_call D (decoder_call_of D c)).state (lift-decoder m D S c b.0).stands cs b.1

-- ---- the encoder

unfoldable pub encoder_calls_of : Encoder → List EncoderCall → List at-encoder.EncoderCall
encoder_calls_of E [] = []
encoder_calls_of E (c ∷ cs) = encoder_call_of E c ∷ encoder_calls_of (encoder_call E (encoder_call_of E c)).state cs

pub after-encoder : (m : List ℕ) (E : Encoder) → StandsEncoder m E → (cs : List EncoderCall) → AllEncoderBytes cs
    → StandsEncoder (encoder_after m cs) (after_encoder E (encoder_calls_of E cs))
unfolding encoder_after after_encoder encoder_calls_of
after-encoder m E S [] b = S
after-encoder m E S (c ∷ cs) b =
    after-encoder (encoder_result m c).memory (encoder_call E (encoder_call_of E c)).state (lift-encoder m E S c b.0).stands cs b.1
