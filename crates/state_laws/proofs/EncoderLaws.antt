-- The four laws that tie memory to the encoder's states, by what memory holds.
use Rattle.state.specs.EncoderState.{encoder_of, overlay_encoder}
use Rattle.state_laws.specs.Laws.{EncoderLaws}
use Rattle.state_laws.proofs.EncoderHolds.{holds-state-encoder}
use Rattle.state_laws.proofs.EncoderForms.{forms-holds-encoder, holds-forms-encoder}
use Rattle.state_laws.proofs.EncoderOverlay.{overlay-holds-encoder, overlay-self-encoder}

pub encoder-laws : EncoderLaws
encoder-laws = record {
  self = λ m small forms. overlay-self-encoder (encoder_of m) m (forms-holds-encoder m small forms);
  forms = λ E m long fits. holds-forms-encoder E (overlay_encoder E m) (overlay-holds-encoder E m long fits);
  back = λ E m long fits. holds-state-encoder E (overlay_encoder E m) (overlay-holds-encoder E m long fits);
  fits = λ m small forms. (forms-holds-encoder m small forms).fits;
}
