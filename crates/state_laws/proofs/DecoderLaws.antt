-- The four laws of the decoder's memory, from the record that it holds a state.
use Rattle.state.specs.DecoderState.{decoder_of, overlay_decoder}
use Rattle.state_laws.specs.Laws.{DecoderLaws}
use Rattle.state_laws.proofs.DecoderHolds.{holds-state-decoder, overlay-self-decoder, overlay-holds-decoder}
use Rattle.state_laws.proofs.DecoderForms.{forms-holds-decoder, holds-forms-decoder}

pub decoder-laws : DecoderLaws
decoder-laws = record {
  self = λ m small forms. overlay-self-decoder (decoder_of m) m (forms-holds-decoder m small forms);
  forms = λ D m long fits. holds-forms-decoder D (overlay_decoder D m) (overlay-holds-decoder D m long fits);
  back = λ D m long fits. holds-state-decoder D (overlay_decoder D m) (overlay-holds-decoder D m long fits);
  fits = λ m small forms. (forms-holds-decoder m small forms).fits;
}
