-- The held size that stands in memory is that of the state it stands for. By the laws of the front.
use mathlib.Core.Path.{◌≡◌, sym, ap, ◌∙◌}
use Prim.Native.Nat.{ℕ}
use mathlib.Core.List.{List, map}
use Rattle.model.specs.Decoder.{Decoder, held_size}
use Rattle.model.specs.Encoder.{Encoder, sent_size}
use Rattle.state.specs.Layout.{held_of}
use Rattle.state.specs.DecoderState.{decoder_of, row_of_held, decoder_front}
use Rattle.state.specs.EncoderState.{encoder_of, encoder_front}
use Rattle.state_laws.proofs.FrontRead.{read_held}
use Rattle.state_laws.proofs.HeldRows.{held_back, rows-size}
use Rattle.state_laws.proofs.SentRows.{sents-size}
use Rattle.state_laws.proofs.DecoderForms.{forms-holds-decoder}
use Rattle.state_laws.proofs.EncoderForms.{forms-holds-encoder}
use Rattle.link.proofs.Lifted.{StandsDecoder, StandsEncoder}

-- ---- the held size
pub held-decoder : (m : List ℕ) (D : Decoder) → StandsDecoder m D → held_of m ≡ held_size D.entries
unfolding decoder_front
held-decoder m D h =
    let E = decoder_of m in
    read_held (decoder_front E) m (forms-holds-decoder m h.small h.forms).front
    ∙ sym (rows-size (map (row_of_held E.deletes) E.entries))
    ∙ ap held_size (held_back E.deletes E.entries)
    ∙ ap (λ (C : Decoder). held_size C.entries) h.state

pub held-encoder : (m : List ℕ) (E : Encoder) → StandsEncoder m E → held_of m ≡ sent_size E.entries
unfolding encoder_front
held-encoder m E h =
    read_held (encoder_front (encoder_of m)) m (forms-holds-encoder m h.small h.forms).front
    ∙ sents-size (encoder_of m).entries
    ∙ ap (λ (C : Encoder). sent_size C.entries) h.state
