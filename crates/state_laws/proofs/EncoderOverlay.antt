-- The bytes of an encoder's state over memory: the memory then holds it, and memory that holds it already stays. The horizons stand behind the front.
use mathlib.Core.Path.{◌≡◌, ap, ◌∙◌}
use Prim.Native.Nat.{ℕ, ◌≤◌}
use native.Mathlib.Omega.{arith}
use mathlib.Core.List.{List}
use lib.ListN.{length, length-map}
use Rattle.columns.specs.Pieces.{Piece, overlays, HasAll}
use Rattle.columns.proofs.Pieces.{length-overlays, overlays-same, overlays-has}
use Rattle.model.specs.Encoder.{Encoder}
use Rattle.state.specs.Layout.{encoder_length, front_length}
use Rattle.state.specs.Front.{Front, overlay_front}
use Rattle.state.specs.EncoderState.{row_of_sent, encoder_front, horizon_pieces, overlay_encoder}
use Rattle.state_laws.specs.Laws.{FitsEncoder}
use Rattle.state_laws.proofs.FrontHolds.{FineFront}
use Rattle.state_laws.proofs.FrontOverlay.{length-overlay_front, overlay-holds, overlay-self}
use Rattle.state_laws.proofs.Behind.{all-behind, holds-behind}
use Rattle.state_laws.proofs.Horizons.{horizons_end, horizons-order}
use Rattle.state_laws.proofs.SentRows.{sents-size, sents-fine}
use Rattle.state_laws.proofs.EncoderHolds.{HoldsEncoder, fits_each}

pub encoder-fine : (E : Encoder) → FitsEncoder E → FineFront (encoder_front E)
unfolding encoder_front
encoder-fine E fits =
    let F = fits.forms in
    record {
      limit = omega (arith, F.limit);
      few = omega (arith, F.few, length-map E.entries row_of_sent);
      fits = omega (arith, F.fits, sents-size E.entries);
      deletes = omega arith;
      rows = sents-fine E.entries (fits_each E fits);
    }

pub length-overlay_encoder : (E : Encoder) (m : List ℕ) → length (overlay_encoder E m) ≡ length m
unfolding overlay_encoder
length-overlay_encoder E m =
    length-overlays (overlay_front (encoder_front E) m) (horizon_pieces E.entries) ∙ length-overlay_front (encoder_front E) m

pub overlay-holds-encoder : (E : Encoder) (m : List ℕ) → encoder_length ≤ length m → FitsEncoder E → HoldsEncoder E (overlay_encoder E m)
unfolding overlay_encoder
overlay-holds-encoder E m long fits =
    let f : Front = encoder_front E in
    let ps : List Piece = horizon_pieces E.entries in
    let order = horizons-order E.entries fits.forms.few in
    record {
      long = omega (arith, length-overlay_encoder E m);
      fits = fits;
      front = holds-behind f (overlay_front f m) front_length horizons_end ps (omega arith) order (overlay-holds f m (omega arith) (encoder-fine E fits));
      horizons = overlays-has (overlay_front f m) front_length horizons_end ps order (omega (arith, length-overlay_front f m));
    }

pub overlay-self-encoder : (E : Encoder) (m : List ℕ) → HoldsEncoder E m → overlay_encoder E m ≡ m
unfolding overlay_encoder
overlay-self-encoder E m H =
    ap (λ (l : List ℕ). overlays l (horizon_pieces E.entries)) (overlay-self (encoder_front E) m H.front)
    ∙ overlays-same m (horizon_pieces E.entries) H.horizons

-- a changed state over memory in which its horizons stand already: there is its front to store
pub overlay-stands : (E : Encoder) (m : List ℕ) → FineFront (encoder_front E) → HasAll m (horizon_pieces E.entries)
    → overlay_encoder E m ≡ overlay_front (encoder_front E) m
unfolding overlay_encoder encoder_front
overlay-stands E m fine has =
    let ps : List Piece = horizon_pieces E.entries in
    overlays-same (overlay_front (encoder_front E) m) ps
    (all-behind (encoder_front E) m front_length horizons_end ps fine (omega arith)
    (horizons-order E.entries (omega (arith, fine.few, length-map E.entries row_of_sent))) has)
