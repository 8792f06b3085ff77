-- A state laid over memory touches nothing past its length. Each of its parts ends before it.
use mathlib.Core.Path.{◌≡◌, refl, ◌∙◌}
use Prim.Native.Nat.{ℕ, ◌+◌, ◌≤◌}
use native.Mathlib.Omega.{arith}
use mathlib.Core.List.{List, [], ◌∷◌, map}
use lib.ListN.{length, drop}
use Rattle.memory.specs.Bytes.{overlay}
use Rattle.memory.proofs.Overlay.{drop-overlay}
use Rattle.columns.specs.Columns.{column_bytes}
use Rattle.columns.specs.Pieces.{Piece, overlays, InOrder}
use Rattle.columns.proofs.Pieces.{order-ends}
use Rattle.model.specs.Decoder.{Decoder}
use Rattle.model.specs.Encoder.{Encoder}
use Rattle.state.specs.Layout.{front_length, decoder_length, encoder_length, deletes_place, nontrailer_horizons, trailer_horizons}
use Rattle.state.specs.Front.{Front, front_pieces, overlay_front}
use Rattle.state.specs.DecoderState.{deletes_bytes, decoder_front, overlay_decoder}
use Rattle.state.specs.EncoderState.{encoder_front, nontrailer_of, trailer_of, overlay_encoder}
use Rattle.state_laws.specs.Laws.{FitsDecoder, FitsEncoder}
use Rattle.state_laws.proofs.FrontHolds.{FineFront}
use Rattle.state_laws.proofs.FrontOverlay.{pieces-order}
use Rattle.state_laws.proofs.DeletesRead.{length-deletes_bytes}
use Rattle.state_laws.proofs.HeldRows.{fits-few, fits-lists, fits-front}
use Rattle.state_laws.proofs.Horizons.{length-horizons}
use Rattle.state_laws.proofs.EncoderOverlay.{encoder-fine}

pieces-beyond : (m : List ℕ) (n from end : ℕ) (ps : List Piece) → InOrder from end ps → end ≤ n → drop n (overlays m ps) ≡ drop n m
unfolding overlays
pieces-beyond m n from end [] o h = refl
pieces-beyond m n from end (p ∷ ps) o h =
    let next : ℕ = p.place + length p.bytes in
    pieces-beyond (overlay m p.place p.bytes) n next end ps o.1 h
    ∙ drop-overlay m p.place p.bytes n (omega (arith, order-ends next end ps o.1))

front-beyond : (f : Front) (m : List ℕ) (n : ℕ) → FineFront f → front_length ≤ n → drop n (overlay_front f m) ≡ drop n m
unfolding overlay_front
front-beyond f m n F h = pieces-beyond m n 0 front_length (front_pieces f) (pieces-order f F) h

pub decoder-beyond : (D : Decoder) (m : List ℕ) → FitsDecoder D → drop decoder_length (overlay_decoder D m) ≡ drop decoder_length m
unfolding overlay_decoder
decoder-beyond D m fits =
    drop-overlay (overlay_front (decoder_front D) m) deletes_place (deletes_bytes D.deletes) decoder_length
    (omega (arith, length-deletes_bytes D.deletes (fits-lists D fits), fits-few D fits))
    ∙ front-beyond (decoder_front D) m decoder_length (fits-front D fits) (omega arith)

pub encoder-beyond : (E : Encoder) (m : List ℕ) → FitsEncoder E → drop encoder_length (overlay_encoder E m) ≡ drop encoder_length m
unfolding overlay_encoder overlays
encoder-beyond E m fits =
    let front : List ℕ = overlay_front (encoder_front E) m in
    let nontrailers : List ℕ = column_bytes 2 (map nontrailer_of E.entries) in
    let trailers : List ℕ = column_bytes 2 (map trailer_of E.entries) in
    let few = fits.forms.few in
    drop-overlay (overlay front nontrailer_horizons nontrailers) trailer_horizons trailers encoder_length (omega (arith, length-horizons trailer_of E.entries))
    ∙ drop-overlay front nontrailer_horizons nontrailers encoder_length (omega (arith, length-horizons nontrailer_of E.entries))
    ∙ front-beyond (encoder_front E) m encoder_length (encoder-fine E fits) (omega arith)
