-- A state laid over memory, and then one with the same rows over it: nothing of the first is left. Fronts by their law, and the horizons behind them by that
-- of pieces.
use mathlib.Core.Path.{◌≡◌, refl, ap, ◌∙◌}
use Prim.Native.Nat.{ℕ, ◌≤◌}
use native.Mathlib.Omega.{arith}
use mathlib.Core.List.{List, map}
use lib.ListN.{length, length-map}
use Rattle.columns.specs.Pieces.{Piece, overlays}
use Rattle.columns.proofs.Pieces.{SameShape, overlays-over}
use Rattle.model.specs.Encoder.{Encoder}
use Rattle.state.specs.Layout.{front_length}
use Rattle.state.specs.Rows.{Row, text_bytes}
use Rattle.state.specs.Front.{Front, overlay_front}
use Rattle.state.specs.EncoderState.{row_of_sent, encoder_front, nontrailer_of, trailer_of, horizon_pieces, overlay_encoder}
use Rattle.state_laws.proofs.FrontHolds.{FineFront}
use Rattle.state_laws.proofs.Behind.{front-pieces}
use Rattle.state_laws.proofs.Horizons.{horizons_end, length-horizons, horizons-order}
use Rattle.table_laws.proofs.Fronts.{over-front}

module _ (E F : Encoder) (m : List ℕ) (fine : FineFront (encoder_front F)) (rows : map row_of_sent F.entries ≡ map row_of_sent E.entries) where
  same : length F.entries ≡ length E.entries
  same = omega (arith, ap length rows, length-map F.entries row_of_sent, length-map E.entries row_of_sent)

  few : length F.entries ≤ 128
  unfolding encoder_front
  few = omega (arith, fine.few, length-map F.entries row_of_sent)

  shape : SameShape (horizon_pieces E.entries) (horizon_pieces F.entries)
  shape =
      let n = same in (
        refl,
        omega (arith, length-horizons nontrailer_of E.entries, length-horizons nontrailer_of F.entries),
        (refl, omega (arith, length-horizons trailer_of E.entries, length-horizons trailer_of F.entries), tt),
      )

  pub overlay-twice : overlay_encoder F (overlay_encoder E m) ≡ overlay_encoder F m
  unfolding overlay_encoder encoder_front
  overlay-twice =
      let f : Front = encoder_front E in
      let k : Front = encoder_front F in
      let ps : List Piece = horizon_pieces E.entries in
      let qs : List Piece = horizon_pieces F.entries in
      ap (λ (l : List ℕ). overlays l qs)
      (front-pieces k (overlay_front f m) front_length horizons_end ps fine (omega arith) (horizons-order E.entries (omega (arith, few, same)))
      ∙ ap (λ (l : List ℕ). overlays l ps) (over-front f k m fine (ap length rows) (ap (λ (rs : List Row). length (text_bytes rs)) rows)))
      ∙ overlays-over (overlay_front k m) front_length horizons_end ps qs shape (horizons-order F.entries few)
