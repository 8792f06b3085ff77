-- Pieces that stand behind the front: the front laid over memory keeps them, and they keep the front. By induction over the pieces.
use Prim.Native.Nat.{ℕ, ◌+◌, ◌≤◌}
use mathlib.Core.Path.{◌≡◌, refl, ap, ◌∙◌}
use native.Mathlib.Omega.{arith}
use mathlib.Core.List.{List, [], ◌∷◌}
use lib.ListN.{length}
use Rattle.memory.specs.Bytes.{overlay, Has}
use Rattle.columns.specs.Pieces.{Piece, overlays, HasAll, InOrder}
use Rattle.columns.proofs.Pieces.{has-behind}
use Rattle.state.specs.Layout.{front_length}
use Rattle.state.specs.Front.{Front, front_pieces, overlay_front}
use Rattle.state_laws.proofs.FrontHolds.{FineFront, HoldsFront}
use Rattle.state_laws.proofs.FrontOverlay.{pieces-order, holds-beyond, front-beyond}

module _ (f : Front) where
  pub stands-behind : (m : List ℕ) (at : ℕ) (xs : List ℕ) → FineFront f → front_length ≤ at → Has m at xs → Has (overlay_front f m) at xs
  unfolding overlay_front
  stands-behind m at xs F h has = has-behind m 0 front_length (front_pieces f) (pieces-order f F) at xs h has

  pub all-behind : (m : List ℕ) (from end : ℕ) (ps : List Piece) → FineFront f → front_length ≤ from → InOrder from end ps → HasAll m ps
      → HasAll (overlay_front f m) ps
  all-behind m from end [] F h order has = tt
  all-behind m from end (p ∷ ps) F h order has =
      let low = order.0 in (
        stands-behind m p.place p.bytes F (omega arith) has.0,
        all-behind m (p.place + length p.bytes) end ps F (omega arith) order.1 has.1,
      )

  pub holds-behind : (m : List ℕ) (from end : ℕ) (ps : List Piece) → front_length ≤ from → InOrder from end ps → HoldsFront f m
      → HoldsFront f (overlays m ps)
  unfolding overlays
  holds-behind m from end [] h order H = H
  holds-behind m from end (p ∷ ps) h order H =
      let low = order.0 in
      holds-behind (overlay m p.place p.bytes) (p.place + length p.bytes) end ps (omega arith) order.1
      (holds-beyond f m p.place p.bytes (omega arith) H)

  pub front-pieces : (m : List ℕ) (from end : ℕ) (ps : List Piece) → FineFront f → front_length ≤ from → InOrder from end ps
      → overlay_front f (overlays m ps) ≡ overlays (overlay_front f m) ps
  unfolding overlays
  front-pieces m from end [] F h order = refl
  front-pieces m from end (p ∷ ps) F h order =
      let low = order.0 in
      front-pieces (overlay m p.place p.bytes) (p.place + length p.bytes) end ps F (omega arith) order.1
      ∙ ap (λ (l : List ℕ). overlays l ps) (front-beyond f m p.place p.bytes (omega arith) F)
