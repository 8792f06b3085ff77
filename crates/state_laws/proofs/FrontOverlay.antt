-- The bytes of a front over memory: the memory then holds it, memory that holds it already stays, and what stands after the front is beside it.
-- By the laws of pieces: those of a front lie one after the other.
use Prim.Native.Nat.{ℕ, ◌≤◌}
use mathlib.Core.Path.{◌≡◌}
use native.Mathlib.Omega.{arith}
use mathlib.Core.List.{List, ◌∷◌, map}
use lib.ListN.{length, length-map}
use Rattle.memory.specs.Bytes.{overlay}
use Rattle.memory.proofs.Overlay.{length-overlay}
use Rattle.columns.specs.Pieces.{InOrder}
use Rattle.columns.proofs.Columns.{length-column_bytes}
use Rattle.columns.proofs.Pieces.{length-overlays, overlays-same, overlays-has, overlays-beyond, all-beyond}
use Rattle.state.specs.Layout.{front_length, before_first}
use Rattle.state.specs.Rows.{Row, row_index, name_length, row_status, offsets_from}
use Rattle.state.specs.Front.{Front, front_pieces, overlay_front}
use Rattle.state_laws.proofs.FrontHolds.{FineFront, HoldsFront, holds-pieces, pieces-hold}
use Rattle.state_laws.proofs.FrontLengths.{length-head_bytes, length-marks_bytes, length-offsets}
use Rattle.state_laws.proofs.FrontRead.{fine-text}

pub pieces-order : (f : Front) → FineFront f → InOrder 0 front_length (front_pieces f)
unfolding front_pieces
pieces-order f F =
    let rs : List Row = f.rows in
    let few = F.few in (
      omega arith,
      (
        omega (arith, length-head_bytes f),
        (
          omega (arith, length-marks_bytes f.marks),
          (
            omega (arith, length-column_bytes 4 (before_first ∷ map row_index rs), length-map rs row_index),
            (
              omega (arith, length-column_bytes 2 (offsets_from 0 rs), length-offsets 0 rs),
              (
                omega (arith, length-column_bytes 1 (map name_length rs), length-map rs name_length),
                (omega (arith, length-column_bytes 2 (map row_status rs), length-map rs row_status), omega (arith, fine-text f F)),
              ),
            ),
          ),
        ),
      ),
    )

-- ---- a front over memory

pub length-overlay_front : (f : Front) (m : List ℕ) → length (overlay_front f m) ≡ length m
unfolding overlay_front
length-overlay_front f m = length-overlays m (front_pieces f)

pub overlay-holds : (f : Front) (m : List ℕ) → front_length ≤ length m → FineFront f → HoldsFront f (overlay_front f m)
unfolding overlay_front
overlay-holds f m long F =
    pieces-hold f (overlay_front f m) (omega (arith, length-overlay_front f m)) F
    (overlays-has m 0 front_length (front_pieces f) (pieces-order f F) long)

pub overlay-self : (f : Front) (m : List ℕ) → HoldsFront f m → overlay_front f m ≡ m
unfolding overlay_front
overlay-self f m H = overlays-same m (front_pieces f) (holds-pieces f m H)

-- ---- what stands after it

module _ (f : Front) (m : List ℕ) (at : ℕ) (xs : List ℕ) (after : front_length ≤ at) where
  pub holds-beyond : HoldsFront f m → HoldsFront f (overlay m at xs)
  holds-beyond H =
      pieces-hold f (overlay m at xs) (omega (arith, length-overlay m at xs, H.long)) H.fine
      (all-beyond m at xs 0 front_length (front_pieces f) (pieces-order f H.fine) after (holds-pieces f m H))

  pub front-beyond : FineFront f → overlay_front f (overlay m at xs) ≡ overlay (overlay_front f m) at xs
  unfolding overlay_front
  front-beyond F = overlays-beyond m at xs 0 front_length (front_pieces f) (pieces-order f F) after
