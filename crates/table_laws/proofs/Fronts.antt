-- One front over another: the parts of the second are stored over those of the first, each of the same length.
use Prim.Native.Nat.{ℕ, ◌*◌}
use mathlib.Core.Path.{◌≡◌, refl, sym, ap, subst, ◌∙◌}
use native.Mathlib.Omega.{arith}
use mathlib.Core.List.{List, ◌∷◌, map}
use lib.ListN.{length, length-map}
use Rattle.columns.specs.Columns.{column_bytes}
use Rattle.columns.proofs.Columns.{length-column_bytes}
use Rattle.columns.proofs.Pieces.{SameShape, overlays-over}
use Rattle.state.specs.Layout.{front_length, before_first}
use Rattle.state.specs.Rows.{Row, row_index, name_length, row_status, offsets_from, text_bytes}
use Rattle.state.specs.Front.{Front, front_pieces, overlay_front}
use Rattle.state_laws.proofs.FrontHolds.{FineFront, HoldsFront}
use Rattle.state_laws.proofs.FrontLengths.{length-head_bytes, length-marks_bytes, length-offsets}
use Rattle.state_laws.proofs.FrontOverlay.{pieces-order, overlay-holds}

-- ---- memory that is a front over memory holds it

pub kept-front : (f g : Front) (m n : List ℕ) → HoldsFront f m → FineFront g → n ≡ overlay_front g m → HoldsFront g n
kept-front f g m n H G e = subst (HoldsFront g) (sym e) (overlay-holds g m H.long G)

-- ---- a front over a front

as_long : (w : ℕ) (xs ys : List ℕ) → length xs ≡ length ys → length (column_bytes w xs) ≡ length (column_bytes w ys)
as_long w xs ys e = length-column_bytes w xs ∙ ap (λ (n : ℕ). w * n) e ∙ sym (length-column_bytes w ys)

-- as many rows, with as much text
same_shape : (f g : Front) → length g.rows ≡ length f.rows → length (text_bytes g.rows) ≡ length (text_bytes f.rows)
    → SameShape (front_pieces f) (front_pieces g)
unfolding front_pieces
same_shape f g n t =
    let rs : List Row = f.rows in
    let qs : List Row = g.rows in (
      refl,
      length-head_bytes f ∙ sym (length-head_bytes g),
      (
        refl,
        length-marks_bytes f.marks ∙ sym (length-marks_bytes g.marks),
        (
          refl,
          as_long 4 (before_first ∷ map row_index rs) (before_first ∷ map row_index qs) (omega (arith, length-map rs row_index, length-map qs row_index)),
          (
            refl,
            as_long 2 (offsets_from 0 rs) (offsets_from 0 qs) (omega (arith, length-offsets 0 rs, length-offsets 0 qs)),
            (
              refl,
              as_long 1 (map name_length rs) (map name_length qs) (omega (arith, length-map rs name_length, length-map qs name_length)),
              (
                refl,
                as_long 2 (map row_status rs) (map row_status qs) (omega (arith, length-map rs row_status, length-map qs row_status)),
                (refl, sym t, tt),
              ),
            ),
          ),
        ),
      ),
    )

pub over-front : (f g : Front) (m : List ℕ) → FineFront g → length g.rows ≡ length f.rows
    → length (text_bytes g.rows) ≡ length (text_bytes f.rows) → overlay_front g (overlay_front f m) ≡ overlay_front g m
unfolding overlay_front
over-front f g m G n t = overlays-over m 0 front_length (front_pieces f) (front_pieces g) (same_shape f g n t) (pieces-order g G)

-- one change after another
pub then-front : (f g : Front) (m n l : List ℕ) → n ≡ overlay_front f m → l ≡ overlay_front g n → FineFront g → length g.rows ≡ length f.rows
    → length (text_bytes g.rows) ≡ length (text_bytes f.rows) → l ≡ overlay_front g m
then-front f g m n l d e G a b = e ∙ ap (overlay_front g) d ∙ over-front f g m G a b
