-- The two columns of an encoder's horizons: they stand one behind the other behind the front, and what is read from them is what was entered.
-- By the laws of columns.
use Prim.Native.Nat.{ℕ, ◌*◌, ◌≤◌}
use mathlib.Core.Path.{◌≡◌}
use native.Mathlib.Omega.{arith}
use mathlib.Core.List.{List, [], ◌∷◌, map}
use lib.ListN.{length, length-map}
use Rattle.columns.specs.Columns.{column_bytes, Reads}
use Rattle.columns.specs.Pieces.{HasAll, InOrder}
use Rattle.columns.proofs.Columns.{Fits, length-column_bytes, column-reads}
use Rattle.model.specs.Encoder.{Sent, FineSent}
use Rattle.state.specs.Layout.{front_length, nontrailer_horizons, trailer_horizons}
use Rattle.state.specs.EncoderState.{nontrailer_of, trailer_of, horizon_pieces}
use Rattle.state_laws.proofs.Each.{Each}

-- where the second column ends, with all its places
abbrev pub horizons_end : ℕ
horizons_end = 7744

pub length-horizons : (f : Sent → ℕ) (es : List Sent) → length (column_bytes 2 (map f es)) ≡ 2 * length es
length-horizons f es = omega (arith, length-column_bytes 2 (map f es), length-map es f)

pub horizons-order : (es : List Sent) → length es ≤ 128 → InOrder front_length horizons_end (horizon_pieces es)
horizons-order es few = (
  omega arith,
  (omega (arith, length-horizons nontrailer_of es), omega (arith, length-horizons trailer_of es)),
)

-- every horizon has two bytes
horizons-fit : (f : Sent → ℕ) → ((e : Sent) → FineSent e → f e ≤ 4096) → (es : List Sent) → Each FineSent es → Fits 2 (map f es)
horizons-fit f low [] fine = tt
horizons-fit f low (e ∷ es) fine = (omega (arith, low e fine.0), horizons-fit f low es fine.1)

module _ (m : List ℕ) (es : List Sent) (fine : Each FineSent es) (has : HasAll m (horizon_pieces es)) where
  pub nontrailers-read : Reads 2 m nontrailer_horizons (map nontrailer_of es)
  nontrailers-read = column-reads 2 m nontrailer_horizons (map nontrailer_of es) (horizons-fit nontrailer_of (λ e d. d.nontrailer) es fine) has.0

  pub trailers-read : Reads 2 m trailer_horizons (map trailer_of es)
  trailers-read = column-reads 2 m trailer_horizons (map trailer_of es) (horizons-fit trailer_of (λ e d. d.trailer) es fine) has.1.0
