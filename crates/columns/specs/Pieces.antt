-- Memory made of pieces, each at its place, one behind the other.
use Rattle.std.specs.Prelude.{ℕ, ◌+◌, ◌≤◌, List, [], ◌∷◌, length}
use Rattle.memory.specs.Bytes.{overlay, Has}

pub record Piece : Type 0 where
  pub place : ℕ
  pub bytes : List ℕ

abbrev pub piece : ℕ → List ℕ → Piece
piece at xs = record { place = at; bytes = xs }

-- m, with the pieces stored over it
unfoldable pub overlays : List ℕ → List Piece → List ℕ
overlays m [] = m
overlays m (p ∷ ps) = overlays (overlay m p.place p.bytes) ps

-- all of them stand in m
abbrev pub HasAll : List ℕ → List Piece → Type 0
HasAll m [] = Unit {0}
HasAll m (p ∷ ps) = Has m p.place p.bytes × HasAll m ps

-- each ends before the next begins; they stand from the place `from` on and end at `end` or before
abbrev pub InOrder : ℕ → ℕ → List Piece → Type 0
InOrder from end [] = from ≤ end
InOrder from end (p ∷ ps) = (from ≤ p.place) × InOrder (p.place + length p.bytes) end ps
