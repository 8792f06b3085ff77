-- Representations as data, and the bytes that say them.
use Rattle.std.specs.Prelude.{ℕ, ◌*◌, ◌<◌, ◌≤◌, List, [], ◌∷◌, ◌++◌, length}
use Rattle.integers.specs.Integer.{largest, int_wire}
use Rattle.wire.specs.Text.{value_limit, string_wire}
use Rattle.wire.specs.Name.{Name, FineName, name_wire}

pub data Representation : Type 0 where
  -- a field of the tables by its index
  indexed : ℕ → Representation
  -- a field whose N bit, name and value are given
  literal : ℕ → Name → List ℕ → Representation

-- what can be said on the wire
abbrev pub FineRepresentation : Representation → Type 0
FineRepresentation (indexed i) = (0 < i) × (i ≤ largest)
FineRepresentation (literal flag name value) = (flag < 2) × FineName name × (length value ≤ value_limit)

abbrev pub AllFine : List Representation → Type 0
AllFine [] = Unit {0}
AllFine (r ∷ rs) = FineRepresentation r × AllFine rs

-- "indexed is bit 1 and an index (7-bit prefix ..). Literal is bit 0, N, name index (6-bit prefix; 0 means a name string follows), value string."
unfoldable pub representation_wire : Representation → List ℕ
representation_wire (indexed i) = int_wire 7 128 i
representation_wire (literal flag name value) = name_wire 6 (flag * 64) name ++ string_wire value

unfoldable pub block_wire : List Representation → List ℕ
block_wire [] = []
block_wire (r ∷ rs) = representation_wire r ++ block_wire rs
