-- The bytes that say a string, a name, an instruction and a block, by a writer that is told which strings to pack.
use Rattle.std.specs.Prelude.{ℕ, ◌*◌, Bool, true, false, List, [], ◌∷◌, ◌++◌, length}
use Rattle.integers.specs.Integer.{int_wire}
use Rattle.huffman.specs.Packing.{pack, packed_size}
use Rattle.wire.specs.Name.{Name, indexed as by_index, literal as by_bytes}
use Rattle.stream_lists.specs.StreamList.{list_wire}
use Rattle.instructions.specs.Instruction.{Instruction, insert, delete, acknowledge}
use Rattle.blocks.specs.Representation.{Representation, indexed, literal}

-- which strings of an insert or of a literal are packed: its name, where that is a string, and its value
pub record Packed : Type 0 where
  pub name : Bool
  pub value : Bool

-- "A string is one H bit, a 7-bit-prefix length, then that many bytes."
unfoldable pub string_form : Bool → List ℕ → List ℕ
string_form true xs = int_wire 7 128 (packed_size xs) ++ pack xs
string_form false xs = int_wire 7 0 (length xs) ++ xs

-- "name index (k-bit prefix; 0 means a name string follows)", below the bits top of the first byte
unfoldable pub name_form : ℕ → ℕ → Bool → Name → List ℕ
name_form k top packed (by_index i) = int_wire k top i
name_form k top packed (by_bytes xs) = int_wire k top 0 ++ string_form packed xs

unfoldable pub instruction_form : Packed → Instruction → List ℕ
instruction_form p (insert i name value) = int_wire 7 128 i ++ (name_form 8 0 p.name name ++ string_form p.value value)
instruction_form p (delete i nontrailer trailer) =
    int_wire 6 0 i ++ (list_wire nontrailer.horizon nontrailer.streams ++ list_wire trailer.horizon trailer.streams)
instruction_form p (acknowledge i) = int_wire 6 64 i

unfoldable pub representation_form : Packed → Representation → List ℕ
representation_form p (indexed i) = int_wire 7 128 i
representation_form p (literal flag name value) = name_form 6 (flag * 64) p.name name ++ string_form p.value value

-- each representation with its own strings
unfoldable pub block_form : List Packed → List Representation → List ℕ
block_form [] rs = []
block_form (p ∷ ps) [] = []
block_form (p ∷ ps) (r ∷ rs) = representation_form p r ++ block_form ps rs
