-- The bytes of an instruction, and the lengths of its parts. By the laws of append.
use mathlib.Core.Path.{◌≡◌, refl}
use Prim.Native.Nat.{ℕ, ◌+◌}
use mathlib.Core.List.{List}
use lib.ListN.{length, length-append}
use Rattle.integers.specs.Integer.{int_wire}
use Rattle.wire.specs.Text.{string_wire}
use Rattle.wire.specs.Name.{Name, name_wire}
use Rattle.stream_lists.specs.StreamList.{StreamList, list_wire}
use Rattle.instructions.specs.Instruction.{insert, delete, acknowledge, instruction_wire}

module _ (i : ℕ) where
  pub insert-length : (name : Name) (value : List ℕ)
      → length (instruction_wire (insert i name value)) ≡ length (int_wire 7 128 i) + (length (name_wire 8 0 name) + length (string_wire value))
  unfolding instruction_wire
  insert-length name value = simp length-append

  pub delete-length : (l t : StreamList)
      → length (instruction_wire (delete i l t)) ≡ length (int_wire 6 0 i) + (length (list_wire l.horizon l.streams) + length (list_wire t.horizon t.streams))
  unfolding instruction_wire
  delete-length l t = simp length-append

  pub acknowledge-wire : instruction_wire (acknowledge i) ≡ int_wire 6 64 i
  unfolding instruction_wire
  acknowledge-wire = refl
