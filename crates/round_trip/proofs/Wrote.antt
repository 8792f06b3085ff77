-- What a finished step leaves at the front of the lent output: the bytes of what was said, as many as are told.
-- An instruction among them reads back as itself, by the round trip of its bytes.
use mathlib.Core.Path.{◌≡◌, sym, subst}
use Prim.Native.Nat.{ℕ, ◌≤◌}
use native.Mathlib.Omega.{arith}
use mathlib.Core.List.{List}
use lib.ListN.{length, take}
use Rattle.memory.specs.Bytes.{overlay}
use Rattle.memory.proofs.Places.{has_all, part-overlay}
use Rattle.instructions.specs.Instruction.{Instruction, Manages, FineInstruction, instruction_wire}
use Rattle.instructions.proofs.Back.{decoder-back}
use Rattle.round_trip.specs.Written.{ReadsAs}

pub front : (out bytes : List ℕ) → length bytes ≤ length out → take (length bytes) (overlay out 0 bytes) ≡ bytes
front out bytes h = part-overlay out 0 bytes (omega arith)

pub front_reads : (out : List ℕ) (i : Instruction) → Manages i → FineInstruction i → length (instruction_wire i) ≤ length out
    → ReadsAs (take (length (instruction_wire i)) (overlay out 0 (instruction_wire i))) i
front_reads out i manages fine h =
    let back = decoder-back (instruction_wire i) i manages fine (has_all (instruction_wire i)) in
    subst (λ (b : List ℕ). ReadsAs b i) (sym (front out (instruction_wire i) h)) (record { place = back.0; found = back.1; is = back.2 })
