-- How many bytes an instruction has, and that they are bytes. By the lengths of its parts.
use mathlib.Core.Path.{◌≡◌, ap}
use Prim.Native.Nat.{ℕ, zero, suc, ◌-◌, ◌≤◌}
use native.Mathlib.Omega.{arith}
use mathlib.Core.List.{List, [], ◌∷◌, ◌++◌}
use lib.ListN.{length}
use Rattle.memory.specs.Bytes.{Small}
use Rattle.memory.proofs.Overlay.{small-append}
use Rattle.integers.specs.Integer.{int_wire}
use Rattle.integers.proofs.Lengths.{int-one, int-within, int-length, int-bytes-small}
use Rattle.wire.specs.Text.{string_wire}
use Rattle.wire.specs.Name.{Name, FineName, name_wire}
use Rattle.stream_lists.specs.StreamList.{StreamList, Fits, deltas_wire, list_wire}
use Rattle.wire.proofs.TextWriting.{string-within, string-small, index-wire, literal-length-wire}
use Rattle.stream_lists.proofs.ListBack.{list-size}
use Rattle.instructions.specs.Instruction.{Instruction, insert, delete, acknowledge, FineList, FineInstruction, instruction_wire}
use Rattle.instructions.proofs.Writing.{acknowledge-wire, insert-length, delete-length}

pub acknowledge-length : (i : ℕ) → (1 ≤ length (instruction_wire (acknowledge i))) × (length (instruction_wire (acknowledge i)) ≤ 5)
acknowledge-length i = rw (acknowledge-wire i) (int-length 6 64 i)

-- one byte for 62, and at most two up to 190
pub acknowledge-one : (i : ℕ) → i ≤ 62 → length (instruction_wire (acknowledge i)) ≡ 1
acknowledge-one i h = rw (acknowledge-wire i) (int-one 6 64 i (omega arith))

pub acknowledge-two : (i : ℕ) → i ≤ 190 → length (instruction_wire (acknowledge i)) ≤ 2
acknowledge-two i h = rw (acknowledge-wire i) (int-within 6 64 i 0 (omega arith))

-- no instruction is empty
pub instruction-some : (i : Instruction) → 1 ≤ length (instruction_wire i)
instruction-some (insert i name value) = omega (arith, insert-length i name value, int-length 7 128 i)
instruction-some (delete i nontrailer trailer) =
    omega (arith, delete-length i nontrailer trailer, int-length 6 0 i)
instruction-some (acknowledge i) = (acknowledge-length i).0

-- an insert has at most 2,314 bytes, a delete 109
name-size : (n : Name) → FineName n → length (name_wire 8 0 n) ≤ 259
name-size (Name.indexed i) f = omega (arith, ap length (index-wire 8 0 i), int-length 8 0 i)
name-size (Name.literal xs) f =
    omega (arith, literal-length-wire 8 0 xs, int-one 8 0 0 (omega arith), string-within xs 1 (omega arith))

pub insert-size : (i : ℕ) (name : Name) (value : List ℕ) → FineInstruction (insert i name value) → length (instruction_wire (insert i name value)) ≤ 2314
insert-size i name value f =
    omega (arith, insert-length i name value, int-length 7 128 i, name-size name f.1, string-within value 1 (omega (arith, f.2)))

pub delete-size : (i : ℕ) (nontrailer trailer : StreamList) → FineInstruction (delete i nontrailer trailer) → length (instruction_wire (delete i nontrailer trailer)) ≤ 109
delete-size i nontrailer trailer f =
    omega (
      arith,
      delete-length i nontrailer trailer,
      int-length 6 0 i,
      list-size nontrailer.horizon nontrailer.streams f.1.0 f.1.1 f.1.2,
      list-size trailer.horizon trailer.streams f.2.0 f.2.1 f.2.2,
    )

-- the bytes of a name are bytes
abbrev pub SmallName : Name → Type 0
SmallName (Name.indexed i) = Unit {0}
SmallName (Name.literal xs) = Small xs

name-small : (n : Name) → FineName n → SmallName n → Small (name_wire 8 0 n)
unfolding name_wire
name-small (Name.indexed i) f h = int-bytes-small 8 0 i (omega arith) f.1
name-small (Name.literal xs) f h =
    small-append (int_wire 8 0 0) (string_wire xs) (int-bytes-small 8 0 0 (omega arith) (omega arith)) (string-small xs (omega arith) h)

small-none : Small []
small-none zero = omega arith
small-none (suc k) = omega arith

deltas-small : (last : ℕ) (xs : List ℕ) → Fits last xs → Small (deltas_wire last xs)
unfolding deltas_wire
deltas-small last [] f = small-none
deltas-small last (x ∷ xs) f =
    small-append (int_wire 8 0 (x - last)) (deltas_wire x xs) (int-bytes-small 8 0 (x - last) (omega arith) (omega (arith, f.1))) (deltas-small x xs f.2)

list-small : (l : StreamList) → FineList l → Small (list_wire l.horizon l.streams)
unfolding list_wire
list-small l f =
    let n = length l.streams in
    let zs = deltas_wire l.horizon l.streams in
    small-append (int_wire 8 0 l.horizon) (int_wire 8 0 n ++ zs) (int-bytes-small 8 0 l.horizon (omega arith) (omega (arith, f.0)))
    (small-append (int_wire 8 0 n) zs (int-bytes-small 8 0 n (omega arith) (omega (arith, f.1))) (deltas-small l.horizon l.streams f.2))

-- the strings of an instruction are bytes
abbrev pub SmallText : Instruction → Type 0
SmallText (insert i name value) = SmallName name × Small value
SmallText (delete i nontrailer trailer) = Unit {0}
SmallText (acknowledge i) = Unit {0}

pub instruction-small : (i : Instruction) → FineInstruction i → SmallText i → Small (instruction_wire i)
unfolding instruction_wire
instruction-small (insert i name value) f h =
    small-append (int_wire 7 128 i) (name_wire 8 0 name ++ string_wire value) (int-bytes-small 7 128 i (omega arith) f.0.1)
    (small-append (name_wire 8 0 name) (string_wire value) (name-small name f.1 h.0) (string-small value f.2 h.1))
instruction-small (delete i nontrailer trailer) f h =
    let xs = list_wire nontrailer.horizon nontrailer.streams in
    let ys = list_wire trailer.horizon trailer.streams in
    small-append (int_wire 6 0 i) (xs ++ ys) (int-bytes-small 6 0 i (omega arith) f.0.1)
    (small-append xs ys (list-small nontrailer f.1) (list-small trailer f.2))
instruction-small (acknowledge i) f h = int-bytes-small 6 64 i (omega arith) f.1
