-- Instructions as data, and the bytes that say them.
use Rattle.std.specs.Prelude.{ℕ, ◌≤◌, List, ◌++◌, length}
use Rattle.integers.specs.Integer.{largest, int_wire}
use Rattle.wire.specs.Text.{value_limit, string_wire}
use Rattle.wire.specs.Name.{Name, FineName, name_wire}
use Rattle.stream_lists.specs.StreamList.{StreamList, horizon_limit, count_limit, Fits, list_wire}

pub data Instruction : Type 0 where
  -- "new index, name .., value string"
  insert : ℕ → Name → List ℕ → Instruction
  -- "index .., then a stream list for non-trailer blocks and one for trailer blocks"
  delete : ℕ → StreamList → StreamList → Instruction
  -- Delete-Ack
  acknowledge : ℕ → Instruction

-- "New index 62 to 2^27 − 1"
abbrev pub FineIndex : ℕ → Type 0
FineIndex i = (62 ≤ i) × (i ≤ largest)

-- "Horizon at most 4,096, count at most 16, deltas at least 1, listed streams at most 4,095"
abbrev pub FineList : StreamList → Type 0
FineList l = (l.horizon ≤ horizon_limit) × (length l.streams ≤ count_limit) × Fits l.horizon l.streams

-- what can be said on the wire
abbrev pub FineInstruction : Instruction → Type 0
FineInstruction (insert i name value) = FineIndex i × FineName name × (length value ≤ value_limit)
FineInstruction (delete i nontrailer trailer) = FineIndex i × FineList nontrailer × FineList trailer
FineInstruction (acknowledge i) = FineIndex i

-- what the management stream carries to the decoder: an insert or a delete
abbrev pub Manages : Instruction → Type 0
Manages (insert i name value) = Unit {0}
Manages (delete i nontrailer trailer) = Unit {0}
Manages (acknowledge i) = ⊥

-- insert: "bit 1, new index (7-bit prefix), name index (8-bit prefix; 0 means a name string follows), value string".
-- delete: "bits 00, index (6-bit prefix), then a stream list .. and one ..". Delete-Ack: "bits 01, index (6-bit prefix)".
unfoldable pub instruction_wire : Instruction → List ℕ
instruction_wire (insert i name value) = int_wire 7 128 i ++ (name_wire 8 0 name ++ string_wire value)
instruction_wire (delete i nontrailer trailer) =
    int_wire 6 0 i ++ (list_wire nontrailer.horizon nontrailer.streams ++ list_wire trailer.horizon trailer.streams)
instruction_wire (acknowledge i) = int_wire 6 64 i
