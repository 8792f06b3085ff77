-- What a call does: the state after it, its answer, and what it writes into the lent output.
use Rattle.std.specs.Prelude.{ℕ, List, [], leb}
use Rattle.memory.specs.Choice.{need}
use Rattle.integers.specs.Answers.{Answer, done, refusal, over_limit}
use Rattle.fields.specs.Form.{Field, list_form}
use Rattle.instructions.specs.Instruction.{Instruction, instruction_wire}
use Rattle.blocks.specs.Representation.{Representation, block_wire}

pub data Output : Type 0 where
  nothing : Output
  instruction : Instruction → Output
  block : List Representation → Output
  fields : List Field → Output

-- the bytes of it
unfoldable pub output_bytes : Output → List ℕ
output_bytes nothing = []
output_bytes (instruction i) = instruction_wire i
output_bytes (block rs) = block_wire rs
output_bytes (fields fs) = list_form fs

pub record Outcome (S : Type 0) : Type 0 where
  pub state : S
  pub answer : Answer
  pub output : Output

-- "Every number but 0 leaves state and buffers unchanged."
abbrev pub refuse : {S : Type 0} → S → ℕ → Outcome S
refuse s number = record { state = s; answer = refusal number; output = nothing }

-- "Order: at start 7, then 12": the limit is at most 4,096
unfoldable pub start_answer : ℕ → Answer
start_answer limit = need (leb limit 4096) (refusal over_limit) (done 0 0)

-- done, with the numbers told and what is written
abbrev pub finish : {S : Type 0} → S → ℕ → ℕ → Output → Outcome S
finish s first second output = record { state = s; answer = done first second; output = output }
