-- Reading one instruction from the front of the given bytes: "the answer says how many bytes it took".
use Rattle.std.specs.Prelude.{ℕ, ◌≤◌, List, length, get_or, ltb, leb, Ok, Err}
use Rattle.memory.specs.Choice.{pick, need}
use Rattle.integers.specs.Answers.{Answer, done, Read, read_answer, on_read}
use Rattle.integers.specs.Integer.{read_int, on_int}
use Rattle.wire.specs.Text.{read_string, string_bytes, value_limit, InString, string_length}
use Rattle.wire.specs.Name.{read_name, name_of, GoodName}
use Rattle.stream_lists.specs.StreamList.{read_list, list_of, InList}
use Rattle.integers.specs.declared.number.TableIndex.{TableIndex}
use Rattle.instructions.specs.Instruction.{Instruction, insert, delete, acknowledge}
use Rattle.instructions.specs.declared.read.InstructionPlace.{InstructionPlace}
use Rattle.instructions.specs.declared.read.InstructionPlace.TheVariants.{Insert, Delete, Acknowledge}
use Rattle.integers.specs.declared.answer.Refusal.TheVariants.{NotAllowed, Truncated}

-- what is answered: the index and the place after it; the bytes taken
abbrev pub index_answer : Read TableIndex → Answer
index_answer r = read_answer (λ i next. done i.value next) r

abbrev pub instruction_answer : Read InstructionPlace → Answer
instruction_answer r = read_answer (λ p taken. done taken 0) r

-- the index at the front, with a prefix of k bits: at least 62, else 5
unfoldable pub read_index : ℕ → List ℕ → Read TableIndex
read_index k s =
    on_int Err (read_int k s 0) (λ i next.
    need (leb 62 i) (Err NotAllowed)
    (Ok (record { value = i }, next)))

unfoldable pub read_insert : List ℕ → Read InstructionPlace
read_insert s =
    on_read Err (read_index 7 s) (λ i next.
    on_read Err (read_name 8 s next) (λ name after.
    on_read Err (read_string s after value_limit) (λ value taken.
    Ok (Insert i name value, taken))))

unfoldable pub read_delete : List ℕ → Read InstructionPlace
read_delete s =
    on_read Err (read_index 6 s) (λ i next.
    on_read Err (read_list s next) (λ nontrailer after.
    on_read Err (read_list s after) (λ trailer taken.
    Ok (Delete i nontrailer trailer, taken))))

unfoldable pub read_acknowledgement : List ℕ → Read InstructionPlace
read_acknowledgement s = on_read Err (read_index 6 s) (λ i taken. Ok (Acknowledge i, taken))

-- "the decoder's reader [answers] an acknowledgement [with 5], from the first byte alone"; "empty management input" is 2
unfoldable pub read_for_decoder : List ℕ → Read InstructionPlace
read_for_decoder s =
    need (ltb 0 (length s)) (Err Truncated)
    (pick (leb 128 (get_or s 0 0)) (read_insert s)
    (need (ltb (get_or s 0 0) 64) (Err NotAllowed)
    (read_delete s)))

-- "The encoder's reader answers an insert or a delete with 5 .. from the first byte alone."
unfoldable pub read_for_encoder : List ℕ → Read InstructionPlace
read_for_encoder s =
    need (ltb 0 (length s)) (Err Truncated)
    (need (ltb (get_or s 0 0) 128) (Err NotAllowed)
    (need (leb 64 (get_or s 0 0)) (Err NotAllowed)
    (read_acknowledgement s)))

-- the instruction that stands at a place of s
abbrev pub instruction_of : List ℕ → InstructionPlace → Instruction
instruction_of s (Insert i name value) = insert i.value (name_of s name) (string_bytes s value)
instruction_of s (Delete i nontrailer trailer) = delete i.value (list_of s nontrailer) (list_of s trailer)
instruction_of s (Acknowledge i) = acknowledge i.value

-- the instruction's strings and lists lie in s, so that they can be copied from it
abbrev pub InBytes : List ℕ → InstructionPlace → Type 0
InBytes s (Insert i name value) = GoodName s name × InString s value × (string_length s value ≤ value_limit)
InBytes s (Delete i nontrailer trailer) = InList s nontrailer × InList s trailer
InBytes s (Acknowledge i) = Unit {0}
