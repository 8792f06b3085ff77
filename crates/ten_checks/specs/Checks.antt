-- Document 01's "Bytes to check against", numbers 1 to 10: one list of what the definitions compute and what the paper says.
-- What is read or decoded is told by a decoder's calls, one after another from a start with limit 4,096, in whatever memory.
use Rattle.std.specs.Prelude.{◌≡◌, ℕ, zero, suc, ◌+◌, List, [], ◌∷◌, ◌++◌, take, replicate}
use Rattle.memory.specs.Choice.{pick}
use Rattle.memory.specs.Bytes.{Small}
use Rattle.integers.specs.Integer.{int_wire}
use Rattle.stream_lists.specs.StreamList.{StreamList, names}
use Rattle.wire.specs.Name.{literal}
use Rattle.instructions.specs.Instruction.{Instruction, insert, delete, acknowledge, instruction_wire}
use Rattle.instructions.specs.Reading.{read_for_decoder, instruction_of}
use Rattle.model.specs.Parts.{over, streams}
use Rattle.model.specs.Encoder.{empty_list}
use Rattle.state.specs.Layout.{held_of}
use Rattle.reply.specs.Result.{Result}
use Rattle.decoder.specs.Calls as decoder
use Rattle.link.specs.Calls.{DecoderCall, read, close, hold, decoder_result, decoder_after, done_bytes}
use Rattle.link.specs.Calls as calls
use Rattle.integers.specs.Answers.{on_read}

-- ---- calls after a start

-- the memory m after a start with this limit, and then the calls cs
abbrev pub since : List ℕ → ℕ → List DecoderCall → List ℕ
since m limit cs = decoder_after (decoder.start_call m limit).memory cs

-- an answer as numbers, and the bytes that were written
abbrev pub told : Result → List ℕ
told r = r.answer.number ∷ r.answer.first ∷ r.answer.second ∷ done_bytes r

-- what the call c tells after the calls cs, with limit 4,096
abbrev pub tells : List ℕ → List DecoderCall → DecoderCall → List ℕ
tells m cs c = told (decoder_result (since m 4096 cs) c)

-- the answers' numbers of calls one after another; and of a start with this limit and then of those calls
unfoldable pub numbers : List ℕ → List DecoderCall → List ℕ
numbers m [] = []
numbers m (c ∷ cs) = (decoder_result m c).answer.number ∷ numbers (decoder_result m c).memory cs

abbrev pub numbers_since : List ℕ → ℕ → List DecoderCall → List ℕ
numbers_since m limit cs = (decoder.start_call m limit).answer.number ∷ numbers (decoder.start_call m limit).memory cs

-- a block on stream 0, with room for so many bytes
abbrev pub block : List ℕ → ℕ → DecoderCall
block s room = calls.DecoderCall.block 0 0 s (replicate room 0)

-- streams 0 to n - 1 "past their non-trailer part": the host says that it is over
unfoldable pub past_below : ℕ → List DecoderCall
past_below zero = []
past_below (suc n) = close over n ∷ past_below n

-- ---- which streams a delete's first list names

-- the first list of the delete that these bytes are read as
abbrev nontrailer_of : Instruction → StreamList
nontrailer_of (insert i name value) = empty_list 0
nontrailer_of (delete i nontrailer trailer) = nontrailer
nontrailer_of (acknowledge i) = empty_list 0

abbrev nontrailer_read : List ℕ → StreamList
nontrailer_read s = on_read (λ why. empty_list 0) (read_for_decoder s) (λ p taken. nontrailer_of (instruction_of s p))

-- the streams that it names, of the n streams from k on
unfoldable pub named_from : StreamList → ℕ → ℕ → List ℕ
named_from l k zero = []
named_from l k (suc n) = pick (names l k) (k ∷ []) [] ++ named_from l (k + 1) n

-- ---- what is computed, and what the paper says
pub record Check : Type 0 where
  pub number : ℕ
  pub computed : List ℕ
  pub paper : List ℕ

abbrev check : ℕ → List ℕ → List ℕ → Check
check number computed paper = record { number = number; computed = computed; paper = paper }

-- number 4's bytes; and the same at 63 and 64, for number 9
abbrev pub h9 : List ℕ
h9 = 0xBE ∷ 0x00 ∷ 0x01 ∷ 0x68 ∷ 0x01 ∷ 0x39 ∷ []

abbrev pub h9_63 : List ℕ
h9_63 = 0xBF ∷ 0x00 ∷ 0x01 ∷ 0x68 ∷ 0x01 ∷ 0x39 ∷ []

abbrev pub h9_64 : List ℕ
h9_64 = 0xC0 ∷ 0x00 ∷ 0x01 ∷ 0x68 ∷ 0x01 ∷ 0x39 ∷ []

-- the calls "after 4", and with streams 0 to 4 past their non-trailer part; number 10's bytes
abbrev pub after4 : List DecoderCall
after4 = read h9 ∷ []

abbrev pub past4 : List DecoderCall
past4 = read h9 ∷ past_below 5

abbrev pub delete62 : List ℕ
delete62 = 0x3E ∷ 0x05 ∷ 0x00 ∷ 0x00 ∷ 0x00 ∷ []

-- number 8's delete of 62 with its list, and the calls that read it, with the streams below n past their non-trailer part
abbrev pub delete_list : List ℕ
delete_list = 0x3E ∷ 0x03 ∷ 0x02 ∷ 0x01 ∷ 0x03 ∷ 0x00 ∷ 0x00 ∷ []

abbrev pub named8 : ℕ → List DecoderCall
named8 n = read h9 ∷ read delete_list ∷ past_below n

unfoldable pub checks : List ℕ → List Check
checks m =
    -- 1. "10 and 1337 with a 5-bit prefix are 0A and 1F 9A 0A; 42 with 8 bits is 2A"
    check 1 (int_wire 5 0 10 ++ int_wire 5 0 1337 ++ int_wire 8 0 42) (0x0A ∷ 0x1F ∷ 0x9A ∷ 0x0A ∷ 0x2A ∷ []) ∷
    -- 2. "Insert index 127: starts FF 00. Index 134,217,727: FF 80 FF FF 3F. FF 81 FF FF 3F gives 3."
    check 2
    (take 2 (instruction_wire (insert 127 (literal []) [])) ++ take 5 (instruction_wire (insert 134217727 (literal []) []))
    ++ tells m [] (read (0xFF ∷ 0x81 ∷ 0xFF ∷ 0xFF ∷ 0x3F ∷ [])))
    (0xFF ∷ 0x00 ∷ 0xFF ∷ 0x80 ∷ 0xFF ∷ 0xFF ∷ 0x3F ∷ 3 ∷ 0 ∷ 0 ∷ []) ∷
    -- 3. "Delete 62 starts 3E, delete 63 starts 3F 00. Acknowledgements: 7E, 7F 00."
    check 3
    (take 1 (instruction_wire (delete 62 (empty_list 0) (empty_list 0))) ++ take 2 (instruction_wire (delete 63 (empty_list 0) (empty_list 0)))
    ++ instruction_wire (acknowledge 62) ++ instruction_wire (acknowledge 63))
    (0x3E ∷ 0x3F ∷ 0x00 ∷ 0x7E ∷ 0x7F ∷ 0x00 ∷ []) ∷
    -- 4. "BE 00 01 68 01 39 inserts h = 9 at 62, size 34." Six bytes are taken, the held size stored is then 34, and this insert is written so. That a
    -- block which names 62 then gives h = 9 is number 5.
    check 4 (tells m [] (read h9) ++ (held_of (since m 4096 after4) ∷ instruction_wire (insert 62 (literal (0x68 ∷ [])) (0x39 ∷ []))))
    (0 ∷ 6 ∷ 0 ∷ 34 ∷ h9) ∷
    -- 5. "After 4, block BE 82 gives the list, whole: 00 01 68 01 39 00 07 3A 6D 65 74 68 6F 64 03 47 45 54."
    check 5 (tells m after4 (block (0xBE ∷ 0x82 ∷ []) 18))
    (0 ∷ 18 ∷ 0 ∷ 0x00 ∷ 0x01 ∷ 0x68 ∷ 0x01 ∷ 0x39 ∷ 0x00 ∷ 0x07 ∷ 0x3A ∷ 0x6D ∷ 0x65 ∷ 0x74 ∷ 0x68 ∷ 0x6F ∷ 0x64 ∷ 0x03 ∷ 0x47 ∷ 0x45 ∷ 0x54 ∷ []) ∷
    -- 6. "Before 4 the same block gives 1 with index 62."
    check 6 (tells m [] (block (0xBE ∷ 0x82 ∷ []) 18)) (1 ∷ 62 ∷ 0 ∷ []) ∷
    -- 7. "After 4, 7E 01 37 gives 01 01 68 01 37."
    check 7 (tells m after4 (block (0x7E ∷ 0x01 ∷ 0x37 ∷ []) 5)) (0 ∷ 5 ∷ 0 ∷ 0x01 ∷ 0x01 ∷ 0x68 ∷ 0x01 ∷ 0x37 ∷ []) ∷
    -- 8. "List 03 02 01 03 names 0, 1, 2, 4 and 7, not 3." All the streams that it names, from the bytes of a delete with this list; and what the hold
    -- enquiry tells of it: five parts hold the entry, with streams 0 to 2 past two from 4 on, with 3 and 4 past too one, 7
    check 8
    (named_from (nontrailer_read delete_list) 0 streams ++ tells m (named8 0) (hold 62) ++ tells m (named8 3) (hold 62) ++ tells m (named8 5) (hold 62))
    (0 ∷ 1 ∷ 2 ∷ 4 ∷ 7 ∷ 0 ∷ 5 ∷ 0 ∷ 0 ∷ 2 ∷ 4 ∷ 0 ∷ 1 ∷ 7 ∷ []) ∷
    -- 9. "Limit 68 takes two entries like 4, a third gives 7; limit 67 refuses the second." The first number of each is the start's.
    check 9 (numbers_since m 68 (read h9 ∷ read h9_63 ∷ read h9_64 ∷ []) ++ numbers_since m 67 (read h9 ∷ read h9_63 ∷ []))
    (0 ∷ 0 ∷ 0 ∷ 7 ∷ 0 ∷ 0 ∷ 7 ∷ []) ∷
    -- 10. "After 4, with streams 0 to 4 past their non-trailer part, the entry is ready as soon as 3E 05 00 00 00 is read." The hold enquiry says
    -- before it that the entry is not under deletion, and after it that no named part is unfinished.
    check 10 (tells m past4 (hold 62) ++ tells m past4 (read delete62) ++ tells m (past4 ++ (read delete62 ∷ [])) (hold 62))
    (10 ∷ 0 ∷ 0 ∷ 0 ∷ 5 ∷ 0 ∷ 0 ∷ 0 ∷ 4096 ∷ []) ∷
    []

abbrev pub Agree : List Check → Type 0
Agree [] = Unit {0}
Agree (c ∷ cs) = (c.computed ≡ c.paper) × Agree cs

-- "These ten are established together, as one statement over one list, from the definitions." In any memory of bytes in which a start with limit
-- 4,096 is answered "done".
abbrev pub ChecksClaim : Type 0
ChecksClaim = (m : List ℕ) → Small m → (decoder.start_call m 4096).answer.number ≡ 0 → Agree (checks m)
