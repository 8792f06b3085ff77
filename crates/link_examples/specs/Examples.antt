-- Three closed examples on memory and bytes: the life of an index that is used twice, the schedule of the accident, and interim answers.
-- Each is one table, a call on a line with what it answers and writes. The claim: the calls do just this, whatever memory both ends are started
-- in; they keep the rules for the link; and so what demand 3 says holds of them.
use Rattle.std.specs.Prelude.{◌≡◌, ℕ, List, [], ◌∷◌, ◌++◌, map, length, take, replicate}
use Rattle.integers.specs.Answers.{Answer, done, refusal, waits, truncated}
use Rattle.statics.specs.Ascii.{bytes}
use Rattle.model.specs.Parts.{Closing}
use Rattle.link.specs.Calls.{DecoderCall, close, EncoderCall, insert, delete, acknowledge, done_bytes}
use Rattle.link.specs.Claims.{LinkCall, at_encoder, at_decoder, Ends, Event, by_encoder, by_decoder, events, Rules, Served, Opening, Started}

-- ---- what a host sees of a call: the call, the answer with its told numbers, and the bytes written. A reset calls neither end.
-- The first number told is how many bytes were read or written; an insert also tells its index. An enquiry tells how many parts hold the entry,
-- and the lowest stream having one.
pub data Shown : Type 0 where
  call : LinkCall → Answer → List ℕ → Shown
  reset : ℕ → Shown

abbrev pub shown : Event → Shown
shown (by_encoder c r) = call (at_encoder c) r.answer (done_bytes r)
shown (by_decoder n c r) = call (at_decoder n c) r.answer (done_bytes r)
shown (Event.reset stream) = reset stream

-- the decoder's calls, as the tables write them: only an offered block says which it is of those written
abbrev pub read : List ℕ → LinkCall
read s = at_decoder 0 (DecoderCall.read s)

abbrev pub offer : ℕ → ℕ → ℕ → List ℕ → List ℕ → LinkCall
offer n stream part s out = at_decoder n (DecoderCall.block stream part s out)

abbrev pub over : ℕ → LinkCall
over stream = at_decoder 0 (close Closing.over stream)

abbrev pub ended : ℕ → LinkCall
ended stream = at_decoder 0 (close Closing.ended stream)

abbrev pub collect : List ℕ → LinkCall
collect out = at_decoder 0 (DecoderCall.collect out)

abbrev pub hold : ℕ → LinkCall
hold index = at_decoder 0 (DecoderCall.hold index)

-- the calls of a table
abbrev pub call_of : Shown → LinkCall
call_of (call c answer written) = c
call_of (reset stream) = LinkCall.reset stream

abbrev pub calls_of : List Shown → List LinkCall
calls_of table = map call_of table

-- ---- what is claimed of a table
pub record Example (table : List Shown) (S : Ends) : Type 0 where
  -- every call answers, tells and writes what the table says
  pub happens : map shown (events S (calls_of table)) ≡ table
  -- the list keeps document 01's rules for the link
  pub rules : Rules (events S (calls_of table))
  -- what demand 3 says after "Hence" holds of it
  pub served : Served (events S (calls_of table))

-- ==== the life of index 62

-- the output lent
abbrev pub room : List ℕ
room = replicate 64 0

-- the lists put in, in the host's form: h = 9, and later h = 8
abbrev pub h_is_9 : List ℕ
h_is_9 = 0x00 ∷ 0x01 ∷ 0x68 ∷ 0x01 ∷ 0x39 ∷ []

abbrev pub h_is_8 : List ℕ
h_is_8 = 0x00 ∷ 0x01 ∷ 0x68 ∷ 0x01 ∷ 0x38 ∷ []

-- what is written for them
abbrev pub insert_9 : List ℕ
insert_9 = 0xBE ∷ 0x00 ∷ 0x01 ∷ 0x68 ∷ 0x01 ∷ 0x39 ∷ []

abbrev pub insert_8 : List ℕ
insert_8 = 0xBE ∷ 0x00 ∷ 0x01 ∷ 0x68 ∷ 0x01 ∷ 0x38 ∷ []

abbrev pub by_62 : List ℕ
by_62 = 0xBE ∷ []

-- the only block that refers to h = 9 is the non-trailer block of stream 0, so the horizons are 1 and 0
abbrev pub delete_9 : List ℕ
delete_9 = 0x3E ∷ 0x01 ∷ 0x00 ∷ 0x00 ∷ 0x00 ∷ []

abbrev pub acknowledge_62 : List ℕ
acknowledge_62 = 0x7E ∷ []

-- "a block names a vacant dynamic index", and this one is told
abbrev pub waits_for : ℕ → Answer
waits_for index = record { number = waits; first = index; second = 0 }

unfoldable pub life : List Shown
life =
    call (at_encoder (insert (bytes "h") (bytes "9") room)) (done 6 62) insert_9 ∷
    call (at_encoder (EncoderCall.block 0 0 h_is_9 room)) (done 1 0) by_62 ∷
    -- the block comes before the insert, and the insert comes cut before it comes whole
    call (offer 0 0 0 by_62 room) (waits_for 62) [] ∷
    call (read (take 3 insert_9)) (refusal truncated) [] ∷
    call (read insert_9) (done 6 0) [] ∷
    -- nothing is freed: the block is still out
    call (at_encoder (delete 62 room)) (done 5 0) delete_9 ∷
    call (read delete_9) (done 5 0) [] ∷
    call (collect room) (done 0 0) [] ∷
    -- it comes again, and no further one follows: then the entry can go
    call (offer 0 0 0 by_62 room) (done 5 0) h_is_9 ∷
    call (over 0) (done 0 0) [] ∷
    call (collect room) (done 1 0) acknowledge_62 ∷
    call (at_encoder (acknowledge acknowledge_62)) (done 1 0) [] ∷
    -- the index is used again, for a trailer
    call (at_encoder (insert (bytes "h") (bytes "8") room)) (done 6 62) insert_8 ∷
    call (read insert_8) (done 6 0) [] ∷
    call (at_encoder (EncoderCall.block 0 1 h_is_8 room)) (done 1 0) by_62 ∷
    call (offer 1 0 1 by_62 room) (done 5 0) h_is_8 ∷
    call (ended 0) (done 0 0) [] ∷
    -- a stream whose block is lost
    call (at_encoder (EncoderCall.block 1 0 h_is_8 room)) (done 1 0) by_62 ∷
    reset 1 ∷
    call (ended 1) (done 0 0) [] ∷
    []

-- ==== the accident: a late report names an entry that is deleted before it arrives, while another loader's "turns 0" is inserted

-- a report in the host's form: flag, name and value of each field, both with their lengths
abbrev pub report : List ℕ → List ℕ → List ℕ
report hours turns =
    (0x00 ∷ 0x05 ∷ bytes "hours") ++ (length hours ∷ hours) ++ (0x00 ∷ 0x05 ∷ bytes "turns") ++ (length turns ∷ turns)

-- loader A's, and loader B's
abbrev pub report_A : List ℕ
report_A = report (bytes "4100") (bytes "2")

abbrev pub report_B : List ℕ
report_B = report (bytes "310") (bytes "0")

-- what is written for them: the hours as a literal, the turns by index. "hours", "turns" and the counters are packed, since that is shorter.
abbrev pub insert_A : List ℕ
insert_A = 0xBE ∷ 0x00 ∷ 0x84 ∷ 0x4D ∷ 0xB6 ∷ 0x54 ∷ 0x8F ∷ 0x01 ∷ 0x32 ∷ []

abbrev pub block_A : List ℕ
block_A = 0x00 ∷ 0x84 ∷ 0x9C ∷ 0xF6 ∷ 0xD8 ∷ 0x8F ∷ 0x83 ∷ 0x68 ∷ 0x20 ∷ 0x07 ∷ 0xBE ∷ []

-- the late report's stream is 5, so the horizon is 6
abbrev pub delete_A : List ℕ
delete_A = 0x3E ∷ 0x06 ∷ 0x00 ∷ 0x00 ∷ 0x00 ∷ []

-- another index: 62 is still held
abbrev pub insert_B : List ℕ
insert_B = 0xBF ∷ 0x00 ∷ 0x84 ∷ 0x4D ∷ 0xB6 ∷ 0x54 ∷ 0x8F ∷ 0x01 ∷ 0x30 ∷ []

abbrev pub block_B : List ℕ
block_B = 0x00 ∷ 0x84 ∷ 0x9C ∷ 0xF6 ∷ 0xD8 ∷ 0x8F ∷ 0x82 ∷ 0x64 ∷ 0x20 ∷ 0xBF ∷ []

unfoldable pub accident : List Shown
accident =
    -- the streams before the late report's have ended
    call (ended 0) (done 0 0) [] ∷
    call (ended 1) (done 0 0) [] ∷
    call (ended 2) (done 0 0) [] ∷
    call (ended 3) (done 0 0) [] ∷
    call (ended 4) (done 0 0) [] ∷
    call (at_encoder (insert (bytes "turns") (bytes "2") room)) (done 9 62) insert_A ∷
    call (read insert_A) (done 9 0) [] ∷
    -- loader A's report is written, and is late; its entry is deleted
    call (at_encoder (EncoderCall.block 5 0 report_A room)) (done 11 0) block_A ∷
    call (at_encoder (delete 62 room)) (done 5 0) delete_A ∷
    call (read delete_A) (done 5 0) [] ∷
    -- the entry is not freed, though its acknowledgement has room: one part holds it, on stream 5
    call (collect (replicate 1 0)) (done 0 0) [] ∷
    call (hold 62) (done 1 5) [] ∷
    -- loader B's "turns 0"
    call (at_encoder (insert (bytes "turns") (bytes "0") room)) (done 9 63) insert_B ∷
    call (read insert_B) (done 9 0) [] ∷
    call (at_encoder (EncoderCall.block 6 0 report_B room)) (done 10 0) block_B ∷
    call (offer 1 6 0 block_B room) (done 20 0) report_B ∷
    -- nor is the entry freed now
    call (collect room) (done 0 0) [] ∷
    -- the late report arrives, and says "turns 2"; with it its stream ends
    call (offer 0 5 0 block_A room) (done 21 0) report_A ∷
    call (ended 5) (done 0 0) [] ∷
    call (collect room) (done 1 0) acknowledge_62 ∷
    call (at_encoder (acknowledge acknowledge_62)) (done 1 0) [] ∷
    []

-- ==== interim answers: two informational header blocks before the final one, all of one part. The entry that both refer to is deleted after the first.

-- the lists put in: a field ":status" with this value
abbrev pub status : List ℕ → List ℕ
status value = (0x00 ∷ 0x07 ∷ bytes ":status") ++ (length value ∷ value)

abbrev pub early_hints : List ℕ
early_hints = status (bytes "103")

abbrev pub final : List ℕ
final = status (bytes "200")

-- what is written for them: the insert names by static index 8, "103" is packed; ":status 200" is the static entry 8. The two interim blocks are equal in
-- bytes, and are two by their numbers.
abbrev pub insert_103 : List ℕ
insert_103 = 0xBE ∷ 0x08 ∷ 0x82 ∷ 0x08 ∷ 0x19 ∷ []

abbrev pub static_8 : List ℕ
static_8 = 0x88 ∷ []

-- both blocks that refer to the entry are non-trailer blocks of stream 0: the horizons are 1 and 0
abbrev pub delete_103 : List ℕ
delete_103 = 0x3E ∷ 0x01 ∷ 0x00 ∷ 0x00 ∷ 0x00 ∷ []

unfoldable pub interim : List Shown
interim =
    call (at_encoder (insert (bytes ":status") (bytes "103") room)) (done 5 62) insert_103 ∷
    call (read insert_103) (done 5 0) [] ∷
    call (at_encoder (EncoderCall.block 0 0 early_hints room)) (done 1 0) by_62 ∷
    call (at_encoder (EncoderCall.block 0 0 early_hints room)) (done 1 0) by_62 ∷
    call (at_encoder (EncoderCall.block 0 0 final room)) (done 1 0) static_8 ∷
    -- the first comes, then the delete, whose list names the part. The first has not finished it: the entry is not freed
    call (offer 0 0 0 by_62 room) (done 13 0) early_hints ∷
    call (at_encoder (delete 62 room)) (done 5 0) delete_103 ∷
    call (read delete_103) (done 5 0) [] ∷
    call (collect room) (done 0 0) [] ∷
    call (hold 62) (done 1 0) [] ∷
    -- so the second still finds it, and the final one comes
    call (offer 1 0 0 by_62 room) (done 13 0) early_hints ∷
    call (offer 2 0 0 static_8 room) (done 13 0) final ∷
    -- nor is it freed now: no answer to a block says that it was the last
    call (collect room) (done 0 0) [] ∷
    -- the host says so, and the entry can go
    call (over 0) (done 0 0) [] ∷
    call (hold 62) (done 0 4096) [] ∷
    call (collect room) (done 1 0) acknowledge_62 ∷
    call (at_encoder (acknowledge acknowledge_62)) (done 1 0) [] ∷
    []

-- ==== the claim, for tables of the largest limit
abbrev pub largest : Opening
largest = record { encoder_limit = 4096; decoder_limit = 4096 }

pub record ExamplesClaim : Type 0 where
  pub life_of_62 : (S : Ends) → Started largest S → Example life S
  pub late_report : (S : Ends) → Started largest S → Example accident S
  pub interim_answers : (S : Ends) → Started largest S → Example interim S
  -- there is such memory
  pub some_start : (S : Ends) × Started largest S
