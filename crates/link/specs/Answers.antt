-- Demand 1: "Any bytes, stream numbers and calls in any order get an answer from the numbered table. Every answer but "done" changes nothing, in
-- the state or in a lent buffer."
use Rattle.std.specs.Prelude.{◌≡◌, ◌↔◌, ℕ, ◌≤◌, ◌<◌, true, false, List, [], ◌∷◌, length, drop}
use Rattle.memory.specs.Bytes.{Small}
use Rattle.integers.specs.Answers.{among}
use Rattle.state.specs.Layout.{decoder_length, encoder_length}
use Rattle.state.specs.Forms.{forms_decoder, forms_encoder}
use Rattle.reply.specs.Reply.{Separable}
use Rattle.link.specs.Calls.{DecoderCall, EncoderCall, Call, decoder_start, at_decoder, encoder_start, at_encoder, result_of, lent, CallBytes, forms_at, length_at}
use Rattle.link.specs.Calls as calls

-- ---- the numbers that a call may answer, in the order in which they are judged: the "Answers" lines of include/kolowrotan.h
abbrev pub decoder_answers : DecoderCall → List ℕ
decoder_answers (calls.DecoderCall.read s) = 17 ∷ 2 ∷ 3 ∷ 19 ∷ 5 ∷ 13 ∷ 14 ∷ 18 ∷ 8 ∷ 6 ∷ 7 ∷ 9 ∷ 0 ∷ []
decoder_answers (calls.DecoderCall.block stream part s out) = 17 ∷ 11 ∷ 13 ∷ 2 ∷ 3 ∷ 19 ∷ 5 ∷ 18 ∷ 1 ∷ 12 ∷ 0 ∷ []
decoder_answers (calls.DecoderCall.close k stream) = 17 ∷ 11 ∷ 0 ∷ []
decoder_answers (calls.DecoderCall.collect out) = 17 ∷ 12 ∷ 0 ∷ []
decoder_answers (calls.DecoderCall.hold index) = 17 ∷ 5 ∷ 8 ∷ 10 ∷ 0 ∷ []

abbrev pub encoder_answers : EncoderCall → List ℕ
encoder_answers (calls.EncoderCall.insert name value out) = 17 ∷ 13 ∷ 7 ∷ 12 ∷ 0 ∷ []
encoder_answers (calls.EncoderCall.delete index out) = 17 ∷ 5 ∷ 8 ∷ 9 ∷ 12 ∷ 0 ∷ []
encoder_answers (calls.EncoderCall.block stream part s out) = 17 ∷ 11 ∷ 16 ∷ 13 ∷ 12 ∷ 0 ∷ []
encoder_answers (calls.EncoderCall.acknowledge s) = 17 ∷ 2 ∷ 3 ∷ 19 ∷ 5 ∷ 10 ∷ 0 ∷ []

abbrev pub answers_of : Call → List ℕ
answers_of (decoder_start limit) = 7 ∷ 12 ∷ 0 ∷ []
answers_of (at_decoder c) = decoder_answers c
answers_of (encoder_start limit) = 7 ∷ 12 ∷ 0 ∷ []
answers_of (at_encoder c) = encoder_answers c

-- ---- the answers with which a first number is told: bytes taken or written, the index that a block waits for, or how many named parts are unfinished
abbrev pub decoder_first : DecoderCall → List ℕ
decoder_first (calls.DecoderCall.read s) = 0 ∷ []
decoder_first (calls.DecoderCall.block stream part s out) = 0 ∷ 1 ∷ []
decoder_first (calls.DecoderCall.close k stream) = []
decoder_first (calls.DecoderCall.collect out) = 0 ∷ []
decoder_first (calls.DecoderCall.hold index) = 0 ∷ []

abbrev pub first_told : Call → List ℕ
first_told (decoder_start limit) = []
first_told (at_decoder c) = decoder_first c
first_told (encoder_start limit) = []
first_told (at_encoder c) = 0 ∷ []

-- and a second: the lowest stream having an unfinished part, and the new index
abbrev pub decoder_second : DecoderCall → List ℕ
decoder_second (calls.DecoderCall.read s) = []
decoder_second (calls.DecoderCall.block stream part s out) = []
decoder_second (calls.DecoderCall.close k stream) = []
decoder_second (calls.DecoderCall.collect out) = []
decoder_second (calls.DecoderCall.hold index) = 0 ∷ []

abbrev pub encoder_second : EncoderCall → List ℕ
encoder_second (calls.EncoderCall.insert name value out) = 0 ∷ []
encoder_second (calls.EncoderCall.delete index out) = []
encoder_second (calls.EncoderCall.block stream part s out) = []
encoder_second (calls.EncoderCall.acknowledge s) = []

abbrev pub second_told : Call → List ℕ
second_told (decoder_start limit) = []
second_told (at_decoder c) = decoder_second c
second_told (encoder_start limit) = []
second_told (at_encoder c) = encoder_second c

-- ---- bytes told as taken are at most those given, bytes told as written at most those lent
abbrev pub DecoderCounts : DecoderCall → ℕ → Type 0
DecoderCounts (calls.DecoderCall.read s) n = n ≤ length s
DecoderCounts (calls.DecoderCall.block stream part s out) n = n ≤ length out
DecoderCounts (calls.DecoderCall.close k stream) n = Unit {0}
DecoderCounts (calls.DecoderCall.collect out) n = n ≤ length out
DecoderCounts (calls.DecoderCall.hold index) n = Unit {0}

abbrev pub EncoderCounts : EncoderCall → ℕ → Type 0
EncoderCounts (calls.EncoderCall.insert name value out) n = n ≤ length out
EncoderCounts (calls.EncoderCall.delete index out) n = n ≤ length out
EncoderCounts (calls.EncoderCall.block stream part s out) n = n ≤ length out
EncoderCounts (calls.EncoderCall.acknowledge s) n = n ≤ length s

abbrev pub Counts : Call → ℕ → Type 0
Counts (decoder_start limit) n = Unit {0}
Counts (at_decoder c) n = DecoderCounts c n
Counts (encoder_start limit) n = Unit {0}
Counts (at_encoder c) n = EncoderCounts c n

-- ---- "Elsewhere 17 comes first", and a start has "7, then 12"
abbrev pub Starts : ℕ → ℕ → List ℕ → ℕ → Type 0
Starts limit bytes m number =
    ((number ≡ 7) ↔ (4096 < limit)) × ((number ≡ 12) ↔ ((limit ≤ 4096) × (length m < bytes))) × ((number ≡ 0) ↔ ((limit ≤ 4096) × (bytes ≤ length m)))

abbrev pub First : Call → List ℕ → ℕ → Type 0
First (decoder_start limit) m number = Starts limit decoder_length m number
First (at_decoder c) m number = (number ≡ 17) ↔ (forms_decoder m ≡ false)
First (encoder_start limit) m number = Starts limit encoder_length m number
First (at_encoder c) m number = (number ≡ 17) ↔ (forms_encoder m ≡ false)

-- ---- the claim
pub record Answered (m : List ℕ) (c : Call) : Type 0 where
  -- the answer is one of the call's numbers
  pub numbered : among (answers_of c) (result_of m c).answer.number ≡ true
  -- what comes first: whether memory forms a state, or a start's limit and memory
  pub judged_first : First c m (result_of m c).answer.number
  -- "A told number not named here for the answer is 0."
  pub first : among (first_told c) (result_of m c).answer.number ≡ false → (result_of m c).answer.first ≡ 0
  pub second : among (second_told c) (result_of m c).answer.number ≡ false → (result_of m c).answer.second ≡ 0
  pub counted : (result_of m c).answer.number ≡ 0 → Counts c (result_of m c).answer.first
  -- the one number that a C host gets says the answer and both told numbers again
  pub parts_back : Separable (result_of m c).answer
  -- "Every number but 0 leaves state and buffers unchanged."
  pub unchanged : ((result_of m c).answer.number ≡ 0 → ⊥) → ((result_of m c).memory ≡ m) × ((result_of m c).output ≡ lent c)
  -- "On 0 only the told count of output bytes is written."
  pub written : (result_of m c).answer.number ≡ 0 → drop (result_of m c).answer.first (result_of m c).output ≡ drop (result_of m c).answer.first (lent c)
  -- "Whatever a start or a call answered "done" leaves does" form a state
  pub forms : (result_of m c).answer.number ≡ 0 → forms_at c (result_of m c).memory ≡ true
  -- "bytes past it are not touched"; nothing grows or shrinks
  pub beyond : drop (length_at c) (result_of m c).memory ≡ drop (length_at c) m
  pub memory_length : length (result_of m c).memory ≡ length m
  pub output_length : length (result_of m c).output ≡ length (lent c)

abbrev pub AnswersClaim : Type 0
AnswersClaim = (m : List ℕ) → Small m → (c : Call) → CallBytes c → Answered m c
