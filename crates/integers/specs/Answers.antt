-- The numbered table of document 01. Every reader has one definition, in its file, that gives each case of what it answers as an `Answer`.
use Rattle.std.specs.Prelude.{ℕ, Bool, true, false, List, [], ◌∷◌, eqb, Result, Ok, Err}
use Rattle.memory.specs.Choice.{pick}
use Rattle.integers.specs.declared.answer.Refusal.{Refusal}
use Rattle.integers.specs.declared.answer.Refusal.TheVariants.{Truncated, TooLarge, NotAllowed, Held, OverLimit, Vacant, UnderDeletion, NotUnderDeletion, OutOfTurn, NoRoom, TooLong, BadStreamList, BadFieldList, NoState, BadPacking, Padded}

-- an answer: its number, and the numbers told with it. "A told number not named here for the answer is 0."
pub record Answer : Type 0 where
  pub number : ℕ
  pub first : ℕ
  pub second : ℕ

abbrev pub done : ℕ → ℕ → Answer
done first second = record { number = 0; first = first; second = second }

abbrev pub refusal : ℕ → Answer
refusal number = record { number = number; first = 0; second = 0 }

-- a block names a vacant dynamic index; the first in byte order is told
abbrev pub waits : ℕ
waits = 1

-- bytes end inside an instruction or representation; empty management input
abbrev pub truncated : ℕ
truncated = 2

-- integer too large or too long
abbrev pub too_large : ℕ
too_large = 3

-- H set
abbrev pub packed : ℕ
packed = 4

-- index or instruction not allowed here; an index given by the caller outside 62 to 2^27 − 1
abbrev pub not_allowed : ℕ
not_allowed = 5

-- insert at a held index
abbrev pub held : ℕ
held = 6

-- limit passed, or start limit above 4,096
abbrev pub over_limit : ℕ
over_limit = 7

-- vacant index: insert's name, delete, enquiry
abbrev pub vacant : ℕ
vacant = 8

-- delete of an entry under deletion
abbrev pub under_deletion : ℕ
under_deletion = 9

-- acknowledgement of an index not under deletion, vacant or not; enquiry, entry not under deletion
abbrev pub not_under_deletion : ℕ
not_under_deletion = 10

-- stream above 4,095, part number not 0 (non-trailer) or 1 (trailer), or part out of turn
abbrev pub out_of_turn : ℕ
out_of_turn = 11

-- lent output or memory too small
abbrev pub no_room : ℕ
no_room = 12

-- string or block too long
abbrev pub too_long : ℕ
too_long = 13

-- bad stream list
abbrev pub bad_stream_list : ℕ
bad_stream_list = 14

-- 15 is not given: an insert that finds all 128 places held is 7

-- field list not in our form
abbrev pub bad_field_list : ℕ
bad_field_list = 16

-- memory forms no state
abbrev pub no_state : ℕ
no_state = 17

-- a packed string holds the end mark, or other padding than at most seven ones
abbrev pub bad_packing : ℕ
bad_packing = 18

-- a wire integer whose last group is zero, and is not its only group
abbrev pub padded : ℕ
padded = 19

-- the number of a refusal
abbrev pub number_of : Refusal → ℕ
number_of Truncated = truncated
number_of TooLarge = too_large
number_of NotAllowed = not_allowed
number_of Held = held
number_of OverLimit = over_limit
number_of Vacant = vacant
number_of UnderDeletion = under_deletion
number_of NotUnderDeletion = not_under_deletion
number_of OutOfTurn = out_of_turn
number_of NoRoom = no_room
number_of TooLong = too_long
number_of BadStreamList = bad_stream_list
number_of BadFieldList = bad_field_list
number_of NoState = no_state
number_of BadPacking = bad_packing
number_of Padded = padded

-- the number of a check: 0 where nothing is refused
abbrev pub checked_number : Result (Unit {0}) Refusal → ℕ
checked_number (Ok x) = 0
checked_number (Err why) = number_of why

-- what a reader answers: what it found and the place after it, or why it refuses
abbrev pub Read : Type 0 → Type 0
Read X = Result (X × ℕ) Refusal

-- its number: 0 where something was found, or the refusal's
abbrev pub answer_number : {Y : Type 0} → Result Y Refusal → ℕ
answer_number (Ok y) = 0
answer_number (Err why) = number_of why

-- what is told of it: two numbers, or the refusal's number alone
abbrev pub read_answer : {X : Type 0} → (X → ℕ → Answer) → Read X → Answer
read_answer told (Ok found) = told found.0 found.1
read_answer told (Err why) = refusal (number_of why)

-- what follows what was found and the place after it, or the refusal passed on at once
abbrev pub on_read {ℓ} : {X : Type 0} {Y : Type ℓ} → (Refusal → Y) → Read X → (X → ℕ → Y) → Y
on_read refused (Ok found) f = f found.0 found.1
on_read refused (Err why) f = refused why

-- is n among these numbers?
abbrev pub among : List ℕ → ℕ → Bool
among [] n = false
among (m ∷ ms) n = pick (eqb n m) true (among ms n)
