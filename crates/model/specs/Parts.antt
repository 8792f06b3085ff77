-- Parts of streams: which are finished, which are in turn, and which a delete names.
use Rattle.std.specs.Prelude.{ℕ, zero, suc, ◌+◌, Bool, true, false, not, ◌&&◌, ◌||◌, eqb}
use Rattle.std.proofs.Math.Option.{Option, none, some}
use Rattle.memory.specs.Choice.{pick}
use Rattle.stream_lists.specs.StreamList.{StreamList, names}

-- "Each stream has a non-trailer part and a trailer part"
pub data Part : Type 0 where
  nontrailer trailer : Part

-- "part number not 0 (non-trailer) or 1 (trailer)"
unfoldable pub part_of : ℕ → Option Part
part_of n = pick (eqb n 0) (some nontrailer) (pick (eqb n 1) (some trailer) none)

abbrev pub part_number : Part → ℕ
part_number nontrailer = 0
part_number trailer = 1

abbrev pub same_part : Part → Part → Bool
same_part nontrailer nontrailer = true
same_part nontrailer trailer = false
same_part trailer nontrailer = false
same_part trailer trailer = true

-- a mark for each part of each stream: at the decoder that it is finished, at the encoder that it is closed, so that no block of it is written any more
abbrev pub Marks : Type 0
Marks = ℕ → Part → Bool

-- "unfinished at first"
abbrev pub no_marks : Marks
no_marks stream part = false

unfoldable pub mark : ℕ → Part → Marks → Marks
mark s p marks t q = pick (eqb s t) (same_part p q || marks t q) (marks t q)

-- "a stream has ended or was reset: both parts are finished"
unfoldable pub mark_both : ℕ → Marks → Marks
mark_both s marks t q = pick (eqb s t) true (marks t q)

-- how the host closes parts of a stream without a block: it says "non-trailer part over", or the stream ends
pub data Closing : Type 0 where
  over ended : Closing

abbrev pub closed : Closing → ℕ → Marks → Marks
closed over s marks = mark s nontrailer marks
closed ended s marks = mark_both s marks

-- what a block answered "done" marks: "a non-trailer block does not finish its part"; "a trailer block is answered "done", which finishes both", and at the
-- encoder it closes both
unfoldable pub block_marks : Part → ℕ → Marks → Marks
block_marks nontrailer s marks = marks
block_marks trailer s marks = mark_both s marks

-- out of turn is a part that is finished, or closed: "A further non-trailer block on an unfinished part is in turn, at both ends; a trailer may come while
-- the non-trailer part is open, even with no block before it"
unfoldable pub in_turn : Marks → ℕ → Part → Bool
in_turn marks s p = not (marks s p)

-- a delete that was read, with its two lists
pub record Delete : Type 0 where
  pub index : ℕ
  pub nontrailer : StreamList
  pub trailer : StreamList

-- "a stream list for non-trailer blocks and one for trailer blocks": the list names its own kind of part
unfoldable pub names_part : Delete → ℕ → Part → Bool
names_part d s nontrailer = names d.nontrailer s
names_part d s trailer = names d.trailer s

-- a named part that is unfinished
unfoldable pub is_open : Marks → Delete → ℕ → Part → Bool
is_open marks d s p = names_part d s p && not (marks s p)

-- "how many named parts are unfinished", of the n lowest streams
unfoldable pub open_below : Marks → Delete → ℕ → ℕ
open_below marks d zero = 0
open_below marks d (suc n) = open_below marks d n + (pick (is_open marks d n nontrailer) 1 0 + pick (is_open marks d n trailer) 1 0)

-- "and the lowest stream having one", of those from s on below s + n; s + n if none
unfoldable pub lowest_open : Marks → Delete → ℕ → ℕ → ℕ
lowest_open marks d s zero = s
lowest_open marks d s (suc n) = pick (is_open marks d s nontrailer || is_open marks d s trailer) s (lowest_open marks d (s + 1) n)

-- "Message streams are numbered 0 to 4,095"
abbrev pub streams : ℕ
streams = 4096

-- "It is ready when every part its two lists name is finished."
unfoldable pub is_ready : Marks → Delete → Bool
is_ready marks d = eqb (open_below marks d streams) 0
