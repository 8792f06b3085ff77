-- How many of each kind there were.
use Rattle.std.specs.Prelude.{ℕ, ◌+◌, ◌-◌, ◌^◌, List, min, set, get_or}
use Rattle.transcript_log.specs.declared.tally.Count.{Count}
use Rattle.transcript_log.specs.declared.tally.Count.TheVariants.{Calls, BadLines, BlocksDone, BlocksRefused, ToldToWait, StillWaiting, CallsRefused, CutShort, LeftOver, Unclear, Falls, NotKept}

-- the place of a count in the last line
abbrev pub place_of : Count → ℕ
place_of Calls = 0
place_of BadLines = 1
place_of BlocksDone = 2
place_of BlocksRefused = 3
place_of ToldToWait = 4
place_of StillWaiting = 5
place_of CallsRefused = 6
place_of CutShort = 7
place_of LeftOver = 8
place_of Unclear = 9
place_of Falls = 10
place_of NotKept = 11

-- so many more at one place, up to the largest number of 64 bits
abbrev pub more : List ℕ → ℕ → ℕ → List ℕ
more counts k n = set counts k (min (get_or counts k 0 + n) (2 ^ 64 - 1))
