-- "A hold enquiry about an entry under deletion tells how many named parts are unfinished and the lowest stream having one (4,096 if none)."
-- The model counts named parts one by one; the code goes by words below the horizon, then over the listed streams.
use Rattle.std.specs.Prelude.{ℕ, ◌+◌, ◌*◌, ◌≤◌, ◌<◌, Bool, ◌&&◌, List, [], ◌∷◌, length, ltb, Option, Some, None}
use Rattle.memory.specs.Choice.{pick}
use Rattle.memory.specs.Numbers.{number}
use Rattle.integers.specs.declared.number.StreamNumber.{StreamNumber}
use Rattle.stream_lists.specs.StreamList.{StreamList, names}
use Rattle.instructions.specs.Instruction.{FineList}
use Rattle.model.specs.Parts.{streams}
use Rattle.state.specs.Layout.{decoder_length}
use Rattle.state.specs.DecoderState.{list_at, delete_at}

-- delete k lies in memory, and its lists are such as a delete has; memory that forms a decoder's state has it of every delete
pub record GoodDelete (m : List ℕ) (k : ℕ) : Type 0 where
  pub long : decoder_length ≤ length m
  pub few : k < 256
  pub nontrailer : FineList (delete_at m k).nontrailer
  pub trailer : FineList (delete_at m k).trailer

-- k streams of two bytes from the place at on, and marks from the place `marks` on
pub record Listed (m : List ℕ) (marks k at : ℕ) : Type 0 where
  pub few : k ≤ 16
  pub within : at + 2 * k ≤ length m
  pub marked : marks + 512 ≤ length m
  pub streams : (j : ℕ) → j < k → number 2 m (at + 2 * j) < 4096

-- a list with places for 16 streams, and marks
pub record Named (m : List ℕ) (marks at : ℕ) : Type 0 where
  pub low : at ≤ decoder_length
  pub within : at + 36 ≤ length m
  pub marked : marks + 512 ≤ length m
  pub fine : FineList (list_at m at)

-- "the lowest stream having one (4,096 if none)": the stream as a type, and what is told of it
unfoldable pub lowest_case : ℕ → Option StreamNumber
lowest_case n = pick (ltb n streams) (Some (record { value = n })) None

abbrev pub lowest_told : Option StreamNumber → ℕ
lowest_told (Some s) = s.value
lowest_told None = 4096

-- how many of the listed streams are marked, and the first of them that is, 4,096 if none
unfoldable pub listed_count : (ℕ → Bool) → List ℕ → ℕ
listed_count g [] = 0
listed_count g (x ∷ xs) = pick (g x) 1 0 + listed_count g xs

unfoldable pub listed_lowest : (ℕ → Bool) → List ℕ → ℕ
listed_lowest g [] = 4096
listed_lowest g (x ∷ xs) = pick (g x) x (listed_lowest g xs)

-- does the list name the stream, and is it marked?
unfoldable pub named_marked : (ℕ → Bool) → StreamList → ℕ → Bool
named_marked g l s = names l s && g s
