-- Where entries stand in the table: by index, and the lowest vacant index.
use Rattle.std.specs.Prelude.{ℕ, zero, suc, ◌+◌, ◌≤◌, ◌<◌, List, length, eqb, ltb}
use Rattle.memory.specs.Choice.{pick}
use Rattle.state.specs.Layout.{front_length, count_of, index_at, offset_at, name_length_at}
use Rattle.std.specs.Prelude.{Result, Ok, Err}

-- what searches rely on; memory that forms a state of either end has it. It is a clause of each function of table_search, entry_places and name_search, and no
-- ghost field: tried in name_search as a struct of the rows, whose every clause then says `self.entry.m.now` for `m.now`; callers would make it for each call
pub record Ordered (m : List ℕ) : Type 0 where
  pub long : front_length ≤ length m
  pub few : count_of m ≤ 128
  -- rows ascend from 62, so row i has at least index 62 + i
  pub low : (i : ℕ) → i < count_of m → 62 + i ≤ index_at m i
  pub rising : (i j : ℕ) → i < j → j < count_of m → index_at m i < index_at m j
  -- the text of each row holds its name, and ends within the table's
  pub name : (i : ℕ) → i < count_of m → offset_at m i + name_length_at m i ≤ offset_at m (i + 1)
  pub text : (i : ℕ) → i < count_of m → offset_at m (i + 1) ≤ 4096

-- the row with index x, of the k rows from row i on, the last; or the place at which it would stand
unfoldable pub find_from : List ℕ → ℕ → ℕ → ℕ → Result ℕ ℕ
find_from m x zero i = Err i
find_from m x (suc k) i = pick (ltb (index_at m i) x) (find_from m x k (i + 1)) (pick (eqb (index_at m i) x) (Ok i) (Err i))

-- "the lowest from 62 that is not held" is 62 and the place of the first row that stands above its own
unfoldable pub vacant_row : List ℕ → ℕ → ℕ → ℕ
vacant_row m zero i = i
vacant_row m (suc k) i = pick (eqb (index_at m i) (62 + i)) (vacant_row m k (i + 1)) i
