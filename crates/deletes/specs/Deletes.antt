-- What keeping and dropping a delete leave in memory.
use Rattle.std.specs.Prelude.{ℕ, ◌+◌, ◌*◌, ◌-◌, ◌≤◌, ◌<◌, List, length, ltb}
use Rattle.memory.specs.Choice.{pick}
use Rattle.memory.specs.Bytes.{overlay, moved}
use Rattle.memory.specs.Numbers.{number_bytes}
use Rattle.columns.specs.Columns.{changed}
use Rattle.model.specs.Parts.{Delete}
use Rattle.state.specs.Layout.{decoder_length, statuses_place, delete_place, delete_count_place, count_of, delete_count}
use Rattle.state.specs.DecoderState.{delete_bytes}
use Rattle.table_rows.specs.Rows.{status_set}

-- "A delete is kept with its lists", after the others; its row points at it
unfoldable pub appended : List ℕ → ℕ → Delete → List ℕ
appended m place d =
    overlay (status_set (overlay m (delete_place (delete_count m)) (delete_bytes d)) place (delete_count m + 1)) delete_count_place (number_bytes 2 (delete_count m + 1))

-- a status above that of a delete that goes comes down by one
abbrev pub lowered : ℕ → ℕ → ℕ
lowered status x = pick (ltb status x) (x - 1) x

unfoldable pub renumbered : ℕ → ℕ → List ℕ → List ℕ
renumbered status count m = changed (lowered status) 2 count m statuses_place

-- delete k closed up
unfoldable pub dropped : List ℕ → ℕ → List ℕ
dropped m k =
    renumbered (k + 1) (count_of m)
    (overlay (moved m (delete_place k) (delete_place (k + 1)) (76 * (delete_count m - (k + 1)))) delete_count_place (number_bytes 2 (delete_count m - 1)))

pub record Dropping (m : List ℕ) (k : ℕ) : Type 0 where
  pub long : decoder_length ≤ length m
  pub rows : count_of m ≤ 128
  pub few : delete_count m ≤ 256
  pub below : k < delete_count m
