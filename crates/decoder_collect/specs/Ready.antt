-- "It is ready when every part its two lists name is finished"; "Collect shall now free the ready entry whose delete arrived first."
use Rattle.std.specs.Prelude.{ℕ, zero, suc, ◌+◌, Bool, List, Option, Some, None}
use Rattle.memory.specs.Choice.{pick}
use Rattle.model.specs.Parts.{is_ready}
use Rattle.state.specs.Front.{marks_of}
use Rattle.state.specs.DecoderState.{delete_at}

-- delete k is ready
unfoldable pub ready_at : List ℕ → ℕ → Bool
ready_at m k = is_ready (marks_of m) (delete_at m k)

-- the first that is ready of the n deletes from delete k on; deletes stand in order of arrival
unfoldable pub next_from : List ℕ → ℕ → ℕ → Option ℕ
next_from m zero k = None
next_from m (suc n) k = pick (ready_at m k) (Some k) (next_from m n (k + 1))
