-- Searches and changes of memory that forms a decoder's state, against the model's state.
use Rattle.std.specs.Prelude.{ℕ, suc, ◌+◌, ◌≤◌, ◌<◌, ◌≡◌, true, List, [], ◌∷◌, ◌++◌, length}
use Rattle.std.proofs.Math.Option.{none, some}
use Rattle.memory.specs.Bytes.{Small}
use Rattle.instructions.specs.Instruction.{FineIndex, FineList}
use Rattle.marks.specs.Marks.{cleared}
use Rattle.model.specs.Table.{look, put}
use Rattle.model.specs.Parts.{Part, nontrailer, mark, mark_both, block_marks, Delete, streams}
use Rattle.model.specs.Decoder.{Held, held_index, Decoder, held_size, delete_of, start_decoder, with_entries, with_deletes, with_finished, without}
use Rattle.state.specs.Layout.{decoder_length, decoder_role, marks_place, limit_of, held_of, count_of, delete_count, delete_index_at, status_at}
use Rattle.state.specs.Rows.{name_at, value_at}
use Rattle.state.specs.DecoderState.{delete_at, decoder_of, overlay_decoder}
use Rattle.state.specs.Forms.{forms_decoder}
use Rattle.table_search.specs.Search.{Ordered, find_from}
use Rattle.parts.specs.Close.{closed_both, closed_by}
use Rattle.holds.specs.Hold.{GoodDelete}
use Rattle.table.specs.Changes.{Opening, NamedHere, inserted, Removing, removed, started}
use Rattle.deletes.specs.Deletes.{appended, Dropping, dropped}
use Rattle.std.specs.Prelude.{Ok, Err}

-- memory that forms a decoder's state, and what it stands for
pub record DecoderStands (m : List ℕ) (D : Decoder) : Type 0 where
  pub small : Small m
  pub forms : forms_decoder m ≡ true
  pub state : decoder_of m ≡ D

abbrev pub found : List ℕ → ℕ → ℕ → Type 0
found m x place = find_from m x (count_of m) 0 ≡ Ok place

abbrev pub missing : List ℕ → ℕ → ℕ → Type 0
missing m x place = find_from m x (count_of m) 0 ≡ Err place

-- the entry that stands in a row
abbrev pub held_at : List ℕ → ℕ → ℕ → Held
held_at m x place = record { index = x; entry = record { name = name_at m place; value = value_at m place } }

pub record DecoderChanges (m : List ℕ) (D : Decoder) : Type 0 where
  -- ---- what searches say
  pub ordered : Ordered m
  pub limit : limit_of m ≡ D.limit
  -- "The held size is the sum over all entries held"
  pub held : held_of m ≡ held_size D.entries
  pub count : count_of m ≡ length D.entries
  pub here : (x place : ℕ) → found m x place → (place < count_of m) × (look held_index x D.entries ≡ some (held_at m x place))
  pub nowhere : (x place : ℕ) → missing m x place → look held_index x D.entries ≡ none
  pub live : (x place : ℕ) → found m x place → status_at m place ≡ 0 → delete_of D x ≡ none
  pub deleted : (x place k : ℕ) → found m x place → status_at m place ≡ suc k → (delete_of D x ≡ some (delete_at m k)) × GoodDelete m k
  -- each delete has its entry, whose row points at it
  pub kept : (k : ℕ) → k < delete_count m → (place : ℕ) × found m (delete_index_at m k) place × (status_at m place ≡ suc k)
  -- ---- an entry put in: "otherwise room is always found"
  pub opening : (x place name value : ℕ) → missing m x place → held_of m + (name + value + 32) ≤ 4096 → count_of m < 128 → name ≤ 255 → Opening m place name value
  pub named : (x place y row : ℕ) → missing m x place → found m y row → NamedHere m place row
  pub insert : (x place : ℕ) (name value : List ℕ) → missing m x place → FineIndex x → held_of m + (length name + length value + 32) ≤ 4096 → count_of m < 128
      → length name ≤ 255
      → inserted m place x name value ≡ overlay_decoder (with_entries D (put held_index (record { index = x; entry = record { name = name; value = value } }) D.entries)) m
  -- ---- a delete kept, and an entry freed with its delete
  pub room : (x place : ℕ) → found m x place → status_at m place ≡ 0 → delete_count m < 128
  pub keep : (d : Delete) (place : ℕ) → found m d.index place → status_at m place ≡ 0 → FineList d.nontrailer → FineList d.trailer
      → appended m place d
      ≡ overlay_decoder (with_deletes D (D.deletes ++ (d ∷ []))) m
  pub removing : (x place : ℕ) → found m x place → Removing m place
  pub dropping : (x place k : ℕ) → found m x place → status_at m place ≡ suc k → Dropping (removed m place) k
  pub free : (x place k : ℕ) → found m x place → status_at m place ≡ suc k → dropped (removed m place) k ≡ overlay_decoder (without D x) m
  -- ---- parts finished: by the host, and by a block that was given
  pub over : (s : ℕ) → s < streams → cleared m (marks_place nontrailer) s ≡ overlay_decoder (with_finished D (mark s nontrailer D.finished)) m
  pub end : (s : ℕ) → s < streams → closed_both m s ≡ overlay_decoder (with_finished D (mark_both s D.finished)) m
  pub finish : (s : ℕ) (p : Part) → s < streams → closed_by p m s ≡ overlay_decoder (with_finished D (block_marks p s D.finished)) m

-- of all memory that forms a decoder's state; and a fresh one
pub record DecoderClaim : Type 0 where
  pub start : (m : List ℕ) (limit : ℕ) → decoder_length ≤ length m → limit ≤ 4096 → started m decoder_role limit ≡ overlay_decoder (start_decoder limit) m
  pub changes : (m : List ℕ) (D : Decoder) → DecoderStands m D → DecoderChanges m D
