-- Searches and changes of memory that forms an encoder's state, against the model's state.
use Rattle.std.specs.Prelude.{ℕ, ◌+◌, ◌≤◌, ◌<◌, ◌≡◌, true, List, map, length, eqb}
use Rattle.std.proofs.Math.Option.{none, some}
use Rattle.memory.specs.Choice.{pick}
use Rattle.memory.specs.Bytes.{Small}
use Rattle.model.specs.Table.{look, put, cut, first, vacant_from}
use Rattle.model.specs.Parts.{Part, block_marks, streams}
use Rattle.model.specs.Encoder.{Sent, sent_index, Encoder, sent_size, start_encoder, with_sent, with_written, new_sent, serves, serves_both, mark_deleted, referred}
use Rattle.state.specs.Layout.{encoder_length, encoder_role, limit_of, held_of, count_of}
use Rattle.state.specs.EncoderState.{sent_at, encoder_of, overlay_encoder}
use Rattle.state.specs.Forms.{forms_encoder}
use Rattle.parts.specs.Close.{closed_by}
use Rattle.table_search.specs.Search.{Ordered}
use Rattle.name_search.specs.Names.{serves_at, serves_both_at, lowest_row}
use Rattle.table_search.specs.Search as memory
use Rattle.table.specs.Changes.{Opening, inserted, Removing, removed, started}
use Rattle.table_rows.specs.Rows.{status_set}
use Rattle.horizons.specs.Horizons.{raised, horizons_opened, horizons_closed}
use Rattle.table_laws.specs.DecoderChanges.{found, missing}
use Rattle.std.specs.Prelude.{Some, None}

-- memory that forms an encoder's state, and what it stands for
pub record EncoderStands (m : List ℕ) (E : Encoder) : Type 0 where
  pub small : Small m
  pub forms : forms_encoder m ≡ true
  pub state : encoder_of m ≡ E

-- the entry with index i referred to by a block of this kind on stream s
unfoldable pub referred_at : ℕ → Part → ℕ → Sent → Sent
referred_at s p i e = pick (eqb e.index i) (referred s p e) e

pub record EncoderChanges (m : List ℕ) (E : Encoder) : Type 0 where
  -- ---- what searches say
  pub ordered : Ordered m
  pub limit : limit_of m ≡ E.limit
  pub held : held_of m ≡ sent_size E.entries
  pub count : count_of m ≡ length E.entries
  pub here : (x place : ℕ) → found m x place → (place < count_of m) × (look sent_index x E.entries ≡ some (sent_at m place))
  pub nowhere : (x place : ℕ) → missing m x place → look sent_index x E.entries ≡ none
  -- "the lowest dynamic one not under deletion"
  pub serving : (name : List ℕ) (place : ℕ) → lowest_row (serves_at m name) (count_of m) 0 ≡ Some place
      → (place < count_of m) × (first (serves name) E.entries ≡ some (sent_at m place))
  pub unserved : (name : List ℕ) → lowest_row (serves_at m name) (count_of m) 0 ≡ None → first (serves name) E.entries ≡ none
  pub serving_both : (name value : List ℕ) (place : ℕ) → lowest_row (serves_both_at m name value) (count_of m) 0 ≡ Some place
      → (place < count_of m) × (first (serves_both name value) E.entries ≡ some (sent_at m place))
  pub unserved_both : (name value : List ℕ) → lowest_row (serves_both_at m name value) (count_of m) 0 ≡ None
      → first (serves_both name value) E.entries ≡ none
  -- "the lowest from 62 that is not held"
  pub vacant : 62 + memory.vacant_row m (count_of m) 0 ≡ vacant_from sent_index 62 E.entries
  -- ---- an entry put in at it
  pub opening : (name value : ℕ) → held_of m + (name + value + 32) ≤ 4096 → count_of m < 128 → name ≤ 255 → Opening m (memory.vacant_row m (count_of m) 0) name value
  pub insert : (name value : List ℕ) → held_of m + (length name + length value + 32) ≤ 4096 → count_of m < 128
      → length name ≤ 255
      → horizons_opened (inserted m (memory.vacant_row m (count_of m) 0) (62 + memory.vacant_row m (count_of m) 0) name value) (memory.vacant_row m (count_of m) 0) (count_of m)
      ≡ overlay_encoder (with_sent E (put sent_index (new_sent (vacant_from sent_index 62 E.entries) name value) E.entries)) m
  -- ---- an entry put under deletion, referred to, and freed
  pub delete : (x place : ℕ) → found m x place → status_set m place 1 ≡ overlay_encoder (with_sent E (map (mark_deleted x) E.entries)) m
  pub refer : (x place s : ℕ) (p : Part) → found m x place → s < streams
      → raised m place p s ≡ overlay_encoder (with_sent E (map (referred_at s p x) E.entries)) m
  pub removing : (x place : ℕ) → found m x place → Removing m place
  pub free : (x place : ℕ) → found m x place → horizons_closed (removed m place) place (count_of m) ≡ overlay_encoder (with_sent E (cut sent_index x E.entries)) m
  -- ---- what a block closes that was written
  pub write : (s : ℕ) (p : Part) → s < streams → closed_by p m s ≡ overlay_encoder (with_written E (block_marks p s E.written)) m

-- of all memory that forms an encoder's state; and a fresh one
pub record EncoderClaim : Type 0 where
  pub start : (m : List ℕ) (limit : ℕ) → encoder_length ≤ length m → limit ≤ 4096 → started m encoder_role limit ≡ overlay_encoder (start_encoder limit) m
  pub changes : (m : List ℕ) (E : Encoder) → EncoderStands m E → EncoderChanges m E
