-- The encoder's table and its calls. Answers stand in document 01's order, as far as they do not speak of memory or of reading bytes.
use Rattle.std.specs.Prelude.{ℕ, suc, ◌+◌, ◌≤◌, max, ◌≡◌, Bool, true, false, not, ◌&&◌, List, [], ◌∷◌, map, length, ltb, leb, eqb}
use Rattle.std.proofs.Math.Option.{Option, none, some}
use Rattle.memory.specs.Choice.{pick, need}
use Rattle.memory.specs.Compare.{same}
use Rattle.integers.specs.Answers.{not_allowed, over_limit, vacant, under_deletion, not_under_deletion, out_of_turn, no_room, too_long}
use Rattle.integers.specs.Integer.{largest}
use Rattle.wire.specs.Name.{Name, indexed as by_index, literal as by_bytes}
use Rattle.stream_lists.specs.StreamList.{StreamList}
use Rattle.statics.specs.Table.{Entry}
use Rattle.static_search.specs.Search.{find_name, find_both}
use Rattle.fields.specs.Form.{Field}
use Rattle.instructions.specs.Instruction.{Instruction, insert, delete, instruction_wire}
use Rattle.blocks.specs.Representation.{Representation, indexed, literal, block_wire}
use Rattle.blocks.specs.Meaning.{block_references}
use Rattle.model.specs.Table.{size, Account, Ascending, look, put, cut, first, vacant_from, total}
use Rattle.model.specs.Parts.{Part, nontrailer, trailer, part_of, Marks, no_marks, block_marks, in_turn, streams}
use Rattle.model.specs.Outcome.{nothing, instruction, block, Outcome, refuse, finish}
use Rattle.std.specs.Prelude.{Some, None}
use Rattle.integers.specs.declared.number.TableIndex.{TableIndex}
use Rattle.std.specs.Prelude as prelude

-- an entry: for each kind of block the horizon that its delete would be written with, and whether it is under deletion
pub record Sent : Type 0 where
  pub index : ℕ
  pub entry : Entry
  pub nontrailer : ℕ
  pub trailer : ℕ
  pub deleted : Bool

-- with a horizon changed, or put under deletion
abbrev pub with_nontrailer : Sent → ℕ → Sent
with_nontrailer e horizon = record { index = e.index; entry = e.entry; nontrailer = horizon; trailer = e.trailer; deleted = e.deleted }

abbrev pub with_trailer : Sent → ℕ → Sent
with_trailer e horizon = record { index = e.index; entry = e.entry; nontrailer = e.nontrailer; trailer = horizon; deleted = e.deleted }

abbrev pub as_deleted : Sent → Sent
as_deleted e = record { index = e.index; entry = e.entry; nontrailer = e.nontrailer; trailer = e.trailer; deleted = true }

abbrev pub sent_index : Sent → ℕ
sent_index e = e.index

-- the limit; the entries held, ascending by index; the parts that are closed
pub record Encoder : Type 0 where
  pub limit : ℕ
  pub entries : List Sent
  pub written : Marks

-- with one of them changed
abbrev pub with_sent : Encoder → List Sent → Encoder
with_sent E l = record { limit = E.limit; entries = l; written = E.written }

abbrev pub with_written : Encoder → Marks → Encoder
with_written E marks = record { limit = E.limit; entries = E.entries; written = marks }

unfoldable pub sent_size : List Sent → ℕ
sent_size l = total sent_index (λ e. size e.entry) l

unfoldable pub encoder_account : Encoder → Account
encoder_account E = record { limit = E.limit; held = sent_size E.entries; count = length E.entries }

unfoldable pub start_encoder : ℕ → Encoder
start_encoder limit = record { limit = limit; entries = []; written = no_marks }

-- ---- the choice of representation and index

-- a dynamic entry that may serve: "not under deletion", with this name, or with this name and value
unfoldable pub serves : List ℕ → Sent → Bool
serves name e = not e.deleted && same e.entry.name name

unfoldable pub serves_both : List ℕ → List ℕ → Sent → Bool
serves_both name value e = serves name e && same e.entry.value value

unfoldable pub dynamic_name : List ℕ → Option Sent → Name
dynamic_name name none = by_bytes name
dynamic_name name (some e) = by_index e.index

unfoldable pub static_name : List Sent → List ℕ → prelude.Option TableIndex → Name
static_name l name (Some j) = by_index j.value
static_name l name None = dynamic_name name (first (serves name) l)

-- "A literal, and an insert, names by the lowest static index with that name, else the lowest dynamic one not under deletion, else by string."
unfoldable pub choose_name : List Sent → List ℕ → Name
choose_name l name = static_name l name (find_name name)

unfoldable pub dynamic_field : List Sent → Field → Option Sent → Representation
dynamic_field l f none = literal 0 (choose_name l f.name) f.value
dynamic_field l f (some e) = indexed e.index

unfoldable pub static_field : List Sent → Field → prelude.Option TableIndex → Representation
static_field l f (Some j) = indexed j.value
static_field l f None = dynamic_field l f (first (serves_both f.name f.value) l)

-- "A field with flag 1 is a literal with N. Otherwise use the lowest static index with equal name and value, else the lowest such dynamic
-- index not under deletion, else a literal."
unfoldable pub choose : List Sent → Field → Representation
choose l f = pick (eqb f.flag 1) (literal 1 (choose_name l f.name) f.value) (static_field l f (find_both f.name f.value))

-- ---- insert: 13, 7, 12. It tells the bytes written and the new index, "the lowest from 62 that is not held".
abbrev pub new_sent : ℕ → List ℕ → List ℕ → Sent
new_sent i name value = record { index = i; entry = record { name = name; value = value }; nontrailer = 0; trailer = 0; deleted = false }

unfoldable pub insert_at : Encoder → ℕ → List ℕ → List ℕ → ℕ → Outcome Encoder
insert_at E i name value room =
    need (leb (length (instruction_wire (insert i (choose_name E.entries name) value))) room) (refuse E no_room)
    (finish (with_sent E (put sent_index (new_sent i name value) E.entries))
    (length (instruction_wire (insert i (choose_name E.entries name) value))) i (instruction (insert i (choose_name E.entries name) value)))

unfoldable pub insert_entry : Encoder → List ℕ → List ℕ → ℕ → Outcome Encoder
insert_entry E name value room =
    need (leb (length name) 255) (refuse E too_long)
    (need (leb (length value) 2047) (refuse E too_long)
    (need (leb (sent_size E.entries + size (record { name = name; value = value })) E.limit) (refuse E over_limit)
    (insert_at E (vacant_from sent_index 62 E.entries) name value room)))

-- ---- delete: "5, 8, 9, 12". "A delete is written with empty lists." "The entry is held until its acknowledgement is read."
abbrev pub empty_list : ℕ → StreamList
empty_list horizon = record { horizon = horizon; streams = [] }

-- the entry with index i put under deletion
unfoldable pub mark_deleted : ℕ → Sent → Sent
mark_deleted i e = pick (eqb e.index i) (as_deleted e) e

abbrev pub delete_of_sent : Sent → Instruction
delete_of_sent e = delete e.index (empty_list e.nontrailer) (empty_list e.trailer)

unfoldable pub delete_found : Encoder → ℕ → Option Sent → Outcome Encoder
delete_found E room none = refuse E vacant
delete_found E room (some e) =
    need (not e.deleted) (refuse E under_deletion)
    (need (leb (length (instruction_wire (delete_of_sent e))) room) (refuse E no_room)
    (finish (with_sent E (map (mark_deleted e.index) E.entries)) (length (instruction_wire (delete_of_sent e))) 0 (instruction (delete_of_sent e))))

unfoldable pub delete_sent : Encoder → ℕ → ℕ → Outcome Encoder
delete_sent E i room =
    need (leb 62 i) (refuse E not_allowed)
    (need (leb i largest) (refuse E not_allowed)
    (delete_found E room (look sent_index i E.entries)))

-- ---- block: "11, .. block length 13, 12"
-- is i among these indexes?
unfoldable pub mentions : List ℕ → ℕ → Bool
mentions [] i = false
mentions (j ∷ js) i = pick (eqb j i) true (mentions js i)

-- "Each horizon is one more than the highest stream whose block of that kind refers to the entry, by index or for its name"
unfoldable pub referred : ℕ → Part → Sent → Sent
referred s nontrailer e = with_nontrailer e (max e.nontrailer (suc s))
referred s trailer e = with_trailer e (max e.trailer (suc s))

unfoldable pub refer : ℕ → Part → List Representation → Sent → Sent
refer s p rs e = pick (mentions (block_references rs) e.index) (referred s p e) e

unfoldable pub write_part : Encoder → ℕ → Part → List Representation → ℕ → Outcome Encoder
write_part E s p rs room =
    need (leb (length (block_wire rs)) 16384) (refuse E too_long)
    (need (leb (length (block_wire rs)) room) (refuse E no_room)
    (finish (with_written (with_sent E (map (refer s p rs) E.entries)) (block_marks p s E.written))
    (length (block_wire rs)) 0 (block rs)))

unfoldable pub encode_part : Encoder → ℕ → Option Part → List Field → ℕ → Outcome Encoder
encode_part E s none fs room = refuse E out_of_turn
encode_part E s (some p) fs room =
    need (ltb s streams) (refuse E out_of_turn)
    (need (in_turn E.written s p) (refuse E out_of_turn)
    (write_part E s p (map (choose E.entries) fs) room))

unfoldable pub encode_block : Encoder → ℕ → ℕ → List Field → ℕ → Outcome Encoder
encode_block E s part fs room = encode_part E s (part_of part) fs room

-- ---- acknowledgement: "10". The entry is freed.
unfoldable pub acknowledge_found : Encoder → ℕ → Option Sent → Outcome Encoder
acknowledge_found E taken none = refuse E not_under_deletion
acknowledge_found E taken (some e) =
    need e.deleted (refuse E not_under_deletion) (finish (with_sent E (cut sent_index e.index E.entries)) taken 0 nothing)

unfoldable pub read_ack : Encoder → ℕ → ℕ → Outcome Encoder
read_ack E i taken = acknowledge_found E taken (look sent_index i E.entries)

-- ---- what forms a state: indexes in range and ascending, strings in their limits, horizons at most 4,096
pub record FineSent (e : Sent) : Type 0 where
  pub low : 62 ≤ e.index
  pub high : e.index ≤ 189
  pub name : length e.entry.name ≤ 255
  pub value : length e.entry.value ≤ 2047
  pub nontrailer : e.nontrailer ≤ 4096
  pub trailer : e.trailer ≤ 4096

pub record FormsEncoder (E : Encoder) : Type 0 where
  pub limit : E.limit ≤ 4096
  pub fits : sent_size E.entries ≤ 4096
  pub few : length E.entries ≤ 128
  pub order : Ascending sent_index 62 E.entries
  pub entries : (i : ℕ) (e : Sent) → look sent_index i E.entries ≡ some e → FineSent e
