-- The decoder's table and its calls. Answers stand in document 01's order, as far as they do not speak of memory or of reading bytes.
use Rattle.std.specs.Prelude.{ℕ, ◌+◌, ◌≤◌, ◌≡◌, Bool, true, false, not, List, [], ◌∷◌, ◌++◌, length, ltb, leb}
use Rattle.std.proofs.Math.Option.{Option, none, some, map}
use Rattle.memory.specs.Choice.{need}
use Rattle.integers.specs.Answers.{waits, not_allowed, held, over_limit, vacant, under_deletion, not_under_deletion, out_of_turn, no_room}
use Rattle.integers.specs.Integer.{largest}
use Rattle.statics.specs.Table.{Entry}
use Rattle.wire.specs.Name.{Name, indexed, literal}
use Rattle.fields.specs.Form.{list_form}
use Rattle.instructions.specs.Instruction.{Instruction, insert, delete, acknowledge, FineIndex, FineList, instruction_wire}
use Rattle.blocks.specs.Representation.{Representation}
use Rattle.blocks.specs.Meaning.{Slot, vacant as empty, holds, with_statics, BlockMeaning, list, block_meaning}
use Rattle.blocks.specs.Meaning as meaning
use Rattle.model.specs.Table.{size, Account, Ascending, Distinct, look, put, cut, first, total}
use Rattle.model.specs.Parts.{Part, part_of, Marks, no_marks, block_marks, Closing, closed, in_turn, Delete, open_below, lowest_open, streams, is_ready}
use Rattle.model.specs.Outcome.{nothing, instruction, fields, Outcome, refuse, finish}

-- an entry of the table
pub record Held : Type 0 where
  pub index : ℕ
  pub entry : Entry

abbrev pub held_index : Held → ℕ
held_index h = h.index

abbrev pub delete_index : Delete → ℕ
delete_index d = d.index

-- the limit; the entries held, ascending by index; the deletes in order of arrival; the finished parts
pub record Decoder : Type 0 where
  pub limit : ℕ
  pub entries : List Held
  pub deletes : List Delete
  pub finished : Marks

-- with one of them changed
abbrev pub with_entries : Decoder → List Held → Decoder
with_entries D l = record { limit = D.limit; entries = l; deletes = D.deletes; finished = D.finished }

abbrev pub with_deletes : Decoder → List Delete → Decoder
with_deletes D l = record { limit = D.limit; entries = D.entries; deletes = l; finished = D.finished }

abbrev pub with_finished : Decoder → Marks → Decoder
with_finished D marks = record { limit = D.limit; entries = D.entries; deletes = D.deletes; finished = marks }

-- "The held size is the sum over all entries held, those under deletion included."
unfoldable pub held_size : List Held → ℕ
held_size l = total held_index (λ h. size h.entry) l

unfoldable pub decoder_account : Decoder → Account
decoder_account D = record { limit = D.limit; held = held_size D.entries; count = length D.entries }

unfoldable pub slot_in : Option Held → Slot
slot_in none = empty
slot_in (some h) = holds h.entry

-- what an index names: a static entry, or one held here
unfoldable pub lookup : Decoder → ℕ → Slot
lookup D = with_statics (λ i. slot_in (look held_index i D.entries))

-- the delete of the entry with index i, if it is under deletion
unfoldable pub delete_of : Decoder → ℕ → Option Delete
delete_of D i = look delete_index i D.deletes

-- ---- start: "The limit is fixed at start, 0 to 4,096."
unfoldable pub start_decoder : ℕ → Decoder
start_decoder limit = record { limit = limit; entries = []; deletes = []; finished = no_marks }

-- ---- a management instruction: insert 8, 6, 7; "delete 8, 9". It tells how many bytes were taken.
unfoldable pub slot_name : Slot → Option (List ℕ)
slot_name empty = none
slot_name (holds e) = some e.name

-- the bytes of an insert's name
unfoldable pub name_bytes : (ℕ → Slot) → Name → Option (List ℕ)
name_bytes look_up (indexed i) = slot_name (look_up i)
name_bytes look_up (literal xs) = some xs

-- is there one?
abbrev pub is_some : {X : Type 0} → Option X → Bool
is_some none = false
is_some (some x) = true

unfoldable pub insert_named : Decoder → ℕ → List ℕ → ℕ → Option (List ℕ) → Outcome Decoder
insert_named D i value taken none = refuse D vacant
insert_named D i value taken (some name) =
    need (not (is_some (look held_index i D.entries))) (refuse D held)
    (need (leb (held_size D.entries + size (record { name = name; value = value })) D.limit) (refuse D over_limit)
    (finish (with_entries D (put held_index (record { index = i; entry = record { name = name; value = value } }) D.entries)) taken 0 nothing))

-- "A delete is kept with its lists."
unfoldable pub delete_entry : Decoder → Delete → ℕ → Outcome Decoder
delete_entry D d taken =
    need (is_some (look held_index d.index D.entries)) (refuse D vacant)
    (need (not (is_some (delete_of D d.index))) (refuse D under_deletion)
    (finish (with_deletes D (D.deletes ++ (d ∷ []))) taken 0 nothing))

-- an acknowledgement never comes here: the decoder's reader answers it with 5
unfoldable pub read_instruction : Decoder → Instruction → ℕ → Outcome Decoder
read_instruction D (insert i name value) taken = insert_named D i value taken (name_bytes (lookup D) name)
read_instruction D (delete i nontrailer trailer) taken = delete_entry D (record { index = i; nontrailer = nontrailer; trailer = trailer }) taken
read_instruction D (acknowledge i) taken = refuse D not_allowed

-- ---- a block: "11, .. 1, 12". "From now on a non-trailer block does not finish its part"; a trailer block that is done finishes both.
unfoldable pub give_fields : Decoder → ℕ → Part → ℕ → BlockMeaning → Outcome Decoder
give_fields D s p room (meaning.BlockMeaning.waits i) = record { state = D; answer = record { number = waits; first = i; second = 0 }; output = nothing }
give_fields D s p room (list fs) =
    need (leb (length (list_form fs)) room) (refuse D no_room)
    (finish (with_finished D (block_marks p s D.finished)) (length (list_form fs)) 0 (fields fs))

unfoldable pub decode_part : Decoder → ℕ → Option Part → List Representation → ℕ → Outcome Decoder
decode_part D s none rs room = refuse D out_of_turn
decode_part D s (some p) rs room =
    need (ltb s streams) (refuse D out_of_turn)
    (need (in_turn D.finished s p) (refuse D out_of_turn)
    (give_fields D s p room (block_meaning (lookup D) rs)))

unfoldable pub decode_block : Decoder → ℕ → ℕ → List Representation → ℕ → Outcome Decoder
decode_block D s part rs room = decode_part D s (part_of part) rs room

-- ---- parts closed: "The host says "non-trailer part over"", which finishes that part, or that "a stream has ended or was reset: both parts are finished";
-- saying it again is fine. ""Over" gives 11 above stream 4,095, else it is done, said again too."
unfoldable pub close_parts : Decoder → Closing → ℕ → Outcome Decoder
close_parts D k s = need (ltb s streams) (refuse D out_of_turn) (finish (with_finished D (closed k s D.finished)) 0 0 nothing)

-- ---- collect: "Collect shall now free the ready entry whose delete arrived first" (request 14), and it "writes its Delete-Ack; with none ready it is done,
-- writes 0 bytes and changes nothing"
unfoldable pub ready_delete : Marks → Option Delete → Bool
ready_delete marks none = false
ready_delete marks (some d) = is_ready marks d

unfoldable pub ready : Decoder → ℕ → Bool
ready D i = ready_delete D.finished (delete_of D i)

unfoldable pub next_freed : Decoder → Option ℕ
next_freed D = map delete_index (first (λ d. ready D d.index) D.deletes)

unfoldable pub without : Decoder → ℕ → Decoder
without D i = with_deletes (with_entries D (cut held_index i D.entries)) (cut delete_index i D.deletes)

unfoldable pub free_entry : Decoder → ℕ → Option ℕ → Outcome Decoder
free_entry D room none = finish D 0 0 nothing
free_entry D room (some i) =
    need (leb (length (instruction_wire (acknowledge i))) room) (refuse D no_room)
    (finish (without D i) (length (instruction_wire (acknowledge i))) 0 (instruction (acknowledge i)))

unfoldable pub collect_entry : Decoder → ℕ → Outcome Decoder
collect_entry D room = free_entry D room (next_freed D)

-- ---- hold enquiry: "5, 8, 10". "tells how many named parts are unfinished and the lowest stream having one (4,096 if none)"
unfoldable pub hold_of : Decoder → Option Delete → Outcome Decoder
hold_of D none = refuse D not_under_deletion
hold_of D (some d) = finish D (open_below D.finished d streams) (lowest_open D.finished d 0 streams) nothing

unfoldable pub enquire_hold : Decoder → ℕ → Outcome Decoder
enquire_hold D i =
    need (leb 62 i) (refuse D not_allowed)
    (need (leb i largest) (refuse D not_allowed)
    (need (is_some (look held_index i D.entries)) (refuse D vacant)
    (hold_of D (delete_of D i))))

-- ---- what forms a state: indexes in range and ascending, strings and lists in their limits, one delete for an entry that is held
pub record FineHeld (h : Held) : Type 0 where
  pub index : FineIndex h.index
  pub name : length h.entry.name ≤ 255
  pub value : length h.entry.value ≤ 2047

pub record FineDelete (D : Decoder) (d : Delete) : Type 0 where
  pub nontrailer : FineList d.nontrailer
  pub trailer : FineList d.trailer
  pub held : is_some (look held_index d.index D.entries) ≡ true

pub record FormsDecoder (D : Decoder) : Type 0 where
  pub limit : D.limit ≤ 4096
  pub fits : held_size D.entries ≤ 4096
  pub few : length D.entries ≤ 128
  pub order : Ascending held_index 62 D.entries
  pub entries : (i : ℕ) (h : Held) → look held_index i D.entries ≡ some h → FineHeld h
  pub deletes : (i : ℕ) (d : Delete) → look delete_index i D.deletes ≡ some d → FineDelete D d
  pub once : Distinct delete_index D.deletes
