-- The decoder's table as a function of the index: its slots, what instructions and blocks say of dynamic slots, and the answers to them.
-- It leaves out what the claim over the link does not need: the order of entries, forms, and room for output.
use mathlib.Core.Path.{◌≡◌}
use Prim.Native.Nat.{ℕ, zero, suc, ◌+◌, ◌-◌}
use native.Mathlib.Decide.{dec_le}
use mathlib.Core.Bool.{Bool, true, ◌&&◌}
use mathlib.Core.Option.{Option, none, some}
use mathlib.Core.List.{List, [], ◌∷◌, ◌++◌, Memᴰ}
use Rattle.statics.specs.Table.{Entry}
use Rattle.fields.specs.Form.{Field}
use Rattle.memory.specs.Choice as choice
use Rattle.model.specs.Table.{size}
use Rattle.model.specs.Parts.{Part, nontrailer, trailer, Marks, in_turn}
use Rattle.model_laws.proofs.Slots.Functions.{decided, set_at}
use Rattle.model_laws.proofs.Marks.{and_both}

-- a part of a stream
pub record StreamPart : Type 0 where
  pub stream : ℕ
  pub part : Part

-- the part has its mark
abbrev pub marked_at : Marks → StreamPart → Bool
marked_at f q = f q.stream q.part

-- a delete's two lists: horizon and listed streams, for non-trailer and for trailer blocks
pub record DeleteLists : Type 0 where
  pub nontrailer_horizon : ℕ
  pub nontrailer_streams : List ℕ
  pub trailer_horizon : ℕ
  pub trailer_streams : List ℕ

-- the parts of one kind of the n lowest streams, and of listed streams
unfoldable pub parts_below : Part → ℕ → List StreamPart
parts_below p zero = []
parts_below p (suc n) = record { stream = n; part = p } ∷ parts_below p n

unfoldable pub parts_among : Part → List ℕ → List StreamPart
parts_among p [] = []
parts_among p (s ∷ l) = record { stream = s; part = p } ∷ parts_among p l

-- the parts that they name
unfoldable pub named_parts : DeleteLists → List StreamPart
unfolding parts_below parts_among
named_parts ls =
    (parts_below nontrailer ls.nontrailer_horizon ++ parts_among nontrailer ls.nontrailer_streams)
    ++ (parts_below trailer ls.trailer_horizon ++ parts_among trailer ls.trailer_streams)

abbrev pub no_lists : DeleteLists
no_lists = record { nontrailer_horizon = 0; nontrailer_streams = []; trailer_horizon = 0; trailer_streams = [] }

unfoldable pub all_marked : Marks → List StreamPart → Bool
all_marked f [] = true
all_marked f (q ∷ ls) = marked_at f q && all_marked f ls

-- ---- the decoder's slot: empty, live, or under deletion with the lists that were read
pub data DecoderSlot : Type 0 where
  empty_slot : DecoderSlot
  live_slot : Entry → DecoderSlot
  deleted_slot : Entry → DeleteLists → DecoderSlot

abbrev pub entry_in : DecoderSlot → Option Entry
entry_in empty_slot = none
entry_in (live_slot c) = some c
entry_in (deleted_slot c ls) = some c

abbrev pub DecoderSlots : Type 0
DecoderSlots = ℕ → DecoderSlot

-- ---- instructions: an insert's name is its own (from the static table or a string), or a dynamic slot's, with the value
pub data NameSource : Type 0 where
  own_name : Entry → NameSource
  name_of_slot : ℕ → List ℕ → NameSource

pub data SlotInstruction : Type 0 where
  insert_slot : ℕ → NameSource → SlotInstruction
  delete_slot : ℕ → DeleteLists → SlotInstruction

-- ---- blocks: a field that needs no slot, the field of a slot, or a slot's name with a flag and a value
pub data Item : Type 0 where
  given : Field → Item
  by_index : ℕ → Item
  by_name : ℕ → ℕ → List ℕ → Item

pub data BlockAnswer : Type 0 where
  gives : List Field → BlockAnswer
  waits_for : ℕ → BlockAnswer
  out_of_turn : BlockAnswer

-- the slots, the finished parts, the size held and the limit
pub record DecoderTables : Type 0 where
  pub slots : DecoderSlots
  pub finished : Marks
  pub filled : ℕ
  pub limit : ℕ

-- with other slots, which hold this size; with other marks
abbrev pub with_slots : DecoderTables → DecoderSlots → ℕ → DecoderTables
with_slots D t n = record { slots = t; finished = D.finished; filled = n; limit = D.limit }

abbrev pub with_marks : DecoderTables → Marks → DecoderTables
with_marks D marks = record { slots = D.slots; finished = marks; filled = D.filled; limit = D.limit }

-- ---- a block's meaning
unfoldable pub add_field : Field → BlockAnswer → BlockAnswer
add_field f (gives fs) = gives (f ∷ fs)
add_field f (waits_for i) = waits_for i
add_field f out_of_turn = out_of_turn

-- an empty slot makes the block wait
unfoldable pub on_entry : (Entry → Field) → ℕ → Option Entry → BlockAnswer → BlockAnswer
unfolding add_field
on_entry g i none r = waits_for i
on_entry g i (some c) r = add_field (g c) r

abbrev pub entry_field : Entry → Field
entry_field c = record { flag = 0; name = c.name; value = c.value }

abbrev pub field_named : ℕ → List ℕ → Entry → Field
field_named n v c = record { flag = n; name = c.name; value = v }

unfoldable pub meaning : DecoderSlots → List Item → BlockAnswer
unfolding add_field on_entry
meaning t [] = gives []
meaning t (given f ∷ b) = add_field f (meaning t b)
meaning t (by_index i ∷ b) = on_entry entry_field i (entry_in (t i)) (meaning t b)
meaning t (by_name i n v ∷ b) = on_entry (field_named n v) i (entry_in (t i)) (meaning t b)

-- ---- the calls

-- a block in turn is answered by what it means
unfoldable pub offer : DecoderTables → ℕ → Part → List Item → BlockAnswer
offer D s p b = choice.pick (in_turn D.finished s p) (meaning D.slots b) out_of_turn

-- the entry that an insert means, if its name is found
unfoldable pub resolve : DecoderSlots → NameSource → Option Entry
resolve t (own_name c) = some c
resolve t (name_of_slot j v) = elim (entry_in (t j)) [ none ↦ none | some c ↦ some (record { name = c.name; value = v }) ]

-- the tables with slot i changed, and this size held
unfoldable pub set_slot : DecoderTables → ℕ → DecoderSlot → ℕ → DecoderTables
set_slot D i d n = with_slots D (set_at i d D.slots) n

-- none: the instruction is refused
unfoldable pub insert_in : DecoderTables → ℕ → DecoderSlot → Option Entry → Option DecoderTables
insert_in D i d none = none
insert_in D i empty_slot (some c) = decided (dec_le (D.filled + size c) D.limit) (some (set_slot D i (live_slot c) (D.filled + size c))) none
insert_in D i (live_slot x) (some c) = none
insert_in D i (deleted_slot x ls) (some c) = none

unfoldable pub delete_in : DecoderTables → ℕ → DeleteLists → DecoderSlot → Option DecoderTables
delete_in D i ls empty_slot = none
delete_in D i ls (live_slot c) = some (set_slot D i (deleted_slot c ls) D.filled)
delete_in D i ls (deleted_slot c l) = none

unfoldable pub read : DecoderTables → SlotInstruction → Option DecoderTables
unfolding insert_in delete_in resolve
read D (insert_slot i s) = insert_in D i (D.slots i) (resolve D.slots s)
read D (delete_slot i ls) = delete_in D i ls (D.slots i)

abbrev pub size_of : DecoderSlot → ℕ
size_of empty_slot = 0
size_of (live_slot c) = size c
size_of (deleted_slot c ls) = size c

unfoldable pub free_at : DecoderTables → ℕ → DecoderTables
unfolding set_slot
free_at D i = set_slot D i empty_slot (D.filled - size_of (D.slots i))

-- ---- a block that names slot i
pub data NamesSlot (i : ℕ) : List Item → Type 0 where
  names-index : {j : ℕ} {b : List Item} → j ≡ i → NamesSlot i (by_index j ∷ b)
  names-name : {j : ℕ} {n : ℕ} {v : List ℕ} {b : List Item} → j ≡ i → NamesSlot i (by_name j n v ∷ b)
  names-later : {x : Item} {b : List Item} → NamesSlot i b → NamesSlot i (x ∷ b)

-- ---- where all are marked, each one is
pub all-marked : (f : Marks) (ls : List StreamPart) (q : StreamPart) → all_marked f ls ≡ true → Memᴰ q ls → marked_at f q ≡ true
unfolding all_marked
all-marked f [] q h e = elim e [ ]
all-marked f (x ∷ ls) q h (Memᴰ.head e) = rw e (and_both (marked_at f x) (all_marked f ls) h).0
all-marked f (x ∷ ls) q h (Memᴰ.tail m) = all-marked f ls q (and_both (marked_at f x) (all_marked f ls) h).1 m
