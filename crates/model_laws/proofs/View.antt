-- The tables' lists seen as functions of the index: the decoder's entries with their deletes, the encoder's entries, and what
-- instructions and blocks say of dynamic slots.
use Prim.Native.Nat.{ℕ}
use mathlib.Core.Bool.{Bool, true, false}
use mathlib.Core.Option.{Option, none, some}
use mathlib.Core.List.{List, [], ◌∷◌}
use Rattle.memory.specs.Choice.{pick}
use Rattle.statics.specs.Table.{Entry, entry_at}
use Rattle.wire.specs.Name.{Name, indexed as indexed_name, literal as by_bytes}
use Rattle.stream_lists.specs.StreamList.{StreamList}
use Rattle.instructions.specs.Instruction.{Instruction, insert, delete, acknowledge}
use Rattle.blocks.specs.Representation.{Representation, indexed, literal}
use Rattle.blocks.specs.Meaning.{is_static}
use Rattle.model.specs.Table.{look}
use Rattle.model.specs.Parts.{Delete}
use Rattle.model.specs.Decoder.{Held, held_index, delete_index, Decoder, held_size}
use Rattle.model.specs.Encoder.{Sent, sent_index}
use Rattle.model_laws.proofs.Slots.Machine.{DeleteLists, no_lists, DecoderSlot, empty_slot, live_slot, deleted_slot, DecoderSlots, NameSource, own_name}
use Rattle.model_laws.proofs.Slots.Machine.{name_of_slot, SlotInstruction, insert_slot, delete_slot, Item, given, by_index, by_name, DecoderTables}
use Rattle.model_laws.proofs.Slots.Machine.{entry_field, field_named}
use Rattle.model_laws.proofs.Slots.Messages.{EncoderSlot, free_sent, live_sent, deleted_sent}

-- ---- the decoder

-- two stream lists as a delete carries them
abbrev pub lists_by : StreamList → StreamList → DeleteLists
lists_by nontrailer trailer = record {
  nontrailer_horizon = nontrailer.horizon;
  nontrailer_streams = nontrailer.streams;
  trailer_horizon = trailer.horizon;
  trailer_streams = trailer.streams;
}

abbrev pub lists_of : Delete → DeleteLists
lists_of d = lists_by d.nontrailer d.trailer

-- a slot, from the entry held there and its delete
abbrev pub slot_at : Option Held → Option Delete → DecoderSlot
slot_at none d = empty_slot
slot_at (some h) none = live_slot h.entry
slot_at (some h) (some d) = deleted_slot h.entry (lists_of d)

unfoldable pub slots_of : Decoder → DecoderSlots
slots_of D i = slot_at (look held_index i D.entries) (look delete_index i D.deletes)

unfoldable pub tables_of : Decoder → DecoderTables
tables_of D = record { slots = slots_of D; finished = D.finished; filled = held_size D.entries; limit = D.limit }

-- ---- instructions and blocks: a static entry is no slot

unfoldable pub source_of : Name → List ℕ → NameSource
source_of (indexed_name i) value = pick (is_static i) (own_name (record { name = (entry_at i).name; value = value })) (name_of_slot i value)
source_of (by_bytes name) value = own_name (record { name = name; value = value })

-- an acknowledgement never comes to the decoder
unfoldable pub slot_instruction : Instruction → SlotInstruction
slot_instruction (insert i name value) = insert_slot i (source_of name value)
slot_instruction (delete i nontrailer trailer) = delete_slot i (lists_by nontrailer trailer)
slot_instruction (acknowledge i) = delete_slot i no_lists

unfoldable pub slot_item : Representation → Item
slot_item (indexed i) = pick (is_static i) (given (entry_field (entry_at i))) (by_index i)
slot_item (literal flag (indexed_name i) value) = pick (is_static i) (given (field_named flag value (entry_at i))) (by_name i flag value)
slot_item (literal flag (by_bytes name) value) = given (record { flag = flag; name = name; value = value })

unfoldable pub slot_items : List Representation → List Item
slot_items [] = []
slot_items (r ∷ rs) = slot_item r ∷ slot_items rs

-- ---- the encoder: its horizons are the lists that a delete would be written with

abbrev pub lists_sent : Sent → DeleteLists
lists_sent e = record { nontrailer_horizon = e.nontrailer; nontrailer_streams = []; trailer_horizon = e.trailer; trailer_streams = [] }

abbrev pub slot_sent : Bool → Entry → DeleteLists → EncoderSlot
slot_sent false c ls = live_sent c ls
slot_sent true c ls = deleted_sent c ls

abbrev pub slot_of_sent : Option Sent → EncoderSlot
slot_of_sent none = free_sent
slot_of_sent (some e) = slot_sent e.deleted e.entry (lists_sent e)

unfoldable pub slots_sent : List Sent → ℕ → EncoderSlot
slots_sent l i = slot_of_sent (look sent_index i l)
