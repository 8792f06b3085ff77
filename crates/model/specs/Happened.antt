-- What happened to a header table, and what follows from it for each index: held or empty, its entry, its deletion, and the sizes.
-- What happened is told by calls, bytes and answers, at either end (link/specs/Happened.antt says how), never by what memory holds.
use Rattle.std.specs.Prelude.{ℕ, ◌+◌, Bool, true, false, List, [], ◌∷◌, ◌++◌, eqb}
use Rattle.std.proofs.Math.Option.{Option, none, some}
use Rattle.memory.specs.Choice.{pick}
use Rattle.wire.specs.Name.{Name}
use Rattle.instructions.specs.Instruction.{Instruction, insert, delete, acknowledge}
use Rattle.blocks.specs.Meaning.{Slot, vacant, holds, with_statics}
use Rattle.model.specs.Table.{size, cut}
use Rattle.model.specs.Parts.{Delete}
use Rattle.model.specs.Decoder.{delete_index, name_bytes}

pub data Happened : Type 0 where
  -- an insert was done at this index, with this name and value
  inserted : ℕ → Name → List ℕ → Happened
  -- a delete was done, with its two lists
  deleted : Delete → Happened
  -- the entry with this index was freed
  freed : ℕ → Happened

-- what an instruction does to the table of the end that reads it
abbrev pub done_by : Instruction → List Happened
done_by (insert i name value) = inserted i name value ∷ []
done_by (delete i nontrailer trailer) = deleted (record { index = i; nontrailer = nontrailer; trailer = trailer }) ∷ []
done_by (acknowledge i) = freed i ∷ []

-- one after another
unfoldable pub after : {A : Type 0} → (A → Happened → A) → A → List Happened → A
after by a [] = a
after by a (x ∷ xs) = after by (by a x) xs

-- ---- "At the decoder a slot is empty except from an insert there answered "done" to the collect that frees it."
unfoldable pub held_by : ℕ → Bool → Happened → Bool
held_by i h (inserted j name value) = pick (eqb j i) true h
held_by i h (deleted d) = h
held_by i h (freed j) = pick (eqb j i) false h

-- ---- the deletion that a slot is under: from a delete of it answered "done" until it is freed
unfoldable pub deletion_by : ℕ → Option Delete → Happened → Option Delete
deletion_by i o (inserted j name value) = o
deletion_by i o (deleted d) = pick (eqb d.index i) (some d) o
deletion_by i o (freed j) = pick (eqb j i) none o

-- ---- the deletes done and not freed, in the order in which they were read
unfoldable pub deletes_by : List Delete → Happened → List Delete
deletes_by ds (inserted j name value) = ds
deletes_by ds (deleted d) = ds ++ (d ∷ [])
deletes_by ds (freed j) = cut delete_index j ds

-- ---- what every index holds
abbrev pub Contents : Type 0
Contents = ℕ → Slot

abbrev pub empty : Contents
empty i = vacant

unfoldable pub is_held : Slot → Bool
is_held vacant = false
is_held (holds e) = true

-- the entry of an insert: the value's own bytes; the name's from its string, from the static table, or from the entry that stands at its index
unfoldable pub named : Option (List ℕ) → List ℕ → Slot
named none value = vacant
named (some name) value = holds (record { name = name; value = value })

unfoldable pub entry_of : Contents → Name → List ℕ → Slot
entry_of t name value = named (name_bytes (with_statics t) name) value

unfoldable pub contents_by : Contents → Happened → Contents
contents_by t (inserted j name value) i = pick (eqb j i) (entry_of t name value) (t i)
contents_by t (deleted d) i = t i
contents_by t (freed j) i = pick (eqb j i) vacant (t i)

-- ---- "the sizes of all inserts done less the sizes of all entries freed"
unfoldable pub size_in : Slot → ℕ
size_in vacant = 0
size_in (holds e) = size e

unfoldable pub added_by : Contents → Happened → ℕ
added_by t (inserted j name value) = size_in (entry_of t name value)
added_by t (deleted d) = 0
added_by t (freed j) = 0

unfoldable pub removed_by : Contents → Happened → ℕ
removed_by t (inserted j name value) = 0
removed_by t (deleted d) = 0
removed_by t (freed j) = size_in (t j)

-- the sum over all that happened, from these contents on
unfoldable pub sum_of : (Contents → Happened → ℕ) → Contents → List Happened → ℕ
sum_of by t [] = 0
sum_of by t (x ∷ xs) = by t x + sum_of by (contents_by t x) xs
