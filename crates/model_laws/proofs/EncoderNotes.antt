-- The encoder's inserts and deletes as notes, which keep the entry that the encoder means: on the wire a note is the instruction written.
-- By the cases of the choice of name.
use mathlib.Core.Path.{◌≡◌, refl, sym, ap, ◌∙◌}
use Prim.Native.Nat.{ℕ, ◌<◌}
use mathlib.Core.Bool.{true}
use mathlib.Core.List.{List}
use Rattle.memory.specs.Choice.{pick}
use Rattle.memory.proofs.Order.{pick_true, pick-false}
use Rattle.wire.specs.Name.{Name, indexed as indexed_name, literal as by_bytes}
use Rattle.statics.specs.Table.{Entry}
use Rattle.instructions.specs.Instruction.{insert}
use Rattle.blocks.specs.Meaning.{is_static}
use Rattle.blocks.proofs.MeaningHeld.{static-above}
use Rattle.model.specs.Table.{Ascending}
use Rattle.model.specs.Encoder.{Sent, sent_index, choose_name, delete_of_sent}
use Rattle.model_laws.proofs.Slots.Machine.{own_name, insert_slot}
use Rattle.model_laws.proofs.Slots.Messages.{Note, note_insert, note_named, note_delete, on_wire}
use Rattle.model_laws.proofs.View.{lists_sent, source_of, slot_instruction}
use Rattle.model_laws.proofs.EncoderItems.{found-high, Chosen, by-string, by-static, by-entry, name-chosen}

-- the insert of c at i under this name
unfoldable pub note_by : ℕ → Entry → Name → Note
note_by i c (by_bytes name) = note_insert i c
note_by i c (indexed_name j) = pick (is_static j) (note_insert i c) (note_named i j c)

abbrev pub note_of : List Sent → ℕ → List ℕ → List ℕ → Note
note_of l i name value = note_by i (record { name = name; value = value }) (choose_name l name)

pub note-static : (i j : ℕ) (c : Entry) → is_static j ≡ true → note_by i c (indexed_name j) ≡ note_insert i c
unfolding note_by
note-static i j c h = pick_true (is_static j) (note_insert i c) (note_named i j c) h

pub note-dynamic : (i j : ℕ) (c : Entry) → 61 < j → note_by i c (indexed_name j) ≡ note_named i j c
unfolding note_by
note-dynamic i j c h = pick-false (is_static j) (note_insert i c) (note_named i j c) (static-above j h)

-- on the wire it is what the note says
pub note-wire : (l : List Sent) → Ascending sent_index 62 l → (i : ℕ) (name value : List ℕ)
    → slot_instruction (insert i (choose_name l name) value) ≡ on_wire (note_of l i name value)
unfolding slot_instruction source_of note_by
note-wire l a i name value = go (choose_name l name) (name-chosen l a name)
  where
    go : (n : Name) → Chosen l a name n → insert_slot i (source_of n value) ≡ on_wire (note_by i (record { name = name; value = value }) n)
    go n (by-string q) = rw q refl
    go n (by-static j static same q) =
        rw q
        (ap (insert_slot i) (pick_true (is_static j) _ _ static) ∙ (λ k. insert_slot i (own_name (record { name = same k; value = value })))
        ∙ ap on_wire (sym (note-static i j (record { name = name; value = value }) static)))
    go n (by-entry e found same lives q) =
        let high = found-high l a e.index e found in
        rw q
        (ap (insert_slot i) (pick-false (is_static e.index) _ _ (static-above e.index high))
        ∙ ap on_wire (sym (note-dynamic i e.index (record { name = name; value = value }) high)))

pub delete-wire : (e : Sent) → slot_instruction (delete_of_sent e) ≡ on_wire (note_delete e.index (lists_sent e))
unfolding slot_instruction
delete-wire e = refl
