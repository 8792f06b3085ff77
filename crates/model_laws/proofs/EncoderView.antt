-- Each call of the encoder keeps the invariant of the slots: an insert, a delete, a block, and an acknowledgement read. By the cases of the
-- choice of name, and the laws of the table's changes.
use mathlib.Core.Path.{◌≡◌, sym, ap, ◌∙◌}
use Prim.Native.Nat.{ℕ, ◌+◌, ◌-◌, ◌≤◌}
use native.Mathlib.Omega.{arith}
use mathlib.Core.Bool.{false}
use mathlib.Core.Option.{none, some}
use mathlib.Core.List.{List, ◌∷◌, map}
use Rattle.memory.proofs.Order.{need-true}
use Rattle.wire.specs.Name.{Name}
use Rattle.statics.specs.Table.{Entry}
use Rattle.fields.specs.Form.{Field}
use Rattle.model.specs.Table.{size, look, put, cut, vacant_from}
use Rattle.model.specs.Parts.{Part}
use Rattle.model.specs.Outcome.{nothing, finish}
use Rattle.model.specs.Encoder.{Sent, sent_index, Encoder, sent_size, choose_name, choose, new_sent, mark_deleted, refer, FormsEncoder, with_sent}
use Rattle.model.specs.Encoder.{acknowledge_found, read_ack}
use Rattle.model_laws.proofs.Tables.{look-index, vacant-free}
use Rattle.model_laws.proofs.Slots.Functions.{set_at}
use Rattle.model_laws.proofs.Slots.Machine.{StreamPart, no_lists}
use Rattle.model_laws.proofs.Slots.Messages.{EncoderSlot, free_sent, live_sent, deleted_sent, Note, note_insert, note_named, note_delete, FreedNote}
use Rattle.model_laws.proofs.Slots.Invariant.{MeantItem, Link, with_encoder, with_note, with_acks, with_block, Invariant, EachReference}
use Rattle.model_laws.proofs.Slots.Writing.{after_insert, after_named, after_delete, insert-invariant, named-invariant, delete-invariant}
use Rattle.model_laws.proofs.Slots.Referring.{after_block, Grown, NewReference, block-invariant}
use Rattle.model_laws.proofs.Slots.Freeing.{after_ack, ack-taken, ack-invariant}
use Rattle.model_laws.proofs.View.{lists_sent, slots_sent}
use Rattle.model_laws.proofs.EncoderSlots.{slots-free, slots-live, DeletedEntry, slots-deleted, slots-put, slots-cut, slots-delete, size-put}
use Rattle.model_laws.proofs.EncoderSlots.{size-cut, size-delete, size-refer}
use Rattle.model_laws.proofs.EncoderItems.{meant_items, found-high, Chosen, by-string, by-static, by-entry, name-chosen}
use Rattle.model_laws.proofs.EncoderBlocks.{block-grown, block-fresh}
use Rattle.model_laws.proofs.EncoderNotes.{note_by, note_of, note-static, note-dynamic}

-- ---- the link after a call of the encoder that left these entries

abbrev pub said_to : Link → List Sent → Note → Link
said_to L l note = with_note (with_encoder L (slots_sent l) (sent_size l)) note

abbrev pub wrote_to : Link → List Sent → StreamPart → List MeantItem → Link
wrote_to L l q b = with_block (with_encoder L (slots_sent l) (sent_size l)) q b

abbrev pub acked_to : Link → List Sent → List FreedNote → Link
acked_to L l rest = with_acks (with_encoder L (slots_sent l) (sent_size l)) rest

-- the acknowledgement of an entry under deletion is accepted
pub ack-done : (E : Encoder) (i : ℕ) (c : Entry) (g : DeletedEntry E.entries i c) (taken : ℕ)
    → read_ack E i taken ≡ finish (with_sent E (cut sent_index g.sent.index E.entries)) taken 0 nothing
unfolding read_ack acknowledge_found
ack-done E i c g taken = ap (acknowledge_found E taken) g.found ∙ need-true g.sent.deleted _ _ g.deleted

-- an encoder whose table is the link's
module _ (E : Encoder) (F : FormsEncoder E) (L : Link) (enc : L.encoder_slots ≡ slots_sent E.entries) (hold : L.encoder_filled ≡ sent_size E.entries) where
  slot : (k : ℕ) → L.encoder_slots k ≡ slots_sent E.entries k
  slot k = ap (λ (t : ℕ → EncoderSlot). t k) enc

  -- an insert: the new index is free; a dynamic name is that of a live slot
  pub insert-kept : E.limit ≤ L.decoder.limit → (i : ℕ) → i ≡ vacant_from sent_index 62 E.entries → (name value : List ℕ)
      → sent_size E.entries + size (record { name = name; value = value }) ≤ E.limit → Invariant L
      → Invariant (said_to L (put sent_index (new_sent i name value) E.entries) (note_of E.entries i name value))
  unfolding note_by after_insert after_named
  insert-kept below i at name value fits I = go (choose_name E.entries name) (name-chosen E.entries F.order name)
    where
      vacant : look sent_index i E.entries ≡ none
      vacant = rw at (vacant-free sent_index 62 E.entries F.order)

      free : L.encoder_slots i ≡ free_sent
      free = slot i ∙ slots-free E.entries i vacant

      room : L.encoder_filled + size (record { name = name; value = value }) ≤ L.decoder.limit
      room = omega arith

      table : slots_sent (put sent_index (new_sent i name value) E.entries)
          ≡ set_at i (live_sent (record { name = name; value = value }) no_lists) L.encoder_slots
      table =
          slots-put E.entries (new_sent i name value) vacant
          ∙ ap (set_at i (live_sent (record { name = name; value = value }) no_lists)) (sym enc)

      sizes : sent_size (put sent_index (new_sent i name value) E.entries) ≡ L.encoder_filled + size (record { name = name; value = value })
      sizes = size-put E.entries (new_sent i name value) ∙ ap (λ (t : ℕ). t + size (record { name = name; value = value })) (sym hold)

      to : (n : Note) → said_to L (put sent_index (new_sent i name value) E.entries) n ≡
          with_note (with_encoder L (set_at i (live_sent (record { name = name; value = value }) no_lists) L.encoder_slots)
          (L.encoder_filled + size (record { name = name; value = value }))) n
      to n k = with_note (with_encoder L (table k) (sizes k)) n

      alone : Invariant (said_to L (put sent_index (new_sent i name value) E.entries) (note_insert i (record { name = name; value = value })))
      alone = rw (to (note_insert i (record { name = name; value = value }))) (insert-invariant L i (record { name = name; value = value }) free room I)

      go : (n : Name) → Chosen E.entries F.order name n
          → Invariant (said_to L (put sent_index (new_sent i name value) E.entries) (note_by i (record { name = name; value = value }) n))
      go n (by-string q) = rw q alone
      go n (by-static j static same q) = rw (q, note-static i j (record { name = name; value = value }) static) alone
      go n (by-entry e found same lives q) =
          rw (q, note-dynamic i e.index (record { name = name; value = value }) (found-high E.entries F.order e.index e found))
          (rw (to (note_named i e.index (record { name = name; value = value })))
          (named-invariant L i e.index (record { name = name; value = value }) e.entry (lists_sent e) free
          (slot e.index ∙ slots-live E.entries e.index e found lives) same room I))

  -- a delete: the slot was live, and is written with its horizons
  pub delete-kept : (i : ℕ) (e : Sent) → look sent_index i E.entries ≡ some e → e.deleted ≡ false → Invariant L
      → Invariant (said_to L (map (mark_deleted e.index) E.entries) (note_delete e.index (lists_sent e)))
  unfolding after_delete
  delete-kept i e found lives I =
      let here : look sent_index e.index E.entries ≡ some e
      = ap (λ (j : ℕ). look sent_index j E.entries) (look-index sent_index i E.entries e found) ∙ found in
      let to : said_to L (map (mark_deleted e.index) E.entries) (note_delete e.index (lists_sent e)) ≡ after_delete L e.index e.entry (lists_sent e)
      = λ k.
      with_note (with_encoder L ((slots-delete E.entries e.index e here ∙ ap (set_at e.index (deleted_sent e.entry (lists_sent e))) (sym enc)) k)
      ((size-delete E.entries e.index ∙ sym hold) k)) (note_delete e.index (lists_sent e)) in
      rw to
      (delete-invariant L e.index e.entry (lists_sent e) (lists_sent e) (slot e.index ∙ slots-live E.entries e.index e here lives) (λ p m. m) I)

  -- a block: the slots that it names are live, and remember its part
  module _ (s : ℕ) (p : Part) (fs : List Field) where
    abbrev after : List Sent
    after = map (refer s p (map (choose E.entries) fs)) E.entries

    abbrev items : List MeantItem
    items = meant_items E.entries fs

    grown : Grown L.encoder_slots (slots_sent after)
    grown = rw enc (block-grown E.entries F.order s p fs)

    fresh : EachReference (NewReference L.encoder_slots (slots_sent after) (record { stream = s; part = p })) items
    fresh = rw enc (block-fresh E.entries F.order s p fs)

    to_block : wrote_to L after (record { stream = s; part = p }) items ≡ after_block L (record { stream = s; part = p }) items (slots_sent after)
    unfolding after_block
    to_block k =
        with_block (with_encoder L (slots_sent after) ((size-refer E.entries s p (map (choose E.entries) fs) ∙ sym hold) k))
        (record { stream = s; part = p }) items

    pub block-kept : Invariant L → Invariant (wrote_to L after (record { stream = s; part = p }) items)
    block-kept I = rw to_block (block-invariant L (record { stream = s; part = p }) items (slots_sent after) grown fresh I)

  -- an acknowledgement that is next to be read is of an entry under deletion
  pub ack-found : Invariant L → (a : FreedNote) (rest : List FreedNote) → L.unread_acks ≡ a ∷ rest → DeletedEntry E.entries a.slot a.entry
  ack-found I a rest h =
      let t = ack-taken L a rest h I in slots-deleted E.entries a.slot a.entry t.lists (sym (slot a.slot) ∙ t.was-gone)

  pub ack-kept : (a : FreedNote) (rest : List FreedNote) → L.unread_acks ≡ a ∷ rest → (e : Sent) → look sent_index a.slot E.entries ≡ some e
      → e.entry ≡ a.entry
      → Invariant L → Invariant (acked_to L (cut sent_index e.index E.entries) rest)
  unfolding after_ack
  ack-kept a rest h e found was I =
      let x : e.index ≡ a.slot = look-index sent_index a.slot E.entries e found in
      let to : acked_to L (cut sent_index a.slot E.entries) rest ≡ after_ack L a rest
      = λ k.
      with_acks (with_encoder L ((slots-cut E.entries a.slot 62 F.order ∙ ap (set_at a.slot free_sent) (sym enc)) k)
      ((size-cut E.entries a.slot e found ∙ (λ j. sym hold j - size (was j))) k)) rest in
      rw (x, to) (ack-invariant L a rest h I)
