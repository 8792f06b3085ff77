-- The decoder collects and marks, the encoder reads acknowledgements: the invariant is kept. A ready slot is referred to by no block in an
-- unfinished part, since its lists name every part that refers to it.
use mathlib.Core.Path.{◌≡◌, ap, ◌∙◌}
use mathlib.Core.Logic.{◌≢◌, ◌⊎◌, inl, inr}
use Prim.Native.Nat.{ℕ, ◌-◌, ◌≤◌}
use mathlib.Core.Bool.{true, false}
use mathlib.Core.Option.{none, some}
use mathlib.Core.List.{List, [], ◌∷◌, ◌++◌, append-nil}
use native.Mathlib.Omega.{arith}
use Rattle.statics.specs.Table.{Entry}
use Rattle.model.specs.Table.{size}
use Rattle.model.specs.Parts.{Marks}
use Rattle.model_laws.proofs.Tables.{nope}
use Rattle.model_laws.proofs.Slots.Functions.{set_at, set_here, set-elsewhere, same_or_not}
use Rattle.model_laws.proofs.Slots.Machine.{StreamPart, marked_at, DeleteLists, named_parts, all_marked, empty_slot, deleted_slot, entry_in}
use Rattle.model_laws.proofs.Slots.Machine.{with_marks, size_of, free_at, set_slot, all-marked}
use Rattle.model_laws.proofs.Slots.Life.{Fits, fits-free, fits-live, fits-deleted, fits-freed, GoodSlot, leads_empty, deleted-good, collect-good}
use Rattle.model_laws.proofs.Slots.Life.{AckTaken, ack-good}
use Rattle.model_laws.proofs.Slots.Messages.{free_sent, live_sent, deleted_sent, FreedNote, messages, ack_about, acks, acks-snoc, ack-hit, ack-miss}
use Rattle.model_laws.proofs.Slots.Invariant.{Link, with_encoder, with_decoder, with_acks, InsertUnread, freed_size, Reference, GoodSlots, Invariant, references-step}
use Rattle.model_laws.proofs.Slots.Unread.{freed_size-snoc, unread-none}

-- ---- the encoder reads an acknowledgement
unfoldable pub after_ack : Link → FreedNote → List FreedNote → Link
after_ack L a rest = with_acks (with_encoder L (set_at a.slot free_sent L.encoder_slots) (L.encoder_filled - size a.entry)) rest

acks-hit : (a : FreedNote) (rest : List FreedNote) → acks a.slot (a ∷ rest) ≡ a.entry ∷ acks a.slot rest
unfolding acks
acks-hit a rest = rw (ack-hit a.slot a.entry)

acks-miss : (a : FreedNote) (rest : List FreedNote) (i : ℕ) → a.slot ≢ i → acks i (a ∷ rest) ≡ acks i rest
unfolding acks
acks-miss a rest i n = rw (ack-miss a.slot i a.entry n)

module _ (L : Link) (a : FreedNote) (rest : List FreedNote) (h : L.unread_acks ≡ a ∷ rest) (I : Invariant L) where
  -- it is accepted: the slot is under deletion
  pub ack-taken : AckTaken (L.encoder_slots a.slot) (L.decoder.slots a.slot) (messages a.slot L.unread) (acks a.slot rest) a.entry
  ack-taken = ack-good _ _ _ _ a.entry (rw (h, acks-hit a rest) at (I.slots a.slot))

  ack-slots : GoodSlots (set_at a.slot free_sent L.encoder_slots) L.decoder.slots L.unread rest
  ack-slots i = same_or_not a.slot i hit miss
    where
      hit : a.slot ≡ i → GoodSlot (set_at a.slot free_sent L.encoder_slots i) (L.decoder.slots i) (messages i L.unread) (acks i rest)
      hit e = rw (← e) (rw (set_here a.slot free_sent L.encoder_slots) ack-taken.good)

      miss : a.slot ≢ i → GoodSlot (set_at a.slot free_sent L.encoder_slots i) (L.decoder.slots i) (messages i L.unread) (acks i rest)
      miss e = rw (set-elsewhere a.slot i free_sent L.encoder_slots e) (rw (h, acks-miss a rest i e) at (I.slots i))

  -- nobody refers to it any more: it is vacant at the decoder and nothing is unread about it
  ack-empty : (messages a.slot L.unread ≡ []) × (entry_in (L.decoder.slots a.slot) ≡ none)
  ack-empty = go ack-taken.good.fits
    where
      go : Fits free_sent ack-taken.good.then (acks a.slot rest) → (messages a.slot L.unread ≡ []) × (entry_in (L.decoder.slots a.slot) ≡ none)
      go (fits-free x y z) =
          let o = leads_empty (messages a.slot L.unread) (L.decoder.slots a.slot) ack-taken.good.then (ap entry_in y) ack-taken.good.leads in
          (o.0, ap entry_in (o.1 ∙ y))
      go (fits-live x y p q r) = nope (cc)
      go (fits-deleted x y p q r) = nope (cc)
      go (fits-freed x y p q r) = nope (cc)

  ack-reference : (q : StreamPart) (k i : ℕ) (c : Entry) → Reference L.encoder_slots L.decoder.slots L.unread q k i c
      → Reference (set_at a.slot free_sent L.encoder_slots) L.decoder.slots L.unread q k i c
  ack-reference q k i c r =
      same_or_not a.slot i (λ e. absurd (hit e r.here))
      (λ e. record { lists = r.lists; holds = rw (set-elsewhere a.slot i free_sent L.encoder_slots e) r.holds; covers = r.covers; here = r.here })
    where
      hit : a.slot ≡ i → (entry_in (L.decoder.slots i) ≡ some c) ⊎ InsertUnread k i c L.unread → ⊥
      hit e (inl x) = let v = rw e at ack-empty.1 in nope (cc)
      hit e (inr x) = unread-none k i c L.unread (rw e at ack-empty.0) x

  pub ack-invariant : Invariant (after_ack L a rest)
  unfolding after_ack freed_size
  ack-invariant = record {
    slots = ack-slots;
    sizes = let s = ap freed_size h in let z = I.sizes in omega arith;
    room = let z = I.room in omega arith;
    numbers = I.numbers;
    references = references-step L.blocks _ _ _ _ _ _ _ _ (λ q x. x) (λ q n i x u r. ack-reference q n i x r) I.references;
  }

-- ---- the decoder's finished parts grow (a trailer block answered "done", "over", "ended")
pub marks-invariant : (L : Link) (f : Marks) → ((q : StreamPart) → marked_at L.decoder.finished q ≡ true → marked_at f q ≡ true) → Invariant L
    → Invariant (with_decoder L (with_marks L.decoder f))
marks-invariant L f mono I = record {
  slots = I.slots;
  sizes = I.sizes;
  room = I.room;
  numbers = I.numbers;
  references = references-step L.blocks _ _ _ _ _ _ _ _ mono (λ q n i x u r. r) I.references;
}

-- ---- the decoder collects a ready slot
unfoldable pub after_collect : Link → ℕ → Entry → Link
after_collect L k c = with_acks (with_decoder L (free_at L.decoder k)) (L.unread_acks ++ (record { slot = k; entry = c } ∷ []))

module _ (L : Link) (k : ℕ) (c : Entry) (ls : DeleteLists) (d : L.decoder.slots k ≡ deleted_slot c ls)
    (all : all_marked L.decoder.finished (named_parts ls) ≡ true) (s : size c ≤ L.decoder.filled) (I : Invariant L) where
  collect-slots : GoodSlots L.encoder_slots (set_at k empty_slot L.decoder.slots) L.unread (L.unread_acks ++ (record { slot = k; entry = c } ∷ []))
  collect-slots i = rw acks-snoc (same_or_not k i hit miss)
    where
      hit : k ≡ i → GoodSlot (L.encoder_slots i) (set_at k empty_slot L.decoder.slots i) (messages i L.unread)
          (acks i L.unread_acks ++ ack_about i (record { slot = k; entry = c }))
      hit e =
          rw (← e, set_here k empty_slot L.decoder.slots, ack-hit k c)
          (collect-good (L.encoder_slots k) (L.decoder.slots k) (messages k L.unread) (acks k L.unread_acks) c ls d (I.slots k))

      miss : k ≢ i → GoodSlot (L.encoder_slots i) (set_at k empty_slot L.decoder.slots i) (messages i L.unread)
          (acks i L.unread_acks ++ ack_about i (record { slot = k; entry = c }))
      miss e = rw (set-elsewhere k i empty_slot L.decoder.slots e, ack-miss k i c e, append-nil (acks i L.unread_acks)) (I.slots i)

  -- a ready slot is referred to by no block whose part is unfinished
  collect-reference : (q : StreamPart) (n i : ℕ) (x : Entry) → marked_at L.decoder.finished q ≡ false
      → Reference L.encoder_slots L.decoder.slots L.unread q n i x
      → Reference L.encoder_slots (set_at k empty_slot L.decoder.slots) L.unread q n i x
  collect-reference q n i x u r =
      same_or_not k i (λ e. absurd (hit e r.holds))
      (λ e. record { lists = r.lists; holds = r.holds; covers = r.covers; here = rw (set-elsewhere k i empty_slot L.decoder.slots e) r.here })
    where
      gone : k ≡ i → L.encoder_slots i ≡ deleted_sent c ls
      gone e = rw e at (deleted-good (L.encoder_slots k) (L.decoder.slots k) (messages k L.unread) (acks k L.unread_acks) c ls d (I.slots k)).0

      hit : k ≡ i → (L.encoder_slots i ≡ live_sent x r.lists) ⊎ (L.encoder_slots i ≡ deleted_sent x r.lists) → ⊥
      hit e (inl h) = let g = gone e in nope (cc)
      hit e (inr h) =
          let g = gone e in
          let t : r.lists ≡ ls = cc in
          let f = all-marked L.decoder.finished (named_parts ls) q all (rw t at r.covers) in nope (cc)

  pub collect-invariant : Invariant (after_collect L k c)
  unfolding after_collect free_at set_slot freed_size
  collect-invariant = record {
    slots = collect-slots;
    sizes = let a = freed_size-snoc L.unread_acks (record { slot = k; entry = c }) in let z = I.sizes in let w = ap size_of d in omega arith;
    room = I.room;
    numbers = I.numbers;
    references = references-step L.blocks _ _ _ _ _ _ _ _ (λ q x. x) (λ q n i x u r. collect-reference q n i x u r) I.references;
  }
