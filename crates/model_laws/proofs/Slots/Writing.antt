-- The encoder inserts or deletes: the invariant is kept. The slot that changes gets one message more; what refers to it is kept, since a free slot
-- is referred to by nobody and a delete's lists name the parts that refer.
use mathlib.Core.Path.{◌≡◌, ap, ◌∙◌}
use mathlib.Core.Logic.{◌≢◌, ◌⊎◌, inl, inr}
use Prim.Native.Nat.{ℕ, ◌+◌, ◌≤◌}
use mathlib.Core.Option.{Option, some}
use mathlib.Core.List.{List, [], ◌∷◌, ◌++◌, append-nil, Memᴰ}
use native.Mathlib.Omega.{arith}
use Rattle.statics.specs.Table.{Entry}
use Rattle.model.specs.Table.{size}
use Rattle.model_laws.proofs.Tables.{nope}
use Rattle.model_laws.proofs.Slots.Functions.{set_at, set_here, set-elsewhere, same_or_not}
use Rattle.model_laws.proofs.Slots.Machine.{StreamPart, DeleteLists, named_parts, no_lists, DecoderSlots}
use Rattle.model_laws.proofs.Slots.Life.{GoodSlot, insert-good, name-good, delete-good}
use Rattle.model_laws.proofs.Slots.Messages.{EncoderSlot, free_sent, live_sent, deleted_sent, note_insert, note_named, note_delete, SentNote, FreedNote}
use Rattle.model_laws.proofs.Slots.Messages.{about, messages, acks, messages-snoc, insert-hit, insert-miss, named-hit, named-source, named-miss}
use Rattle.model_laws.proofs.Slots.Messages.{delete-hit, delete-miss}
use Rattle.model_laws.proofs.Slots.Invariant.{Link, with_encoder, with_note, InsertUnread, unread_size, Reference, GoodSlots, Invariant}
use Rattle.model_laws.proofs.Slots.Invariant.{references-step}
use Rattle.model_laws.proofs.Slots.Unread.{unread-snoc, numbers-snoc, unread_size-snoc}

-- ---- the encoder inserts, with a name of its own
unfoldable pub after_insert : Link → ℕ → Entry → Link
after_insert L k c = with_note (with_encoder L (set_at k (live_sent c no_lists) L.encoder_slots) (L.encoder_filled + size c)) (note_insert k c)

insert-slots : (enc : ℕ → EncoderSlot) (tab : DecoderSlots) (mq : List SentNote) (aq : List FreedNote) (n k : ℕ) (c : Entry) → enc k ≡ free_sent
    → GoodSlots enc tab mq aq
    → GoodSlots (set_at k (live_sent c no_lists) enc) tab (mq ++ (record { number = n; note = note_insert k c } ∷ [])) aq
insert-slots enc tab mq aq n k c h g i = rw messages-snoc (same_or_not k i hit miss)
  where
    hit : k ≡ i → GoodSlot (set_at k (live_sent c no_lists) enc i) (tab i) (messages i mq ++ about i (note_insert k c)) (acks i aq)
    hit e = rw (← e) (rw (set_here k (live_sent c no_lists) enc, insert-hit k c) (insert-good (enc k) (tab k) (messages k mq) (acks k aq) c no_lists h (g k)))

    miss : k ≢ i → GoodSlot (set_at k (live_sent c no_lists) enc i) (tab i) (messages i mq ++ about i (note_insert k c)) (acks i aq)
    miss e = rw (set-elsewhere k i (live_sent c no_lists) enc e, insert-miss k i c e, append-nil (messages i mq)) (g i)

here-more : (k i : ℕ) (c : Entry) (o : Option Entry) (m n : List SentNote) → (o ≡ some c) ⊎ InsertUnread k i c m → (o ≡ some c) ⊎ InsertUnread k i c (m ++ n)
here-more k i c o m n (inl h) = inl h
here-more k i c o m n (inr h) = inr (unread-snoc k i c m n h)

-- the encoder's slot that changes is not the one referred to
reference-other : (enc : ℕ → EncoderSlot) (tab : DecoderSlots) (mq n : List SentNote) (q : StreamPart) (k i : ℕ) (c : Entry) (j : ℕ) (s : EncoderSlot)
    → j ≢ i → Reference enc tab mq q k i c → Reference (set_at j s enc) tab (mq ++ n) q k i c
reference-other enc tab mq n q k i c j s e r =
    record { lists = r.lists; holds = rw (set-elsewhere j i s enc e) r.holds; covers = r.covers; here = here-more k i c _ mq n r.here }

-- a free slot is referred to by nobody
reference-free : (enc : ℕ → EncoderSlot) (tab : DecoderSlots) (mq n : List SentNote) (q : StreamPart) (k i : ℕ) (c : Entry) (j : ℕ) (s : EncoderSlot)
    → enc j ≡ free_sent → Reference enc tab mq q k i c → Reference (set_at j s enc) tab (mq ++ n) q k i c
reference-free enc tab mq n q k i c j s h r = reference-other enc tab mq n q k i c j s (λ e. go e r.holds) r
  where
    go : j ≡ i → (enc i ≡ live_sent c r.lists) ⊎ (enc i ≡ deleted_sent c r.lists) → ⊥
    go e (inl x) = nope (cc)
    go e (inr x) = nope (cc)

pub insert-invariant : (L : Link) (k : ℕ) (c : Entry) → L.encoder_slots k ≡ free_sent → L.encoder_filled + size c ≤ L.decoder.limit → Invariant L
    → Invariant (after_insert L k c)
unfolding after_insert unread_size
insert-invariant L k c h w I = record {
  slots = insert-slots L.encoder_slots L.decoder.slots L.unread L.unread_acks L.written_count k c h I.slots;
  sizes = let s = unread_size-snoc L.unread (record { number = L.written_count; note = note_insert k c }) in let z = I.sizes in omega arith;
  room = w;
  numbers = numbers-snoc L.written_count L.unread _ I.numbers (omega arith);
  references =
      references-step L.blocks _ _ _ _ _ _ _ _ (λ q x. x)
      (λ q n i x u r. reference-free L.encoder_slots L.decoder.slots L.unread _ q n i x k (live_sent c no_lists) h r) I.references;
}

-- ---- the encoder inserts, with the name of a live slot j
unfoldable pub after_named : Link → ℕ → ℕ → Entry → Link
after_named L k j c = with_note (with_encoder L (set_at k (live_sent c no_lists) L.encoder_slots) (L.encoder_filled + size c)) (note_named k j c)

named-slots : (enc : ℕ → EncoderSlot) (tab : DecoderSlots) (mq : List SentNote) (aq : List FreedNote) (n k j : ℕ) (c x : Entry) (ls : DeleteLists)
    → enc k ≡ free_sent → enc j ≡ live_sent x ls → x.name ≡ c.name → GoodSlots enc tab mq aq
    → GoodSlots (set_at k (live_sent c no_lists) enc) tab (mq ++ (record { number = n; note = note_named k j c } ∷ [])) aq
named-slots enc tab mq aq n k j c x ls h l w g i = rw messages-snoc (same_or_not k i hit (λ e. same_or_not j i (named e) (miss e)))
  where
    differ : j ≢ k
    differ e = let p = ap enc e in nope (cc)

    hit : k ≡ i → GoodSlot (set_at k (live_sent c no_lists) enc i) (tab i) (messages i mq ++ about i (note_named k j c)) (acks i aq)
    hit e =
        rw (← e) (rw (set_here k (live_sent c no_lists) enc, named-hit k j c differ)
        (insert-good (enc k) (tab k) (messages k mq) (acks k aq) c no_lists h (g k)))

    named : k ≢ i → j ≡ i → GoodSlot (set_at k (live_sent c no_lists) enc i) (tab i) (messages i mq ++ about i (note_named k j c)) (acks i aq)
    named e f =
        let e' : k ≢ j = λ p. e (p ∙ f) in
        rw (← f) (rw (set-elsewhere k j (live_sent c no_lists) enc e', named-source k j c e')
        (name-good (enc j) (tab j) (messages j mq) (acks j aq) x ls c.name l w (g j)))

    miss : k ≢ i → j ≢ i → GoodSlot (set_at k (live_sent c no_lists) enc i) (tab i) (messages i mq ++ about i (note_named k j c)) (acks i aq)
    miss e f = rw (set-elsewhere k i (live_sent c no_lists) enc e, named-miss k j i c e f, append-nil (messages i mq)) (g i)

pub named-invariant : (L : Link) (k j : ℕ) (c x : Entry) (ls : DeleteLists) → L.encoder_slots k ≡ free_sent → L.encoder_slots j ≡ live_sent x ls
    → x.name ≡ c.name
    → L.encoder_filled + size c ≤ L.decoder.limit → Invariant L → Invariant (after_named L k j c)
unfolding after_named unread_size
named-invariant L k j c x ls h l v w I = record {
  slots = named-slots L.encoder_slots L.decoder.slots L.unread L.unread_acks L.written_count k j c x ls h l v I.slots;
  sizes = let s = unread_size-snoc L.unread (record { number = L.written_count; note = note_named k j c }) in let z = I.sizes in omega arith;
  room = w;
  numbers = numbers-snoc L.written_count L.unread _ I.numbers (omega arith);
  references =
      references-step L.blocks _ _ _ _ _ _ _ _ (λ q x. x)
      (λ q n i x u r. reference-free L.encoder_slots L.decoder.slots L.unread _ q n i x k (live_sent c no_lists) h r) I.references;
}

-- ---- the encoder deletes; the lists written name at least the parts that refer
unfoldable pub after_delete : Link → ℕ → Entry → DeleteLists → Link
after_delete L k c ls = with_note (with_encoder L (set_at k (deleted_sent c ls) L.encoder_slots) L.encoder_filled) (note_delete k ls)

delete-slots : (enc : ℕ → EncoderSlot) (tab : DecoderSlots) (mq : List SentNote) (aq : List FreedNote) (n k : ℕ) (c : Entry) (ls ls' : DeleteLists)
    → enc k ≡ live_sent c ls → GoodSlots enc tab mq aq
    → GoodSlots (set_at k (deleted_sent c ls') enc) tab (mq ++ (record { number = n; note = note_delete k ls' } ∷ [])) aq
delete-slots enc tab mq aq n k c ls ls' h g i = rw messages-snoc (same_or_not k i hit miss)
  where
    hit : k ≡ i → GoodSlot (set_at k (deleted_sent c ls') enc i) (tab i) (messages i mq ++ about i (note_delete k ls')) (acks i aq)
    hit e = rw (← e) (rw (set_here k (deleted_sent c ls') enc, delete-hit k ls') (delete-good (enc k) (tab k) (messages k mq) (acks k aq) c ls ls' h (g k)))

    miss : k ≢ i → GoodSlot (set_at k (deleted_sent c ls') enc i) (tab i) (messages i mq ++ about i (note_delete k ls')) (acks i aq)
    miss e = rw (set-elsewhere k i (deleted_sent c ls') enc e, delete-miss k i ls' e, append-nil (messages i mq)) (g i)

delete-reference : (enc : ℕ → EncoderSlot) (tab : DecoderSlots) (mq n : List SentNote) (q : StreamPart) (k i : ℕ) (c : Entry) (j : ℕ) (x : Entry)
    (ls ls' : DeleteLists)
    → enc j ≡ live_sent x ls → ((p : StreamPart) → Memᴰ p (named_parts ls) → Memᴰ p (named_parts ls'))
    → Reference enc tab mq q k i c → Reference (set_at j (deleted_sent x ls') enc) tab (mq ++ n) q k i c
delete-reference enc tab mq n q k i c j x ls ls' h sup r =
    same_or_not j i (λ e. go e r.holds)
    (λ e. reference-other enc tab mq n q k i c j (deleted_sent x ls') e r)
  where
    go : j ≡ i → (enc i ≡ live_sent c r.lists) ⊎ (enc i ≡ deleted_sent c r.lists) → Reference (set_at j (deleted_sent x ls') enc) tab (mq ++ n) q k i c
    go e (inl y) =
        let p : x ≡ c = cc in
        let t : r.lists ≡ ls = cc in
        record {
          lists = ls';
          holds = inr (rw (← e) (set_here j (deleted_sent x ls') enc ∙ rw p));
          covers = sup q (rw t at r.covers);
          here = here-more k i c _ mq n r.here;
        }
    go e (inr y) = nope (cc)

pub delete-invariant : (L : Link) (k : ℕ) (c : Entry) (ls ls' : DeleteLists) → L.encoder_slots k ≡ live_sent c ls
    → ((p : StreamPart) → Memᴰ p (named_parts ls) → Memᴰ p (named_parts ls'))
    → Invariant L → Invariant (after_delete L k c ls')
unfolding after_delete unread_size
delete-invariant L k c ls ls' h sup I = record {
  slots = delete-slots L.encoder_slots L.decoder.slots L.unread L.unread_acks L.written_count k c ls ls' h I.slots;
  sizes = let s = unread_size-snoc L.unread (record { number = L.written_count; note = note_delete k ls' }) in let z = I.sizes in omega arith;
  room = I.room;
  numbers = numbers-snoc L.written_count L.unread _ I.numbers (omega arith);
  references =
      references-step L.blocks _ _ _ _ _ _ _ _ (λ q x. x)
      (λ q n i x u r. delete-reference L.encoder_slots L.decoder.slots L.unread _ q n i x k c ls ls' h sup r) I.references;
}
