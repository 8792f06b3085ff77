-- The encoder writes a block: the invariant is kept. The slots that it names are live and remember its part, and what a live slot holds is held
-- by the decoder or inserted by an unread instruction.
use mathlib.Core.Path.{◌≡◌, sym, ap, ◌∙◌, subst}
use mathlib.Core.Logic.{◌⊎◌, inl, inr}
use Prim.Native.Nat.{ℕ}
use mathlib.Core.Option.{some}
use mathlib.Core.List.{List, ◌∷◌, Memᴰ}
use Rattle.statics.specs.Table.{Entry}
use Rattle.model_laws.proofs.Tables.{nope}
use Rattle.model_laws.proofs.Slots.Machine.{StreamPart, DeleteLists, named_parts, DecoderSlot, entry_in, DecoderSlots}
use Rattle.model_laws.proofs.Slots.Life.{Fits, fits-free, fits-live, fits-deleted, fits-freed, GoodSlot, refer-good}
use Rattle.model_laws.proofs.Slots.Messages.{EncoderSlot, live_sent, deleted_sent, SentNote, FreedNote, SlotMessage, messages, acks}
use Rattle.model_laws.proofs.Slots.Invariant.{MeantItem, EachReference, references-map, WrittenBlock, Link, Reference, GoodSlots, AllReferences}
use Rattle.model_laws.proofs.Slots.Invariant.{with_encoder, with_block, Invariant}
use Rattle.model_laws.proofs.Slots.Unread.{came_from}

-- ---- the encoder writes a block; the slots that it refers to remember its part
pub record Grows (s t : EncoderSlot) : Type 0 where
  pub entry : Entry
  pub older : DeleteLists
  pub newer : DeleteLists
  pub from-live : s ≡ live_sent entry older
  pub to-live : t ≡ live_sent entry newer
  pub more : (p : StreamPart) → Memᴰ p (named_parts older) → Memᴰ p (named_parts newer)

abbrev pub Grown : (ℕ → EncoderSlot) → (ℕ → EncoderSlot) → Type 0
Grown enc enc' = (i : ℕ) → (enc' i ≡ enc i) ⊎ Grows (enc i) (enc' i)

-- a new reference: to a live slot, which then remembers q
pub record NewReference (enc enc' : ℕ → EncoderSlot) (q : StreamPart) (i : ℕ) (c : Entry) : Type 0 where
  pub lists : DeleteLists
  pub lists' : DeleteLists
  pub before : enc i ≡ live_sent c lists
  pub behind : enc' i ≡ live_sent c lists'
  pub noted : Memᴰ q (named_parts lists')

unfoldable pub after_block : Link → StreamPart → List MeantItem → (ℕ → EncoderSlot) → Link
after_block L q b enc' = with_block (with_encoder L enc' L.encoder_filled) q b

block-slots : (enc enc' : ℕ → EncoderSlot) (tab : DecoderSlots) (mq : List SentNote) (aq : List FreedNote) → Grown enc enc' → GoodSlots enc tab mq aq
    → GoodSlots enc' tab mq aq
block-slots enc enc' tab mq aq w g i = go (w i)
  where
    go : (enc' i ≡ enc i) ⊎ Grows (enc i) (enc' i) → GoodSlot (enc' i) (tab i) (messages i mq) (acks i aq)
    go (inl e) = rw e (g i)
    go (inr r) = rw r.to-live (refer-good (enc i) (tab i) (messages i mq) (acks i aq) r.entry r.older r.newer r.from-live (g i))

block-reference : (enc enc' : ℕ → EncoderSlot) (tab : DecoderSlots) (mq : List SentNote) (q : StreamPart) (k i : ℕ) (c : Entry) → Grown enc enc'
    → Reference enc tab mq q k i c → Reference enc' tab mq q k i c
block-reference enc enc' tab mq q k i c w r = go (w i) r.holds
  where
    go : (enc' i ≡ enc i) ⊎ Grows (enc i) (enc' i) → (enc i ≡ live_sent c r.lists) ⊎ (enc i ≡ deleted_sent c r.lists) → Reference enc' tab mq q k i c
    go (inl e) h = record { lists = r.lists; holds = rw e h; covers = r.covers; here = r.here }
    go (inr s) (inl h) =
        let f = s.from-live in
        let p : s.entry ≡ c = cc in
        let t : r.lists ≡ s.older = cc in
        record { lists = s.newer; holds = inl (s.to-live ∙ rw p); covers = s.more q (rw t at r.covers); here = r.here }
    go (inr s) (inr h) = let f = s.from-live in nope (cc)

live_here : (e : EncoderSlot) (d : DecoderSlot) (m : List SlotMessage) (a : List Entry) (c : Entry) (ls : DeleteLists) → e ≡ live_sent c ls
    → (g : GoodSlot e d m a) → entry_in g.then ≡ some c
live_here e d m a c ls h g = go g.fits
  where
    go : Fits e g.then a → entry_in g.then ≡ some c
    go (fits-free x y z) = nope (cc)
    go (fits-live x y p q r) = let w : x ≡ c = cc in ap entry_in q ∙ rw w
    go (fits-deleted x y p q r) = nope (cc)
    go (fits-freed x y p q r) = nope (cc)

pub new-reference : (L : Link) (enc' : ℕ → EncoderSlot) (q : StreamPart) (i : ℕ) (c : Entry) → Invariant L → NewReference L.encoder_slots enc' q i c
    → Reference enc' L.decoder.slots L.unread q L.written_count i c
new-reference L enc' q i c I f = record {
  lists = f.lists';
  holds = inl f.behind;
  covers = f.noted;
  here =
      came_from L.written_count i c L.unread (L.decoder.slots i) (I.slots i).then I.numbers (I.slots i).leads
      (live_here (L.encoder_slots i) (L.decoder.slots i) (messages i L.unread) (acks i L.unread_acks) c f.lists f.before (I.slots i));
}

pub block-invariant : (L : Link) (q : StreamPart) (b : List MeantItem) (enc' : ℕ → EncoderSlot) → Grown L.encoder_slots enc'
    → EachReference (NewReference L.encoder_slots enc' q) b → Invariant L → Invariant (after_block L q b enc')
unfolding after_block
block-invariant L q b enc' w f I = record {
  slots = block-slots L.encoder_slots enc' L.decoder.slots L.unread L.unread_acks w I.slots;
  sizes = I.sizes;
  room = I.room;
  numbers = I.numbers;
  references = all;
}
  where
    new : WrittenBlock
    new = record { place = q; items = b; before = L.written_count }

    all : AllReferences (new ∷ L.blocks) L.decoder.finished enc' L.decoder.slots L.unread
    all x (Memᴰ.head e) u =
        subst
        (λ (y : WrittenBlock). EachReference (Reference enc' L.decoder.slots L.unread y.place y.before) y.items) (sym e)
        (references-map _ _ b (λ i c r. new-reference L enc' q i c I r) f)
    all x (Memᴰ.tail m) u =
        references-map _ _ x.items
        (λ i c r. block-reference L.encoder_slots enc' L.decoder.slots L.unread x.place x.before i c w r) (I.references x m u)
