-- The state of a link and its invariant: every slot is good, the sizes agree, and each reference of a block in an unfinished part is to an entry
-- that the decoder holds or will have read. It holds at the start.
use mathlib.Core.Path.{◌≡◌, refl}
use mathlib.Core.Logic.{◌⊎◌}
use Prim.Native.Nat.{ℕ, suc, ◌+◌, ◌≤◌, ◌<◌}
use mathlib.Core.Bool.{Bool, true, false}
use mathlib.Core.Option.{some}
use mathlib.Core.List.{List, [], ◌∷◌, ◌++◌, Memᴰ}
use native.Mathlib.Omega.{arith}
use Rattle.statics.specs.Table.{Entry}
use Rattle.fields.specs.Form.{Field}
use Rattle.model.specs.Table.{size}
use Rattle.model.specs.Parts.{Marks}
use Rattle.model_laws.proofs.Slots.Machine.{StreamPart, marked_at, DeleteLists, named_parts, empty_slot, entry_in, DecoderSlots, Item, given, by_index}
use Rattle.model_laws.proofs.Slots.Machine.{by_name, DecoderTables, entry_field, field_named}
use Rattle.model_laws.proofs.Slots.Life.{fits-free, GoodSlot}
use Rattle.model_laws.proofs.Slots.Messages.{EncoderSlot, free_sent, live_sent, deleted_sent, Note, note_insert, note_named, note_delete, SentNote}
use Rattle.model_laws.proofs.Slots.Messages.{FreedNote, messages, acks}

-- ---- a block as the encoder means it
pub data MeantItem : Type 0 where
  meant_given : Field → MeantItem
  meant_index : ℕ → Entry → MeantItem
  meant_name : ℕ → Entry → ℕ → List ℕ → MeantItem

-- what is written of it, and the fields that it means
unfoldable pub as_items : List MeantItem → List Item
as_items [] = []
as_items (meant_given f ∷ b) = given f ∷ as_items b
as_items (meant_index i c ∷ b) = by_index i ∷ as_items b
as_items (meant_name i c n v ∷ b) = by_name i n v ∷ as_items b

unfoldable pub fields_of : List MeantItem → List Field
fields_of [] = []
fields_of (meant_given f ∷ b) = f ∷ fields_of b
fields_of (meant_index i c ∷ b) = entry_field c ∷ fields_of b
fields_of (meant_name i c n v ∷ b) = field_named n v c ∷ fields_of b

-- P of every reference of a block
abbrev pub EachReference : (ℕ → Entry → Type 0) → List MeantItem → Type 0
EachReference P [] = Unit {0}
EachReference P (meant_given f ∷ b) = EachReference P b
EachReference P (meant_index i c ∷ b) = P i c × EachReference P b
EachReference P (meant_name i c n v ∷ b) = P i c × EachReference P b

pub references-map : (P Q : ℕ → Entry → Type 0) (b : List MeantItem) → ((i : ℕ) (c : Entry) → P i c → Q i c) → EachReference P b → EachReference Q b
references-map P Q [] f r = tt
references-map P Q (meant_given x ∷ b) f r = references-map P Q b f r
references-map P Q (meant_index i c ∷ b) f r = (f i c r.0, references-map P Q b f r.1)
references-map P Q (meant_name i c n v ∷ b) f r = (f i c r.0, references-map P Q b f r.1)

-- a block that was written: its place, its items, and how many instructions were written before it
pub record WrittenBlock : Type 0 where
  pub place : StreamPart
  pub items : List MeantItem
  pub before : ℕ

-- ---- the state: both tables, how many instructions were written, those that the decoder did not read, the acknowledgements that the encoder
-- did not read, and the blocks written, the last one first
pub record Link : Type 0 where
  pub encoder_slots : ℕ → EncoderSlot
  pub encoder_filled : ℕ
  pub decoder : DecoderTables
  pub written_count : ℕ
  pub unread : List SentNote
  pub unread_acks : List FreedNote
  pub blocks : List WrittenBlock

-- with other slots at the encoder, which hold this size; with other tables at the decoder
abbrev pub with_encoder : Link → (ℕ → EncoderSlot) → ℕ → Link
with_encoder L t n = record {
  encoder_slots = t;
  encoder_filled = n;
  decoder = L.decoder;
  written_count = L.written_count;
  unread = L.unread;
  unread_acks = L.unread_acks;
  blocks = L.blocks;
}

abbrev pub with_decoder : Link → DecoderTables → Link
with_decoder L D = record {
  encoder_slots = L.encoder_slots;
  encoder_filled = L.encoder_filled;
  decoder = D;
  written_count = L.written_count;
  unread = L.unread;
  unread_acks = L.unread_acks;
  blocks = L.blocks;
}

-- with one instruction more written; with these instructions, or these acknowledgements, unread
abbrev pub with_note : Link → Note → Link
with_note L note = record {
  encoder_slots = L.encoder_slots;
  encoder_filled = L.encoder_filled;
  decoder = L.decoder;
  written_count = suc L.written_count;
  unread = L.unread ++ (record { number = L.written_count; note = note } ∷ []);
  unread_acks = L.unread_acks;
  blocks = L.blocks;
}

abbrev pub with_unread : Link → List SentNote → Link
with_unread L rest = record {
  encoder_slots = L.encoder_slots;
  encoder_filled = L.encoder_filled;
  decoder = L.decoder;
  written_count = L.written_count;
  unread = rest;
  unread_acks = L.unread_acks;
  blocks = L.blocks;
}

abbrev pub with_acks : Link → List FreedNote → Link
with_acks L l = record {
  encoder_slots = L.encoder_slots;
  encoder_filled = L.encoder_filled;
  decoder = L.decoder;
  written_count = L.written_count;
  unread = L.unread;
  unread_acks = l;
  blocks = L.blocks;
}

-- with one block more written
abbrev pub with_block : Link → StreamPart → List MeantItem → Link
with_block L q b = record {
  encoder_slots = L.encoder_slots;
  encoder_filled = L.encoder_filled;
  decoder = L.decoder;
  written_count = L.written_count;
  unread = L.unread;
  unread_acks = L.unread_acks;
  blocks = record { place = q; items = b; before = L.written_count } ∷ L.blocks;
}

-- the note is an insert of c at i
abbrev pub Inserts : Note → ℕ → Entry → Type 0
Inserts (note_insert k x) i c = (k ≡ i) × (x ≡ c)
Inserts (note_named k j x) i c = (k ≡ i) × (x ≡ c)
Inserts (note_delete k ls) i c = ⊥

-- an insert of c at i is unread, and was written among the first k
abbrev pub InsertUnread : ℕ → ℕ → Entry → List SentNote → Type 0
InsertUnread k i c [] = ⊥
InsertUnread k i c (x ∷ m) = ((x.number < k) × Inserts x.note i c) ⊎ InsertUnread k i c m

-- every unread instruction was written among the first k
abbrev pub NumbersBelow : ℕ → List SentNote → Type 0
NumbersBelow k [] = Unit {0}
NumbersBelow k (x ∷ m) = (x.number < k) × NumbersBelow k m

-- the size that unread inserts will fill, and that unread acknowledgements will free
unfoldable pub unread_size : List SentNote → ℕ
unread_size [] = 0
unread_size (x ∷ m) = elim x.note [ note_insert k c ↦ size c | note_named k j c ↦ size c | note_delete k ls ↦ 0 ] + unread_size m

unfoldable pub freed_size : List FreedNote → ℕ
freed_size [] = 0
freed_size (x ∷ m) = size x.entry + freed_size m

-- a reference from a block in part q, written after k instructions, to slot i for its entry c: the encoder holds c there, what its delete
-- names or will name has q in it, and the decoder holds c there or its insert is unread
pub record Reference (enc : ℕ → EncoderSlot) (tab : DecoderSlots) (mq : List SentNote) (q : StreamPart) (k i : ℕ) (c : Entry) : Type 0 where
  pub lists : DeleteLists
  pub holds : (enc i ≡ live_sent c lists) ⊎ (enc i ≡ deleted_sent c lists)
  pub covers : Memᴰ q (named_parts lists)
  pub here : (entry_in (tab i) ≡ some c) ⊎ InsertUnread k i c mq

abbrev pub GoodSlots : (ℕ → EncoderSlot) → DecoderSlots → List SentNote → List FreedNote → Type 0
GoodSlots enc tab mq aq = (i : ℕ) → GoodSlot (enc i) (tab i) (messages i mq) (acks i aq)

-- blocks in finished parts are never accepted again: their references do not matter
abbrev pub AllReferences : List WrittenBlock → Marks → (ℕ → EncoderSlot) → DecoderSlots → List SentNote → Type 0
AllReferences bs fin enc tab mq = (b : WrittenBlock) → Memᴰ b bs → marked_at fin b.place ≡ false
    → EachReference (Reference enc tab mq b.place b.before) b.items

-- the decoder's size, with what is on the way, is the encoder's: so what the encoder fits in fits the decoder
pub record Invariant (L : Link) : Type 0 where
  pub slots : GoodSlots L.encoder_slots L.decoder.slots L.unread L.unread_acks
  pub sizes : L.decoder.filled + unread_size L.unread + freed_size L.unread_acks ≡ L.encoder_filled
  pub room : L.encoder_filled ≤ L.decoder.limit
  pub numbers : NumbersBelow L.written_count L.unread
  pub references : AllReferences L.blocks L.decoder.finished L.encoder_slots L.decoder.slots L.unread

-- what is unfinished now was unfinished before, if finished parts stay finished
pub still-unmarked : (a b : Bool) → (a ≡ true → b ≡ true) → b ≡ false → a ≡ false
still-unmarked true b f h = let k = f refl in cc
still-unmarked false b f h = refl

-- all references move together
pub references-step : (bs : List WrittenBlock) (fin fin' : Marks) (enc enc' : ℕ → EncoderSlot) (tab tab' : DecoderSlots) (mq mq' : List SentNote)
    → ((q : StreamPart) → marked_at fin q ≡ true → marked_at fin' q ≡ true)
    → ((q : StreamPart) (k i : ℕ) (c : Entry) → marked_at fin q ≡ false → Reference enc tab mq q k i c → Reference enc' tab' mq' q k i c)
    → AllReferences bs fin enc tab mq → AllReferences bs fin' enc' tab' mq'
references-step bs fin fin' enc enc' tab tab' mq mq' mono move old b m u =
    let u' = still-unmarked (marked_at fin b.place) (marked_at fin' b.place) (mono b.place) u in
    references-map _ _ b.items (λ i c r. move b.place b.before i c u' r) (old b m u')

-- ---- the start
unfoldable pub fresh : ℕ → Link
fresh n = record {
  encoder_slots = λ i. free_sent;
  encoder_filled = 0;
  decoder = record { slots = λ i. empty_slot; finished = λ s p. false; filled = 0; limit = n };
  written_count = 0;
  unread = [];
  unread_acks = [];
  blocks = [];
}

-- the invariant holds at the start
pub start : (n : ℕ) → Invariant (fresh n)
unfolding fresh messages acks unread_size freed_size
start n = record {
  slots = λ i. record { then = empty_slot; leads = refl; fits = fits-free refl refl refl };
  sizes = refl;
  room = omega arith;
  numbers = tt;
  references = λ b m u. absurd (none_in m);
}
  where
    none_in : {b : WrittenBlock} → Memᴰ b [] → ⊥
    none_in h = elim h [ ]
