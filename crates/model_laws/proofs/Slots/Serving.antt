-- The answer to a block that is offered while its part is unfinished: the four conclusions of the demand, from the invariant. Each slot that it
-- names holds the entry that was meant, or is empty and its insert is unread.
use mathlib.Core.Path.{◌≡◌, refl, sym, ◌∙◌}
use mathlib.Core.Logic.{◌↔◌, ◌⊎◌, inl, inr}
use Prim.Native.Nat.{ℕ, ◌≤◌}
use mathlib.Core.Bool.{true, false}
use mathlib.Core.Option.{Option, none, some}
use mathlib.Core.List.{List, [], ◌∷◌, Memᴰ}
use native.Mathlib.Omega.{arith}
use Rattle.memory.proofs.Order.{pick_true}
use Rattle.statics.specs.Table.{Entry}
use Rattle.fields.specs.Form.{Field}
use Rattle.model.specs.Parts.{Part, in_turn}
use Rattle.model_laws.proofs.Tables.{nope}
use Rattle.model_laws.proofs.Marks.{open_turn}
use Rattle.model_laws.proofs.Slots.Machine.{marked_at, entry_in, DecoderSlots, Item, given, by_index, by_name, BlockAnswer, gives, waits_for, out_of_turn}
use Rattle.model_laws.proofs.Slots.Machine.{DecoderTables, add_field, on_entry, entry_field, field_named, meaning, offer, NamesSlot, names-index}
use Rattle.model_laws.proofs.Slots.Machine.{names-name, names-later}
use Rattle.model_laws.proofs.Slots.Messages.{SentNote}
use Rattle.model_laws.proofs.Slots.Invariant.{MeantItem, meant_given, meant_index, meant_name, as_items, fields_of, EachReference, references-map}
use Rattle.model_laws.proofs.Slots.Invariant.{WrittenBlock, Link, InsertUnread, Reference, Invariant}
use Rattle.model_laws.proofs.Slots.Unread.{unread-empty}

-- ---- a block waits exactly where it names an empty slot
add-wait : (f : Field) (a : BlockAnswer) (i : ℕ) → add_field f a ≡ waits_for i → a ≡ waits_for i
unfolding add_field
add-wait f (gives fs) i e = nope (cc)
add-wait f (waits_for j) i e = e
add-wait f out_of_turn i e = nope (cc)

entry-wait : (g : Entry → Field) (j : ℕ) (o : Option Entry) (a : BlockAnswer) (i : ℕ) → on_entry g j o a ≡ waits_for i → ((j ≡ i) × (o ≡ none)) ⊎ (a ≡ waits_for i)
unfolding on_entry
entry-wait g j none a i e = inl (cc, refl)
entry-wait g j (some c) a i e = inr (add-wait (g c) a i e)

pub record WaitsAt (t : DecoderSlots) (b : List Item) (i : ℕ) : Type 0 where
  pub refers : NamesSlot i b
  pub empty : entry_in (t i) ≡ none

later : (t : DecoderSlots) (x : Item) (b : List Item) (i : ℕ) → WaitsAt t b i → WaitsAt t (x ∷ b) i
later t x b i w = record { refers = names-later w.refers; empty = w.empty }

pub waits-then : (t : DecoderSlots) (b : List Item) (i : ℕ) → meaning t b ≡ waits_for i → WaitsAt t b i
unfolding meaning
waits-then t [] i e = nope (cc)
waits-then t (given f ∷ b) i e = later t _ b i (waits-then t b i (add-wait f (meaning t b) i e))
waits-then t (by_index j ∷ b) i e = go (entry-wait entry_field j (entry_in (t j)) (meaning t b) i e) (λ h. waits-then t b i h)
  where
    go : ((j ≡ i) × (entry_in (t j) ≡ none)) ⊎ (meaning t b ≡ waits_for i) → (meaning t b ≡ waits_for i → WaitsAt t b i) → WaitsAt t (by_index j ∷ b) i
    go (inl h) f = record { refers = names-index h.0; empty = rw h.0 at h.1 }
    go (inr h) f = later t _ b i (f h)
waits-then t (by_name j n v ∷ b) i e = go (entry-wait (field_named n v) j (entry_in (t j)) (meaning t b) i e) (λ h. waits-then t b i h)
  where
    go : ((j ≡ i) × (entry_in (t j) ≡ none)) ⊎ (meaning t b ≡ waits_for i) → (meaning t b ≡ waits_for i → WaitsAt t b i) → WaitsAt t (by_name j n v ∷ b) i
    go (inl h) f = record { refers = names-name h.0; empty = rw h.0 at h.1 }
    go (inr h) f = later t _ b i (f h)

-- waiting at some slot
pub record Waiting (a : BlockAnswer) : Type 0 where
  pub slot : ℕ
  pub equal : a ≡ waits_for slot

add-waits : (f : Field) (a : BlockAnswer) → Waiting a → Waiting (add_field f a)
unfolding add_field
add-waits f a w = record { slot = w.slot; equal = rw w.equal }

entry-waits : (g : Entry → Field) (j : ℕ) (o : Option Entry) (a : BlockAnswer) → Waiting a → Waiting (on_entry g j o a)
unfolding on_entry
entry-waits g j none a w = record { slot = j; equal = refl }
entry-waits g j (some c) a w = add-waits (g c) a w

pub waits_if : (t : DecoderSlots) (b : List Item) (i : ℕ) → NamesSlot i b → entry_in (t i) ≡ none → Waiting (meaning t b)
unfolding meaning on_entry
waits_if t [] i e h = elim e [ ]
waits_if t (by_index j ∷ b) i (names-index e) h = record { slot = j; equal = rw (e, h) }
waits_if t (by_name j n v ∷ b) i (names-name e) h = record { slot = j; equal = rw (e, h) }
waits_if t (given f ∷ b) i (names-later r) h = add-waits f (meaning t b) (waits_if t b i r h)
waits_if t (by_index j ∷ b) i (names-later r) h = entry-waits entry_field j (entry_in (t j)) (meaning t b) (waits_if t b i r h)
waits_if t (by_name j n v ∷ b) i (names-later r) h = entry-waits (field_named n v) j (entry_in (t j)) (meaning t b) (waits_if t b i r h)

-- ---- a block whose references hold what was meant, or nothing
abbrev pub HeldAs : DecoderSlots → ℕ → Entry → Type 0
HeldAs t i c = entry_in (t i) ≡ some c

abbrev pub HeldOrEmpty : DecoderSlots → ℕ → Entry → Type 0
HeldOrEmpty t i c = (entry_in (t i) ≡ some c) ⊎ (entry_in (t i) ≡ none)

pub held_gives : (t : DecoderSlots) (b : List MeantItem) → EachReference (HeldAs t) b → meaning t (as_items b) ≡ gives (fields_of b)
unfolding meaning as_items fields_of on_entry add_field
held_gives t [] r = refl
held_gives t (meant_given f ∷ b) r = rw (held_gives t b r)
held_gives t (meant_index i c ∷ b) r = rw (r.0, held_gives t b r.1)
held_gives t (meant_name i c n v ∷ b) r = rw (r.0, held_gives t b r.1)

-- either it says what was meant, or it waits
pub gives-or-waits : (t : DecoderSlots) (b : List MeantItem) → EachReference (HeldOrEmpty t) b
    → (meaning t (as_items b) ≡ gives (fields_of b)) ⊎ Waiting (meaning t (as_items b))
unfolding meaning as_items fields_of on_entry add_field
gives-or-waits t [] r = inl refl
gives-or-waits t (meant_given f ∷ b) r = go (gives-or-waits t b r)
  where
    go : (meaning t (as_items b) ≡ gives (fields_of b)) ⊎ Waiting (meaning t (as_items b))
        → (add_field f (meaning t (as_items b)) ≡ gives (f ∷ fields_of b)) ⊎ Waiting (add_field f (meaning t (as_items b)))
    go (inl e) = inl (rw e)
    go (inr w) = inr (add-waits f _ w)
gives-or-waits t (meant_index i c ∷ b) r = go r.0 (gives-or-waits t b r.1)
  where
    go : HeldOrEmpty t i c → (meaning t (as_items b) ≡ gives (fields_of b)) ⊎ Waiting (meaning t (as_items b))
        → (on_entry entry_field i (entry_in (t i)) (meaning t (as_items b)) ≡ gives (entry_field c ∷ fields_of b))
        ⊎ Waiting (on_entry entry_field i (entry_in (t i)) (meaning t (as_items b)))
    go (inl h) (inl e) = inl (rw (h, e))
    go (inl h) (inr w) = inr (entry-waits entry_field i (entry_in (t i)) _ w)
    go (inr h) w = inr (record { slot = i; equal = rw h })
gives-or-waits t (meant_name i c n v ∷ b) r = go r.0 (gives-or-waits t b r.1)
  where
    go : HeldOrEmpty t i c → (meaning t (as_items b) ≡ gives (fields_of b)) ⊎ Waiting (meaning t (as_items b))
        → (on_entry (field_named n v) i (entry_in (t i)) (meaning t (as_items b)) ≡ gives (field_named n v c ∷ fields_of b))
        ⊎ Waiting (on_entry (field_named n v) i (entry_in (t i)) (meaning t (as_items b)))
    go (inl h) (inl e) = inl (rw (h, e))
    go (inl h) (inr w) = inr (entry-waits (field_named n v) i (entry_in (t i)) _ w)
    go (inr h) w = inr (record { slot = i; equal = rw h })

-- every unread instruction was written after the first k
abbrev pub NumbersAbove : ℕ → List SentNote → Type 0
NumbersAbove k [] = Unit {0}
NumbersAbove k (x ∷ m) = (k ≤ x.number) × NumbersAbove k m

above-not : (k i : ℕ) (c : Entry) (m : List SentNote) → NumbersAbove k m → InsertUnread k i c m → ⊥
above-not k i c [] a e = elim e [ ]
above-not k i c (x ∷ m) a (inl h) = let p = a.0 in let q = h.0 in omega arith
above-not k i c (x ∷ m) a (inr h) = above-not k i c m a.1 h

-- ---- the decoder's answer to a block that is in turn is its meaning
pub in-turn : (D : DecoderTables) (s : ℕ) (p : Part) (b : List Item) → in_turn D.finished s p ≡ true → offer D s p b ≡ meaning D.slots b
unfolding offer
in-turn D s p b h = pick_true (in_turn D.finished s p) (meaning D.slots b) out_of_turn h

abbrev pub answer_to : Link → WrittenBlock → BlockAnswer
answer_to L b = offer L.decoder b.place.stream b.place.part (as_items b.items)

-- the four conclusions, for one block whose part is unfinished
pub record Conclusions (L : Link) (b : WrittenBlock) : Type 0 where
  pub no_fault : answer_to L b ≡ out_of_turn → ⊥
  pub right : (fs : List Field) → answer_to L b ≡ gives fs → fs ≡ fields_of b.items
  pub waits : Waiting (answer_to L b) ↔ ((i : ℕ) × WaitsAt L.decoder.slots (as_items b.items) i)
  pub prompt : NumbersAbove b.before L.unread → answer_to L b ≡ gives (fields_of b.items)

module _ (L : Link) (I : Invariant L) (b : WrittenBlock) (m : Memᴰ b L.blocks) (u : marked_at L.decoder.finished b.place ≡ false) where
  said : answer_to L b ≡ meaning L.decoder.slots (as_items b.items)
  said = in-turn L.decoder b.place.stream b.place.part (as_items b.items)
      (open_turn L.decoder.finished b.place.stream b.place.part u)

  held-or-empty : (i : ℕ) (c : Entry) → Reference L.encoder_slots L.decoder.slots L.unread b.place b.before i c
      → HeldOrEmpty L.decoder.slots i c
  held-or-empty i c r = go r.here
    where
      go : (entry_in (L.decoder.slots i) ≡ some c) ⊎ InsertUnread b.before i c L.unread → HeldOrEmpty L.decoder.slots i c
      go (inl h) = inl h
      go (inr s) = inr (unread-empty b.before i c L.unread (L.decoder.slots i) (I.slots i).then s (I.slots i).leads)

  held-now : NumbersAbove b.before L.unread → (i : ℕ) (c : Entry)
      → Reference L.encoder_slots L.decoder.slots L.unread b.place b.before i c → HeldAs L.decoder.slots i c
  held-now a i c r = go r.here
    where
      go : (entry_in (L.decoder.slots i) ≡ some c) ⊎ InsertUnread b.before i c L.unread → HeldAs L.decoder.slots i c
      go (inl h) = h
      go (inr s) = absurd (above-not b.before i c L.unread a s)

  outcome : (meaning L.decoder.slots (as_items b.items) ≡ gives (fields_of b.items)) ⊎ Waiting (meaning L.decoder.slots (as_items b.items))
  outcome = gives-or-waits L.decoder.slots b.items (references-map _ _ b.items held-or-empty (I.references b m u))

  pub block-conclusions : Conclusions L b
  block-conclusions = record {
    no_fault = λ e. faulty (sym said ∙ e) outcome;
    right = λ fs e. exact fs (sym said ∙ e) outcome;
    waits = (
      λ w. (w.slot, waits-then L.decoder.slots (as_items b.items) w.slot (sym said ∙ w.equal)),
      λ w. let v = waits_if L.decoder.slots (as_items b.items) w.0 w.1.refers w.1.empty in record { slot = v.slot; equal = said ∙ v.equal },
    );
    prompt = λ a. said ∙ held_gives L.decoder.slots b.items (references-map _ _ b.items (held-now a) (I.references b m u));
  }
    where
      faulty : meaning L.decoder.slots (as_items b.items) ≡ out_of_turn
          → (meaning L.decoder.slots (as_items b.items) ≡ gives (fields_of b.items)) ⊎ Waiting (meaning L.decoder.slots (as_items b.items)) → ⊥
      faulty e (inl h) = nope (cc)
      faulty e (inr w) = let h = w.equal in nope (cc)

      exact : (fs : List Field) → meaning L.decoder.slots (as_items b.items) ≡ gives fs
          → (meaning L.decoder.slots (as_items b.items) ≡ gives (fields_of b.items))
          ⊎ Waiting (meaning L.decoder.slots (as_items b.items)) → fs ≡ fields_of b.items
      exact fs e (inl h) = cc
      exact fs e (inr w) = let h = w.equal in nope (cc)
