-- What is written and unread, slot by slot: an instruction says something of the slot that it inserts or deletes, and an insert named by a slot
-- says something of that slot too. So the unread instructions are a list of messages for each slot.
use mathlib.Core.Path.{◌≡◌, refl, sym, ap, ◌∙◌}
use mathlib.Core.Logic.{◌≢◌}
use Prim.Native.Nat.{ℕ}
use native.Mathlib.Decide.{ℕ_discrete}
use mathlib.Core.List.{List, [], ◌∷◌, ◌++◌, append_assoc, append-nil}
use Rattle.statics.specs.Table.{Entry}
use Rattle.model_laws.proofs.Slots.Functions.{decided, decided-yes, decided-no}
use Rattle.model_laws.proofs.Slots.Machine.{DeleteLists, SlotInstruction, insert_slot, delete_slot, own_name, name_of_slot}

-- the encoder's slot: live, with the parts that refer to it; under deletion, with the lists that were written
pub data EncoderSlot : Type 0 where
  free_sent : EncoderSlot
  live_sent : Entry → DeleteLists → EncoderSlot
  deleted_sent : Entry → DeleteLists → EncoderSlot

-- an instruction as written, with the entry that the encoder means: an insert with a name of its own, an insert with the name of a slot, a delete
pub data Note : Type 0 where
  note_insert : ℕ → Entry → Note
  note_named : ℕ → ℕ → Entry → Note
  note_delete : ℕ → DeleteLists → Note

-- what goes over the wire
abbrev pub on_wire : Note → SlotInstruction
on_wire (note_insert i c) = insert_slot i (own_name c)
on_wire (note_named i j c) = insert_slot i (name_of_slot j c.value)
on_wire (note_delete i ls) = delete_slot i ls

-- the instructions are numbered in the order of writing
pub record SentNote : Type 0 where
  pub number : ℕ
  pub note : Note

-- an acknowledgement, with the entry that was freed
pub record FreedNote : Type 0 where
  pub slot : ℕ
  pub entry : Entry

-- ---- what an instruction says of one slot: insert this entry, a use of this name, delete with these lists
pub data SlotMessage : Type 0 where
  says_insert : Entry → SlotMessage
  says_name : List ℕ → SlotMessage
  says_delete : DeleteLists → SlotMessage

unfoldable pub about : ℕ → Note → List SlotMessage
about i (note_insert k c) = decided (ℕ_discrete k i) (says_insert c ∷ []) []
about i (note_named k j c) = decided (ℕ_discrete j i) (says_name c.name ∷ []) [] ++ decided (ℕ_discrete k i) (says_insert c ∷ []) []
about i (note_delete k ls) = decided (ℕ_discrete k i) (says_delete ls ∷ []) []

unfoldable pub messages : ℕ → List SentNote → List SlotMessage
messages i [] = []
messages i (x ∷ m) = about i x.note ++ messages i m

-- the entries of a slot whose acknowledgements are unread
unfoldable pub ack_about : ℕ → FreedNote → List Entry
ack_about i x = decided (ℕ_discrete x.slot i) (x.entry ∷ []) []

unfoldable pub acks : ℕ → List FreedNote → List Entry
acks i [] = []
acks i (x ∷ m) = ack_about i x ++ acks i m

-- ---- one more at the end
pub messages-snoc : (i : ℕ) (m : List SentNote) (x : SentNote) → messages i (m ++ (x ∷ [])) ≡ messages i m ++ about i x.note
unfolding messages
messages-snoc i [] x = append-nil _
messages-snoc i (y ∷ m) x =
    ap (λ (l : List SlotMessage). about i y.note ++ l) (messages-snoc i m x)
    ∙ sym (append_assoc (about i y.note) (messages i m) _)

pub acks-snoc : (i : ℕ) (m : List FreedNote) (x : FreedNote) → acks i (m ++ (x ∷ [])) ≡ acks i m ++ ack_about i x
unfolding acks
acks-snoc i [] x = append-nil _
acks-snoc i (y ∷ m) x = ap (λ (l : List Entry). ack_about i y ++ l) (acks-snoc i m x) ∙ sym (append_assoc (ack_about i y) (acks i m) _)

-- ---- what is said of the slot that an instruction speaks of, and of others
pub insert-hit : (k : ℕ) (c : Entry) → about k (note_insert k c) ≡ says_insert c ∷ []
unfolding about
insert-hit k c = decided-yes (ℕ_discrete k k) _ _ refl

pub insert-miss : (k i : ℕ) (c : Entry) → k ≢ i → about i (note_insert k c) ≡ []
unfolding about
insert-miss k i c n = decided-no (ℕ_discrete k i) _ _ n

pub named-hit : (k j : ℕ) (c : Entry) → j ≢ k → about k (note_named k j c) ≡ says_insert c ∷ []
unfolding about
named-hit k j c n = rw (decided-no (ℕ_discrete j k) (says_name c.name ∷ []) [] n, decided-yes (ℕ_discrete k k) (says_insert c ∷ []) [] refl)

pub named-source : (k j : ℕ) (c : Entry) → k ≢ j → about j (note_named k j c) ≡ says_name c.name ∷ []
unfolding about
named-source k j c n = rw (decided-no (ℕ_discrete k j) (says_insert c ∷ []) [] n, decided-yes (ℕ_discrete j j) (says_name c.name ∷ []) [] refl)

pub named_self : (k : ℕ) (c : Entry) → about k (note_named k k c) ≡ says_name c.name ∷ says_insert c ∷ []
unfolding about
named_self k c = rw (decided-yes (ℕ_discrete k k) (says_insert c ∷ []) [] refl, decided-yes (ℕ_discrete k k) (says_name c.name ∷ []) [] refl)

pub named-miss : (k j i : ℕ) (c : Entry) → k ≢ i → j ≢ i → about i (note_named k j c) ≡ []
unfolding about
named-miss k j i c n p = rw (decided-no (ℕ_discrete k i) (says_insert c ∷ []) [] n, decided-no (ℕ_discrete j i) (says_name c.name ∷ []) [] p)

pub delete-hit : (k : ℕ) (ls : DeleteLists) → about k (note_delete k ls) ≡ says_delete ls ∷ []
unfolding about
delete-hit k ls = decided-yes (ℕ_discrete k k) _ _ refl

pub delete-miss : (k i : ℕ) (ls : DeleteLists) → k ≢ i → about i (note_delete k ls) ≡ []
unfolding about
delete-miss k i ls n = decided-no (ℕ_discrete k i) _ _ n

pub ack-hit : (k : ℕ) (c : Entry) → ack_about k (record { slot = k; entry = c }) ≡ c ∷ []
unfolding ack_about
ack-hit k c = decided-yes (ℕ_discrete k k) _ _ refl

pub ack-miss : (k i : ℕ) (c : Entry) → k ≢ i → ack_about i (record { slot = k; entry = c }) ≡ []
unfolding ack_about
ack-miss k i c n = decided-no (ℕ_discrete k i) _ _ n
