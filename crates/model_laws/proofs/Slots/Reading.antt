-- The decoder reads the next unread instruction: it is never refused, and the invariant is kept. Of the slot that the instruction changes its
-- first message tells what it holds; of every other slot nothing is said, or its name alone is used.
use mathlib.Core.Path.{◌≡◌, refl, sym, ap, ◌∙◌, subst}
use mathlib.Core.Logic.{◌≢◌, ◌⊎◌, inl, inr}
use Prim.Native.Nat.{ℕ, ◌+◌, ◌≤◌}
use native.Mathlib.Decide.{dec_le}
use mathlib.Core.Option.{Option, none, some}
use mathlib.Core.List.{List, [], ◌∷◌, ◌++◌}
use native.Mathlib.Omega.{arith}
use Rattle.statics.specs.Table.{Entry}
use Rattle.model.specs.Table.{size}
use Rattle.model_laws.proofs.Tables.{nope}
use Rattle.model_laws.proofs.Slots.Functions.{decided-yes, set_at, set_here, set-elsewhere, same_or_not}
use Rattle.model_laws.proofs.Slots.Machine.{StreamPart, DeleteLists, DecoderSlot, live_slot, deleted_slot, entry_in, DecoderSlots, own_name, name_of_slot}
use Rattle.model_laws.proofs.Slots.Machine.{insert_slot, delete_slot, DecoderTables, resolve, set_slot, insert_in, delete_in, read}
use Rattle.model_laws.proofs.Slots.Messages.{Note, note_insert, note_named, note_delete, on_wire, SentNote, SlotMessage, says_insert, says_name}
use Rattle.model_laws.proofs.Slots.Messages.{says_delete, about, messages, acks, insert-hit, insert-miss, named-hit, named-source, named_self}
use Rattle.model_laws.proofs.Slots.Messages.{named-miss, delete-hit, delete-miss}
use Rattle.model_laws.proofs.Slots.Life.{Acts, acts-insert, acts-name, acts-delete, Leads, GoodSlot, insert-empty}
use Rattle.model_laws.proofs.Slots.Invariant.{Link, with_decoder, with_unread, Inserts, InsertUnread, unread_size, Reference, Invariant, references-step}

-- ---- the first message of a slot
record TakesDelete (m : List SlotMessage) (ls : DeleteLists) (d e : DecoderSlot) : Type 0 where
  entry : Entry
  live : d ≡ live_slot entry
  rest : Leads m (deleted_slot entry ls) e

take-delete : (m : List SlotMessage) (ls : DeleteLists) (d e : DecoderSlot) → Leads (says_delete ls ∷ m) d e → TakesDelete m ls d e
take-delete m ls d e r = go r.1
  where
    go : Acts (says_delete ls) d r.0 → TakesDelete m ls d e
    go (acts-delete c p q) = record { entry = c; live = p; rest = subst (λ (x : DecoderSlot). Leads m x e) q r.2 }

-- a use of the name leaves its slot
record TakesName (n : List ℕ) (m : List SlotMessage) (d e : DecoderSlot) : Type 0 where
  entry : Entry
  live : d ≡ live_slot entry
  name : entry.name ≡ n
  rest : Leads m d e

take-name : (n : List ℕ) (m : List SlotMessage) (d e : DecoderSlot) → Leads (says_name n ∷ m) d e → TakesName n m d e
take-name n m d e r = go r.1
  where
    go : Acts (says_name n) d r.0 → TakesName n m d e
    go (acts-name c p q t) = record { entry = c; live = p; name = q; rest = subst (λ (x : DecoderSlot). Leads m x e) (t ∙ sym p) r.2 }

-- ---- the decoder's answers
insert-done : (D : DecoderTables) (k : ℕ) (c : Entry) (d e : DecoderSlot) → Acts (says_insert c) d e → D.filled + size c ≤ D.limit
    → insert_in D k d (some c) ≡ some (set_slot D k e (D.filled + size c))
unfolding insert_in
insert-done D k c d e (acts-insert p q) w = rw (p, q) (decided-yes (dec_le (D.filled + size c) D.limit) _ _ w)

read-insert : (D : DecoderTables) (k : ℕ) (c : Entry) (e : DecoderSlot) → Acts (says_insert c) (D.slots k) e → D.filled + size c ≤ D.limit
    → read D (insert_slot k (own_name c)) ≡ some (set_slot D k e (D.filled + size c))
unfolding read resolve
read-insert D k c e a w = insert-done D k c (D.slots k) e a w

name-found : (t : DecoderSlots) (j : ℕ) (c x : Entry) → t j ≡ live_slot x → x.name ≡ c.name → resolve t (name_of_slot j c.value) ≡ some c
unfolding resolve
name-found t j c x l n = rw (l, resolve) (λ t. some (record { name = n t; value = c.value }))

read_named : (D : DecoderTables) (k j : ℕ) (c x : Entry) (e : DecoderSlot) → Acts (says_insert c) (D.slots k) e → D.slots j ≡ live_slot x
    → x.name ≡ c.name → D.filled + size c ≤ D.limit → read D (insert_slot k (name_of_slot j c.value)) ≡ some (set_slot D k e (D.filled + size c))
unfolding read
read_named D k j c x e a l n w = rw (name-found D.slots j c x l n) (insert-done D k c (D.slots k) e a w)

read-delete : (D : DecoderTables) (k : ℕ) (ls : DeleteLists) (c : Entry) → D.slots k ≡ live_slot c
    → read D (delete_slot k ls) ≡ some (set_slot D k (deleted_slot c ls) D.filled)
unfolding read delete_in
read-delete D k ls c p = rw p

-- ---- the link after it
unfoldable pub after_read : Link → DecoderTables → List SentNote → Link
after_read L D rest = with_unread (with_decoder L D) rest

-- the note is taken: it leads to these tables, with the finished parts of before
pub record TakenNote (L : Link) (x : Note) (rest : List SentNote) : Type 0 where
  pub tables : DecoderTables
  pub done : read L.decoder (on_wire x) ≡ some tables
  pub same : tables.finished ≡ L.decoder.finished
  pub invariant : Invariant (after_read L tables rest)

module _ (L : Link) (q : List SentNote) (x : SentNote) (h : L.unread ≡ x ∷ q) (I : Invariant L) where
  -- the messages of slot i begin with those of the next instruction
  next : (i : ℕ) (m : List SlotMessage) → about i x.note ≡ m → Leads (m ++ messages i q) (L.decoder.slots i) (I.slots i).then
  unfolding messages
  next i m e =
      subst (λ (l : List SlotMessage). Leads (l ++ messages i q) (L.decoder.slots i) (I.slots i).then) e
      (subst (λ (l : List SentNote). Leads (messages i l) (L.decoder.slots i) (I.slots i).then) h (I.slots i).leads)

  -- only slot k changes, to e
  module _ (k : ℕ) (e : DecoderSlot) (n : ℕ) (done : read L.decoder (on_wire x.note) ≡ some (set_slot L.decoder k e n))
      (other : (i : ℕ) → k ≢ i → Leads (messages i q) (L.decoder.slots i) (I.slots i).then)
      (mine : Leads (messages k q) e (I.slots k).then)
      (made : (i : ℕ) (c : Entry) → Inserts x.note i c → entry_in (set_at k e L.decoder.slots i) ≡ some c)
      (kept : (c : Entry) → entry_in (L.decoder.slots k) ≡ some c → entry_in e ≡ some c)
      (sum : n + unread_size q ≡ L.decoder.filled + unread_size L.unread) where
    take-note : TakenNote L x.note q
    unfolding after_read set_slot
    take-note = record {
      tables = set_slot L.decoder k e n;
      done = done;
      same = refl;
      invariant = record {
        slots = λ i. same_or_not k i (hit i) (miss i);
        sizes = let z = I.sizes in omega arith;
        room = I.room;
        numbers = (rw h at I.numbers).1;
        references = references-step L.blocks _ _ _ _ _ _ _ _ (λ s y. y) (λ s m i c u r. move s m i c r) I.references;
      };
    }
      where
        hit : (i : ℕ) → k ≡ i → GoodSlot (L.encoder_slots i) (set_at k e L.decoder.slots i) (messages i q) (acks i L.unread_acks)
        hit i f = rw (← f, set_here k e L.decoder.slots) (record { then = (I.slots k).then; leads = mine; fits = (I.slots k).fits })

        miss : (i : ℕ) → k ≢ i → GoodSlot (L.encoder_slots i) (set_at k e L.decoder.slots i) (messages i q) (acks i L.unread_acks)
        miss i f = rw (set-elsewhere k i e L.decoder.slots f) (record { then = (I.slots i).then; leads = other i f; fits = (I.slots i).fits })

        keeps : (i : ℕ) (c : Entry) → entry_in (L.decoder.slots i) ≡ some c → entry_in (set_at k e L.decoder.slots i) ≡ some c
        keeps i c y =
            same_or_not k i (λ f. rw (← f, set_here k e L.decoder.slots) (kept c (rw f y)))
            (λ f. rw (set-elsewhere k i e L.decoder.slots f) y)

        move : (s : StreamPart) (m i : ℕ) (c : Entry) → Reference L.encoder_slots L.decoder.slots L.unread s m i c
            → Reference L.encoder_slots (set_at k e L.decoder.slots) q s m i c
        move s m i c r = record { lists = r.lists; holds = r.holds; covers = r.covers; here = go (rw h at r.here) }
          where
            go : (entry_in (L.decoder.slots i) ≡ some c) ⊎ InsertUnread m i c (x ∷ q)
                → (entry_in (set_at k e L.decoder.slots i) ≡ some c) ⊎ InsertUnread m i c q
            go (inl y) = inl (keeps i c y)
            go (inr (inl y)) = inl (made i c y.1)
            go (inr (inr y)) = inr y

-- what an insert makes
insert-makes : (c y : Entry) (d e : DecoderSlot) → Acts (says_insert c) d e → c ≡ y → entry_in e ≡ some y
insert-makes c y d e (acts-insert p q) h = ap entry_in q ∙ ap {B = Option Entry} some h

-- ---- an insert with a name of its own
module _ (L : Link) (q : List SentNote) (n k : ℕ) (c : Entry) (h : L.unread ≡ record { number = n; note = note_insert k c } ∷ q) (I : Invariant L) where
  insert-taken : TakenNote L (note_insert k c) q
  unfolding unread_size
  insert-taken =
      let t = next L q _ h I k (says_insert c ∷ []) (insert-hit k c) in
      let s = ap unread_size h in
      let z = I.sizes in
      let w = I.room in
      take-note L q (record { number = n; note = note_insert k c }) h I k t.0 (L.decoder.filled + size c)
      (read-insert L.decoder k c t.0 t.1 (omega arith)) (λ i f. next L q _ h I i [] (insert-miss k i c f)) t.2
      (λ i y f. rw (← f.0, set_here k t.0 L.decoder.slots) (insert-makes c y (L.decoder.slots k) t.0 t.1 f.1))
      (λ y f. let o = insert-empty c (L.decoder.slots k) t.0 t.1 in nope (cc)) (omega arith)

-- ---- a delete
module _ (L : Link) (q : List SentNote) (n k : ℕ) (ls : DeleteLists) (h : L.unread ≡ record { number = n; note = note_delete k ls } ∷ q)
    (I : Invariant L) where
  delete-taken : TakenNote L (note_delete k ls) q
  unfolding unread_size
  delete-taken =
      let t = take-delete (messages k q) ls (L.decoder.slots k) (I.slots k).then (next L q _ h I k (says_delete ls ∷ []) (delete-hit k ls)) in
      let s = ap unread_size h in
      take-note L q (record { number = n; note = note_delete k ls }) h I k (deleted_slot t.entry ls) L.decoder.filled
      (read-delete L.decoder k ls t.entry t.live) (λ i f. next L q _ h I i [] (delete-miss k i ls f)) t.rest
      (λ i c f. absurd f) (λ c f. let z = ap entry_in t.live in cc) (omega arith)

-- ---- an insert with the name of slot j
module _ (L : Link) (q : List SentNote) (n k j : ℕ) (c : Entry) (h : L.unread ≡ record { number = n; note = note_named k j c } ∷ q)
    (I : Invariant L) where
  -- slot j is live and slot k empty
  differ : j ≢ k
  differ e =
      let u = take-name c.name (says_insert c ∷ messages k q) (L.decoder.slots k) (I.slots k).then
      (next L q _ h I k (says_name c.name ∷ says_insert c ∷ []) (ap (λ (t : ℕ). about k (note_named k t c)) e ∙ named_self k c)) in
      let o : entry_in (L.decoder.slots k) ≡ none = insert-empty c (L.decoder.slots k) u.rest.0 u.rest.1 in
      let z : entry_in (L.decoder.slots k) ≡ some u.entry = ap entry_in u.live in nope (cc)

  source : TakesName c.name (messages j q) (L.decoder.slots j) (I.slots j).then
  source =
      take-name c.name (messages j q) (L.decoder.slots j) (I.slots j).then
      (next L q _ h I j (says_name c.name ∷ []) (named-source k j c (λ e. differ (sym e))))

  others : (i : ℕ) → k ≢ i → Leads (messages i q) (L.decoder.slots i) (I.slots i).then
  others i f =
      same_or_not j i (λ e. subst (λ (x : ℕ). Leads (messages x q) (L.decoder.slots x) (I.slots x).then) e source.rest)
      (λ e. next L q _ h I i [] (named-miss k j i c f e))

  named-taken : TakenNote L (note_named k j c) q
  unfolding unread_size
  named-taken =
      let t = next L q _ h I k (says_insert c ∷ []) (named-hit k j c differ) in
      let s = ap unread_size h in
      let z = I.sizes in
      let w = I.room in
      take-note L q (record { number = n; note = note_named k j c }) h I k t.0 (L.decoder.filled + size c)
      (read_named L.decoder k j c source.entry t.0 t.1 source.live source.name (omega arith)) others t.2
      (λ i y f. rw (← f.0, set_here k t.0 L.decoder.slots) (insert-makes c y (L.decoder.slots k) t.0 t.1 f.1))
      (λ y f. let o = insert-empty c (L.decoder.slots k) t.0 t.1 in nope (cc)) (omega arith)

pub read_next : (L : Link) (q : List SentNote) (x : SentNote) → L.unread ≡ x ∷ q → Invariant L → TakenNote L x.note q
read_next L q x h I = go x.number x.note h
  where
    go : (n : ℕ) (y : Note) → L.unread ≡ record { number = n; note = y } ∷ q → TakenNote L y q
    go n (note_insert k c) e = insert-taken L q n k c e I
    go n (note_named k j c) e = named-taken L q n k j c e I
    go n (note_delete k ls) e = delete-taken L q n k ls e I
