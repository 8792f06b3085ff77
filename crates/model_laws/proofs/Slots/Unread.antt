-- Laws of the unread instructions: an insert among them means that the decoder's slot is still empty, and an entry that reading leads to is held
-- already or is inserted by one of them. By induction over the list.
use mathlib.Core.Path.{◌≡◌, sym, ap, ◌∙◌, subst}
use mathlib.Core.Logic.{◌⊎◌, inl, inr}
use Prim.Native.Nat.{ℕ, suc, ◌+◌, ◌<◌}
use native.Mathlib.Decide.{ℕ_discrete}
use mathlib.Core.Option.{none, some}
use mathlib.Core.List.{List, [], ◌∷◌, ◌++◌}
use native.Mathlib.Omega.{arith}
use Rattle.statics.specs.Table.{Entry}
use Rattle.model.specs.Table.{size}
use Rattle.model_laws.proofs.Tables.{nope}
use Rattle.model_laws.proofs.Slots.Functions.{decided, same_or_not}
use Rattle.model_laws.proofs.Slots.Machine.{DeleteLists, DecoderSlot, live_slot, entry_in}
use Rattle.model_laws.proofs.Slots.Life.{insert-empty, Leads, Split, leads-split, leads_empty, Acts, acts-insert, acts-name, acts-delete}
use Rattle.model_laws.proofs.Slots.Messages.{Note, note_insert, note_named, note_delete, SentNote, FreedNote, says_insert, says_name, says_delete, about}
use Rattle.model_laws.proofs.Slots.Messages.{messages, insert-hit, named-hit, named_self}
use Rattle.model_laws.proofs.Slots.Invariant.{Inserts, InsertUnread, NumbersBelow, unread_size, freed_size}

-- ---- one more at the end
pub unread-snoc : (k i : ℕ) (c : Entry) (m n : List SentNote) → InsertUnread k i c m → InsertUnread k i c (m ++ n)
unread-snoc k i c [] n e = elim e [ ]
unread-snoc k i c (x ∷ m) n (inl h) = inl h
unread-snoc k i c (x ∷ m) n (inr h) = inr (unread-snoc k i c m n h)

pub numbers-snoc : (k : ℕ) (m : List SentNote) (x : SentNote) → NumbersBelow k m → x.number < suc k → NumbersBelow (suc k) (m ++ (x ∷ []))
numbers-snoc k [] x b h = (h, tt)
numbers-snoc k (y ∷ m) x b h = let z = b.0 in (omega arith, numbers-snoc k m x b.1 h)

pub unread_size-snoc : (m : List SentNote) (x : SentNote) → unread_size (m ++ (x ∷ [])) ≡ unread_size m + unread_size (x ∷ [])
unfolding unread_size
unread_size-snoc [] x = omega arith
unread_size-snoc (y ∷ m) x = let h = unread_size-snoc m x in omega arith

pub freed_size-snoc : (m : List FreedNote) (x : FreedNote) → freed_size (m ++ (x ∷ [])) ≡ freed_size m + size x.entry
unfolding freed_size
freed_size-snoc [] x = omega arith
freed_size-snoc (y ∷ m) x = let h = freed_size-snoc m x in omega arith

-- ---- an insert that is unread

-- a slot used for its name is held, so no insert follows
name-then-insert : (n : List ℕ) (c : Entry) (d e : DecoderSlot) → Leads (says_name n ∷ says_insert c ∷ []) d e → ⊥
name-then-insert n c d e r = go r.1 (insert-empty c r.0 r.2.0 r.2.1)
  where
    go : Acts (says_name n) d r.0 → entry_in r.0 ≡ none → ⊥
    go (acts-name y p q t) h = let z = ap entry_in t in nope (cc)

-- an unread insert: the decoder's slot is not held until then
insert-about : (x : Note) (i : ℕ) (c : Entry) (d e : DecoderSlot) → Inserts x i c → Leads (about i x) d e → entry_in d ≡ none
insert-about (note_insert k y) i c d e h r =
    let s = rw (insert-hit i y) at
    (subst (λ (t : ℕ). Leads (about i (note_insert t y)) d e) h.0 r) in insert-empty y d s.0 s.1
insert-about (note_named k j y) i c d e h r =
    let r' : Leads (about i (note_named i j y)) d e = subst (λ (t : ℕ). Leads (about i (note_named t j y)) d e) h.0 r in
    same_or_not j i
    (λ w. let r'' : Leads (about i (note_named i i y)) d e = subst (λ (t : ℕ). Leads (about i (note_named i t y)) d e) w r' in
    absurd (name-then-insert y.name y d e (rw (named_self i y) at r'')))
    (λ w. let s = rw (named-hit i j y w) at r' in insert-empty y d s.0 s.1)
insert-about (note_delete k ls) i c d e h r = absurd h

pub unread-empty : (k i : ℕ) (c : Entry) (m : List SentNote) (d e : DecoderSlot) → InsertUnread k i c m → Leads (messages i m) d e → entry_in d ≡ none
unfolding messages
unread-empty k i c [] d e f r = elim f [ ]
unread-empty k i c (x ∷ m) d e (inl h) r =
    let s = leads-split (about i x.note) (messages i m) d e r in insert-about x.note i c d s.middle h.1 s.left
unread-empty k i c (x ∷ m) d e (inr h) r =
    let s = leads-split (about i x.note) (messages i m) d e r in
    let o = unread-empty k i c m s.middle e h s.right in
    ap entry_in (leads_empty (about i x.note) d s.middle o s.left).1 ∙ o

-- where no message of a slot is unread, no insert of it is
pub unread-none : (k i : ℕ) (c : Entry) (m : List SentNote) → messages i m ≡ [] → InsertUnread k i c m → ⊥
unread-none k i c m h s = let v = unread-empty k i c m (live_slot c) (live_slot c) s (rw h) in nope (cc)

-- where a slot's entry comes from: it is held already, or the message is its insert
insert-from : (k i : ℕ) (x c : Entry) (t : Dec (k ≡ i)) (d e : DecoderSlot) → Leads (decided t (says_insert x ∷ []) []) d e → entry_in e ≡ some c
    → (entry_in d ≡ some c) ⊎ ((k ≡ i) × (x ≡ c))
unfolding decided
insert-from k i x c (yes h) d e r w = inr (h, go r.1)
  where
    go : Acts (says_insert x) d r.0 → x ≡ c
    go (acts-insert p q) = cc (ap entry_in q, ap entry_in r.2)
insert-from k i x c (no h) d e r w = inl (ap entry_in r ∙ w)

name-from : {P : Type 0} (n : List ℕ) (c : Entry) (t : Dec P) (d e : DecoderSlot) → Leads (decided t (says_name n ∷ []) []) d e → entry_in e ≡ entry_in d
unfolding decided
name-from n c (yes h) d e r = go r.1
  where
    go : Acts (says_name n) d r.0 → entry_in e ≡ entry_in d
    go (acts-name y p q t) = cc (ap entry_in p, ap entry_in t, ap entry_in r.2)
name-from n c (no h) d e r = ap entry_in (sym r)

delete-from : {P : Type 0} (ls : DeleteLists) (t : Dec P) (d e : DecoderSlot) → Leads (decided t (says_delete ls ∷ []) []) d e → entry_in e ≡ entry_in d
unfolding decided
delete-from ls (yes h) d e r = go r.1
  where
    go : Acts (says_delete ls) d r.0 → entry_in e ≡ entry_in d
    go (acts-delete y p q) = cc (ap entry_in p, ap entry_in q, ap entry_in r.2)
delete-from ls (no h) d e r = ap entry_in (sym r)

about-from : (x : Note) (i : ℕ) (c : Entry) (d e : DecoderSlot) → Leads (about i x) d e → entry_in e ≡ some c → (entry_in d ≡ some c) ⊎ Inserts x i c
unfolding about
about-from (note_insert k y) i c d e r w = insert-from k i y c (ℕ_discrete k i) d e r w
about-from (note_named k j y) i c d e r w =
    let s = leads-split (decided (ℕ_discrete j i) (says_name y.name ∷ []) []) (decided (ℕ_discrete k i) (says_insert y ∷ []) []) d e r in
    go s (insert-from k i y c (ℕ_discrete k i) s.middle e s.right w)
  where
    go : (s : Split (decided (ℕ_discrete j i) (says_name y.name ∷ []) []) (decided (ℕ_discrete k i) (says_insert y ∷ []) []) d e)
        → (entry_in s.middle ≡ some c) ⊎ ((k ≡ i) × (y ≡ c)) → (entry_in d ≡ some c) ⊎ ((k ≡ i) × (y ≡ c))
    go s (inl h) = inl (sym (name-from y.name c (ℕ_discrete j i) d s.middle s.left) ∙ h)
    go s (inr h) = inr h
about-from (note_delete k ls) i c d e r w = inl (sym (delete-from ls (ℕ_discrete k i) d e r) ∙ w)

pub came_from : (k i : ℕ) (c : Entry) (m : List SentNote) (d e : DecoderSlot) → NumbersBelow k m → Leads (messages i m) d e → entry_in e ≡ some c
    → (entry_in d ≡ some c) ⊎ InsertUnread k i c m
unfolding messages
came_from k i c [] d e b r w = inl (ap entry_in r ∙ w)
came_from k i c (x ∷ m) d e b r w =
    let s = leads-split (about i x.note) (messages i m) d e r in
    go s (came_from k i c m s.middle e b.1 s.right w)
  where
    step : (entry_in d ≡ some c) ⊎ Inserts x.note i c → (entry_in d ≡ some c) ⊎ (((x.number < k) × Inserts x.note i c) ⊎ InsertUnread k i c m)
    step (inl h) = inl h
    step (inr h) = inr (inl (b.0, h))

    go : (s : Split (about i x.note) (messages i m) d e) → (entry_in s.middle ≡ some c) ⊎ InsertUnread k i c m
        → (entry_in d ≡ some c) ⊎ (((x.number < k) × Inserts x.note i c) ⊎ InsertUnread k i c m)
    go s (inl h) = step (about-from x.note i c d s.middle s.left h)
    go s (inr h) = inr (inr h)
