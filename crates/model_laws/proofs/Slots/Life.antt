-- The life of one slot of the link: what each message does to the decoder's slot, where reading all of them leads, and that this fits the
-- encoder's slot and the acknowledgements on the way. By the cases of the four states that fit.
use mathlib.Core.Path.{◌≡◌, refl, sym, ap, ◌∙◌}
use Prim.Native.Nat.{ℕ}
use mathlib.Core.Option.{none}
use mathlib.Core.List.{List, [], ◌∷◌, ◌++◌}
use Rattle.statics.specs.Table.{Entry}
use Rattle.model_laws.proofs.Tables.{nope}
use Rattle.model_laws.proofs.Slots.Machine.{DeleteLists, DecoderSlot, empty_slot, live_slot, deleted_slot, entry_in}
use Rattle.model_laws.proofs.Slots.Messages.{EncoderSlot, free_sent, live_sent, deleted_sent, SlotMessage, says_insert, says_name, says_delete}

-- what one accepted message does to the decoder's slot
pub data Acts : SlotMessage → DecoderSlot → DecoderSlot → Type 0 where
  acts-insert : {c : Entry} {d e : DecoderSlot} → d ≡ empty_slot → e ≡ live_slot c → Acts (says_insert c) d e
  acts-name : {n : List ℕ} {d e : DecoderSlot} (c : Entry) → d ≡ live_slot c → c.name ≡ n → e ≡ live_slot c → Acts (says_name n) d e
  acts-delete : {ls : DeleteLists} {d e : DecoderSlot} (c : Entry) → d ≡ live_slot c → e ≡ deleted_slot c ls → Acts (says_delete ls) d e

-- reading the messages takes the decoder's slot from d to e, none of them refused
abbrev pub Leads : List SlotMessage → DecoderSlot → DecoderSlot → Type 0
Leads [] d e = d ≡ e
Leads (x ∷ m) d e = (f : DecoderSlot) × Acts x d f × Leads m f e

-- the decoder's slot, all read, beside the encoder's and the acknowledgements on the way
pub data Fits (e : EncoderSlot) (d : DecoderSlot) (a : List Entry) : Type 0 where
  fits-free : e ≡ free_sent → d ≡ empty_slot → a ≡ [] → Fits e d a
  fits-live : (c : Entry) (ls : DeleteLists) → e ≡ live_sent c ls → d ≡ live_slot c → a ≡ [] → Fits e d a
  fits-deleted : (c : Entry) (ls : DeleteLists) → e ≡ deleted_sent c ls → d ≡ deleted_slot c ls → a ≡ [] → Fits e d a
  fits-freed : (c : Entry) (ls : DeleteLists) → e ≡ deleted_sent c ls → d ≡ empty_slot → a ≡ c ∷ [] → Fits e d a

-- the slot is as it should be: all that is unread leads to a slot that fits
pub record GoodSlot (e : EncoderSlot) (d : DecoderSlot) (m : List SlotMessage) (a : List Entry) : Type 0 where
  pub then : DecoderSlot
  pub leads : Leads m d then
  pub fits : Fits e then a

-- ---- where messages lead

-- an insert finds its slot empty
pub insert-empty : (c : Entry) (d e : DecoderSlot) → Acts (says_insert c) d e → entry_in d ≡ none
insert-empty c d e (acts-insert p q) = ap entry_in p

pub leads-join : (m n : List SlotMessage) (d e f : DecoderSlot) → Leads m d e → Leads n e f → Leads (m ++ n) d f
leads-join [] n d e f r s = rw r s
leads-join (x ∷ m) n d e f r s = (r.0, r.1, leads-join m n r.0 e f r.2 s)

pub record Split (m n : List SlotMessage) (d f : DecoderSlot) : Type 0 where
  pub middle : DecoderSlot
  pub left : Leads m d middle
  pub right : Leads n middle f

pub leads-split : (m n : List SlotMessage) (d f : DecoderSlot) → Leads (m ++ n) d f → Split m n d f
leads-split [] n d f r = record { middle = d; left = refl; right = r }
leads-split (x ∷ m) n d f r =
    let s = leads-split m n r.0 f r.2 in
    record { middle = s.middle; left = (r.0, r.1, s.left); right = s.right }

-- nothing is said of a slot under deletion, and what is said leaves the slot held
acts-deleted : (x : SlotMessage) (d e : DecoderSlot) (c : Entry) (ls : DeleteLists) → Acts x d e → d ≡ deleted_slot c ls → ⊥
acts-deleted x d e c ls (acts-insert p q) h = nope (cc)
acts-deleted x d e c ls (acts-name y p q r) h = nope (cc)
acts-deleted x d e c ls (acts-delete y p q) h = nope (cc)

acts-held : (x : SlotMessage) (d e : DecoderSlot) → Acts x d e → entry_in e ≡ none → ⊥
acts-held x d e (acts-insert p q) h = let z = ap entry_in q in nope (cc)
acts-held x d e (acts-name y p q r) h = let z = ap entry_in r in nope (cc)
acts-held x d e (acts-delete y p q) h = let z = ap entry_in q in nope (cc)

pub leads-deleted : (m : List SlotMessage) (d e : DecoderSlot) (c : Entry) (ls : DeleteLists) → d ≡ deleted_slot c ls → Leads m d e
    → (m ≡ []) × (e ≡ deleted_slot c ls)
leads-deleted [] d e c ls h r = (refl, sym r ∙ h)
leads-deleted (x ∷ m) d e c ls h r = absurd (acts-deleted x d r.0 c ls r.1 h)

-- no message leads to an empty slot
pub leads_empty : (m : List SlotMessage) (d e : DecoderSlot) → entry_in e ≡ none → Leads m d e → (m ≡ []) × (d ≡ e)
leads_empty [] d e h r = (refl, r)
leads_empty (x ∷ m) d e h r =
    let k = leads_empty m r.0 e h r.2 in
    absurd (acts-held x d r.0 r.1 (ap entry_in k.1 ∙ h))

-- ---- a good slot stays good, whatever happens to it
pub insert-good : (e : EncoderSlot) (d : DecoderSlot) (m : List SlotMessage) (a : List Entry) (c : Entry) (ls : DeleteLists)
    → e ≡ free_sent → GoodSlot e d m a → GoodSlot (live_sent c ls) d (m ++ (says_insert c ∷ [])) a
insert-good e d m a c ls h g = go g.fits
  where
    go : Fits e g.then a → GoodSlot (live_sent c ls) d (m ++ (says_insert c ∷ [])) a
    go (fits-free x y z) = record {
      then = live_slot c;
      leads = leads-join m _ d _ _ g.leads (live_slot c, acts-insert y refl, refl);
      fits = fits-live c ls refl refl z;
    }
    go (fits-live x y p q r) = nope (cc)
    go (fits-deleted x y p q r) = nope (cc)
    go (fits-freed x y p q r) = nope (cc)

pub name-good : (e : EncoderSlot) (d : DecoderSlot) (m : List SlotMessage) (a : List Entry) (c : Entry) (ls : DeleteLists) (n : List ℕ)
    → e ≡ live_sent c ls → c.name ≡ n → GoodSlot e d m a → GoodSlot e d (m ++ (says_name n ∷ [])) a
name-good e d m a c ls n h k g = go g.fits
  where
    go : Fits e g.then a → GoodSlot e d (m ++ (says_name n ∷ [])) a
    go (fits-free x y z) = nope (cc)
    go (fits-live x y p q r) =
        let w : x ≡ c = cc in
        record {
          then = live_slot x;
          leads =
              leads-join m _ d _ _ g.leads
              (live_slot x, acts-name x q (ap (λ (t : Entry). t.name) w ∙ k) refl, refl);
          fits = fits-live x y p refl r;
        }
    go (fits-deleted x y p q r) = nope (cc)
    go (fits-freed x y p q r) = nope (cc)

pub delete-good : (e : EncoderSlot) (d : DecoderSlot) (m : List SlotMessage) (a : List Entry) (c : Entry) (ls ls' : DeleteLists)
    → e ≡ live_sent c ls → GoodSlot e d m a → GoodSlot (deleted_sent c ls') d (m ++ (says_delete ls' ∷ [])) a
delete-good e d m a c ls ls' h g = go g.fits
  where
    go : Fits e g.then a → GoodSlot (deleted_sent c ls') d (m ++ (says_delete ls' ∷ [])) a
    go (fits-free x y z) = nope (cc)
    go (fits-live x y p q r) =
        let w : x ≡ c = cc in
        record {
          then = deleted_slot c ls';
          leads = leads-join m _ d _ _ g.leads (deleted_slot c ls', acts-delete c (rw w at q) refl, refl);
          fits = fits-deleted c ls' refl refl r;
        }
    go (fits-deleted x y p q r) = nope (cc)
    go (fits-freed x y p q r) = nope (cc)

pub refer-good : (e : EncoderSlot) (d : DecoderSlot) (m : List SlotMessage) (a : List Entry) (c : Entry) (ls ls' : DeleteLists)
    → e ≡ live_sent c ls → GoodSlot e d m a → GoodSlot (live_sent c ls') d m a
refer-good e d m a c ls ls' h g = go g.fits
  where
    go : Fits e g.then a → GoodSlot (live_sent c ls') d m a
    go (fits-free x y z) = nope (cc)
    go (fits-live x y p q r) = record { then = g.then; leads = g.leads; fits = fits-live c ls' refl (cc) r }
    go (fits-deleted x y p q r) = nope (cc)
    go (fits-freed x y p q r) = nope (cc)

-- under deletion at the decoder: the encoder wrote those lists, nothing is on the way
pub deleted-good : (e : EncoderSlot) (d : DecoderSlot) (m : List SlotMessage) (a : List Entry) (c : Entry) (ls : DeleteLists)
    → d ≡ deleted_slot c ls → GoodSlot e d m a → (e ≡ deleted_sent c ls) × (m ≡ []) × (a ≡ [])
deleted-good e d m a c ls h g = go g.fits (leads-deleted m d g.then c ls h g.leads)
  where
    go : Fits e g.then a → (m ≡ []) × (g.then ≡ deleted_slot c ls) → (e ≡ deleted_sent c ls) × (m ≡ []) × (a ≡ [])
    go (fits-free x y z) w = let v = w.1 in nope (cc)
    go (fits-live x y p q r) w = let v = w.1 in nope (cc)
    go (fits-deleted x y p q r) w =
        let v = w.1 in
        let s : x ≡ c = cc in
        let t : y ≡ ls = cc in
        (p ∙ rw (s, t), w.0, r)
    go (fits-freed x y p q r) w = let v = w.1 in nope (cc)

pub collect-good : (e : EncoderSlot) (d : DecoderSlot) (m : List SlotMessage) (a : List Entry) (c : Entry) (ls : DeleteLists)
    → d ≡ deleted_slot c ls → GoodSlot e d m a → GoodSlot e empty_slot m (a ++ (c ∷ []))
collect-good e d m a c ls h g =
    let w = deleted-good e d m a c ls h g in
    record { then = empty_slot; leads = rw w.1; fits = fits-freed c ls w.0 refl (rw w.2) }

pub record AckTaken (e : EncoderSlot) (d : DecoderSlot) (m : List SlotMessage) (a : List Entry) (c : Entry) : Type 0 where
  pub lists : DeleteLists
  pub was-gone : e ≡ deleted_sent c lists
  pub good : GoodSlot free_sent d m a

pub ack-good : (e : EncoderSlot) (d : DecoderSlot) (m : List SlotMessage) (a : List Entry) (c : Entry) → GoodSlot e d m (c ∷ a) → AckTaken e d m a c
ack-good e d m a c g = go g.fits
  where
    go : Fits e g.then (c ∷ a) → AckTaken e d m a c
    go (fits-free x y z) = nope (cc)
    go (fits-live x y p q r) = nope (cc)
    go (fits-deleted x y p q r) = nope (cc)
    go (fits-freed x y p q r) =
        let s : x ≡ c = cc in
        let t : a ≡ [] = cc in
        record { lists = y; was-gone = p ∙ rw s; good = record { then = g.then; leads = g.leads; fits = fits-free refl q t } }
