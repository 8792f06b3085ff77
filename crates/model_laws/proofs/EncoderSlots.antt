-- The encoder's table seen as slots: what each change of the list is to the function of the index, and to the size. By what is
-- found in the list after it.
use mathlib.Core.Path.{◌≡◌, refl, sym, ap, ◌∙◌, fun_ext}
use Prim.Native.Nat.{ℕ, ◌+◌, ◌-◌}
use native.Mathlib.Decide.{ℕ_discrete}
use native.Mathlib.Omega.{arith}
use mathlib.Core.Bool.{Bool, true, false}
use mathlib.Core.Option
use mathlib.Core.Option.{Option, none, some}
use mathlib.Core.List.{List, map}
use lib.Dec.{eqb}
use Rattle.memory.specs.Choice.{pick}
use Rattle.statics.specs.Table.{Entry}
use Rattle.blocks.specs.Representation.{Representation}
use Rattle.model.specs.Table.{size, Ascending, look, put, cut}
use Rattle.model.specs.Parts.{Part}
use Rattle.model.specs.Encoder.{Sent, sent_index, sent_size, mark_deleted, refer}
use Rattle.model_laws.proofs.Tables.{nope, pick-eq, pick_yes, pick_no, look-index, look-put, look-cut, look-map, total-put, total-cut, total-map}
use Rattle.model_laws.proofs.Order.{delete-index, refer-index}
use Rattle.model_laws.proofs.SentChanges.{delete-entry, refer-entry}
use Rattle.model_laws.proofs.Slots.Functions.{set_at}
use Rattle.model_laws.proofs.Slots.Functions as functions
use Rattle.model_laws.proofs.Slots.Machine.{DeleteLists}
use Rattle.model_laws.proofs.Slots.Messages.{EncoderSlot, free_sent, live_sent, deleted_sent}
use Rattle.model_laws.proofs.View.{lists_sent, slot_sent, slot_of_sent, slots_sent}

-- a choice by two indexes is a change of one place
pub set-eqb {ℓ} : {A : Type ℓ} (k j : ℕ) (a : A) (f : ℕ → A) → pick (eqb k j) a (f j) ≡ set_at k a f j
unfolding set_at
set-eqb k j a f =
    pick-eq (λ t. t ≡ functions.decided (ℕ_discrete k j) a (f j)) k j a (f j)
    (λ e. sym (functions.decided-yes (ℕ_discrete k j) a (f j) e)) (λ e. sym (functions.decided-no (ℕ_discrete k j) a (f j) e))

slot-pick : (b : Bool) (x y : Option Sent) → slot_of_sent (pick b x y) ≡ pick b (slot_of_sent x) (slot_of_sent y)
slot-pick true x y = refl
slot-pick false x y = refl

-- ---- one slot

pub slots-free : (l : List Sent) (k : ℕ) → look sent_index k l ≡ none → slots_sent l k ≡ free_sent
unfolding slots_sent
slots-free l k h = ap slot_of_sent h

pub slots-live : (l : List Sent) (k : ℕ) (e : Sent) → look sent_index k l ≡ some e → e.deleted ≡ false → slots_sent l k ≡ live_sent e.entry (lists_sent e)
unfolding slots_sent
slots-live l k e h d = ap slot_of_sent h ∙ ap (λ (b : Bool). slot_sent b e.entry (lists_sent e)) d

-- an entry under deletion that holds c
pub record DeletedEntry (l : List Sent) (k : ℕ) (c : Entry) : Type 0 where
  pub sent : Sent
  pub found : look sent_index k l ≡ some sent
  pub holds : sent.entry ≡ c
  pub deleted : sent.deleted ≡ true

pub slots-deleted : (l : List Sent) (k : ℕ) (c : Entry) (ls : DeleteLists) → slots_sent l k ≡ deleted_sent c ls → DeletedEntry l k c
unfolding slots_sent
slots-deleted l k c ls h = go (look sent_index k l) refl h
  where
    by-mark : (e : Sent) → look sent_index k l ≡ some e → (b : Bool) → e.deleted ≡ b → slot_sent b e.entry (lists_sent e) ≡ deleted_sent c ls
        → DeletedEntry l k c
    by-mark e q true d s = record { sent = e; found = q; holds = cc; deleted = d }
    by-mark e q false d s = nope (cc)

    go : (o : Option Sent) → look sent_index k l ≡ o → slot_of_sent o ≡ deleted_sent c ls → DeletedEntry l k c
    go none q s = nope (cc)
    go (some e) q s = by-mark e q e.deleted refl s

-- ---- the changes

pub slots-put : (l : List Sent) (x : Sent) → look sent_index x.index l ≡ none
    → slots_sent (put sent_index x l) ≡ set_at x.index (slot_of_sent (some x)) (slots_sent l)
unfolding slots_sent
slots-put l x h =
    fun_ext (λ j.
    ap slot_of_sent (look-put sent_index j x l h) ∙ slot-pick (eqb x.index j) (some x) (look sent_index j l)
    ∙ set-eqb x.index j (slot_of_sent (some x)) (slots_sent l))

pub slots-cut : (l : List Sent) (k lo : ℕ) → Ascending sent_index lo l → slots_sent (cut sent_index k l) ≡ set_at k free_sent (slots_sent l)
unfolding slots_sent
slots-cut l k lo a =
    fun_ext (λ j.
    ap slot_of_sent (look-cut sent_index k j lo l a) ∙ slot-pick (eqb k j) none (look sent_index j l) ∙ set-eqb k j free_sent (slots_sent l))

pub slots-delete : (l : List Sent) (k : ℕ) (e : Sent) → look sent_index k l ≡ some e
    → slots_sent (map (mark_deleted k) l) ≡ set_at k (deleted_sent e.entry (lists_sent e)) (slots_sent l)
unfolding slots_sent mark_deleted
slots-delete l k e h =
    fun_ext (λ j.
    ap slot_of_sent (look-map sent_index (mark_deleted k) (delete-index k) j l) ∙ go j (look sent_index j l) refl
    ∙ set-eqb k j (deleted_sent e.entry (lists_sent e)) (slots_sent l))
  where
    go : (j : ℕ) (o : Option Sent) → look sent_index j l ≡ o
        → slot_of_sent (Option.map (mark_deleted k) o) ≡ pick (eqb k j) (deleted_sent e.entry (lists_sent e)) (slot_of_sent o)
    go j none m =
        pick-eq (λ (t : EncoderSlot). free_sent ≡ t) k j (deleted_sent e.entry (lists_sent e)) free_sent
        (λ p. let q = ap (λ (t : ℕ). look sent_index t l) p in nope (cc)) (λ p. refl)
    go j (some x) m =
        let xi = look-index sent_index j l x m in
        pick-eq (λ (t : Sent). slot_of_sent (some t) ≡ pick (eqb k j) (deleted_sent e.entry (lists_sent e)) (slot_of_sent (some x))) x.index k _ _
        (λ p. let q = ap (λ (t : ℕ). look sent_index t l) (sym p ∙ xi) in
        let z : x ≡ e = cc in
        ap (λ (t : Sent). deleted_sent t.entry (lists_sent t)) z ∙ sym (pick_yes k j _ _ (sym p ∙ xi)))
        (λ p. sym (pick_no k j _ _ (λ r. p (xi ∙ sym r))))

-- ---- the sizes

pub size-put : (l : List Sent) (x : Sent) → sent_size (put sent_index x l) ≡ sent_size l + size x.entry
unfolding sent_size
size-put l x = total-put sent_index (λ e. size e.entry) x l

pub size-cut : (l : List Sent) (k : ℕ) (e : Sent) → look sent_index k l ≡ some e → sent_size (cut sent_index k l) ≡ sent_size l - size e.entry
unfolding sent_size
size-cut l k e h = let t = total-cut sent_index (λ x. size x.entry) k l e h in omega arith

pub size-delete : (l : List Sent) (k : ℕ) → sent_size (map (mark_deleted k) l) ≡ sent_size l
unfolding sent_size
size-delete l k = total-map sent_index (mark_deleted k) (delete-index k) (λ e. size e.entry) (λ e. ap size (delete-entry k e)) l

pub size-refer : (l : List Sent) (s : ℕ) (p : Part) (rs : List Representation) → sent_size (map (refer s p rs) l) ≡ sent_size l
unfolding sent_size
size-refer l s p rs = total-map sent_index (refer s p rs) (refer-index s p rs) (λ e. size e.entry) (λ e. ap size (refer-entry s p rs e)) l
