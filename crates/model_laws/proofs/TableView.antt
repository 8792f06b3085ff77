-- The decoder's lists changed, seen as functions of the index changed at one place. By two facts each: what stands at the place, and that
-- nothing else changes.
use mathlib.Core.Path.{◌≡◌, refl, sym, ap, ◌∙◌, subst, fun_ext}
use Prim.Native.Nat.{ℕ}
use mathlib.Core.Bool.{false}
use mathlib.Core.Option.{Option, none, some}
use mathlib.Core.List.{List, [], ◌∷◌, ◌++◌}
use Rattle.statics.specs.Table.{Entry}
use Rattle.model.specs.Table.{look, put}
use Rattle.model.specs.Parts.{Delete}
use Rattle.model.specs.Decoder.{Held, held_index, delete_index, Decoder, with_entries, is_some, without, FormsDecoder}
use Rattle.model_laws.proofs.Tables.{nope, pick_yes, pick_no, look-index, look-put, look-cut}
use Rattle.model_laws.proofs.Deletes.{look-append, look-append-some, look-cut-distinct}
use Rattle.model_laws.proofs.DecoderWays.{with_delete}
use Rattle.model_laws.proofs.Slots.Functions.{set_at, set_here, set-elsewhere, same_or_not}
use Rattle.model_laws.proofs.Slots.Machine.{empty_slot, live_slot, deleted_slot, entry_in}
use Rattle.model_laws.proofs.View.{lists_of, slot_at, slots_of}

-- g is f with another value at k
pub is-set {ℓ} : {A : Type ℓ} (f g : ℕ → A) (k : ℕ) (a : A) → g k ≡ a → ((i : ℕ) → (k ≡ i → ⊥) → g i ≡ f i) → g ≡ set_at k a f
is-set f g k a hit miss =
    fun_ext (λ i. same_or_not k i
    (λ e. subst (λ (t : ℕ). g t ≡ set_at k a f t) e (hit ∙ sym (set_here k a f)))
    (λ n. miss i n ∙ sym (set-elsewhere k i a f n)))

-- ---- what is held
held-slot : (o : Option Held) (d : Option Delete) → is_some (entry_in (slot_at o d)) ≡ is_some o
held-slot none d = refl
held-slot (some h) none = refl
held-slot (some h) (some d) = refl

pub held-view : (D : Decoder) (i : ℕ) → is_some (entry_in (slots_of D i)) ≡ is_some (look held_index i D.entries)
unfolding slots_of
held-view D i = held-slot (look held_index i D.entries) (look delete_index i D.deletes)

-- ---- the table
module _ (D : Decoder) (F : FormsDecoder D) where
  -- what is not held is not under deletion
  pub no-delete : (i : ℕ) → look held_index i D.entries ≡ none → look delete_index i D.deletes ≡ none
  no-delete i e = go (look delete_index i D.deletes) refl
    where
      go : (o : Option Delete) → look delete_index i D.deletes ≡ o → o ≡ none
      go none q = refl
      go (some d) q =
          let there = (F.deletes i d q).held in
          let same = look-index delete_index i D.deletes d q in
          let gone : is_some (look held_index d.index D.entries) ≡ false = rw same (ap is_some e) in
          nope (cc)

  pub slots-put : (h : Held) → look held_index h.index D.entries ≡ none
      → slots_of (with_entries D (put held_index h D.entries)) ≡ set_at h.index (live_slot h.entry) (slots_of D)
  unfolding slots_of
  slots-put h e =
      is-set (slots_of D) (slots_of (with_entries D (put held_index h D.entries))) h.index (live_slot h.entry)
      (rw (look-put held_index h.index h D.entries e ∙ pick_yes h.index h.index _ _ refl, no-delete h.index e))
      (λ i n. rw (look-put held_index i h D.entries e ∙ pick_no h.index i _ _ n))

  pub slots-cut : (k : ℕ) → slots_of (without D k) ≡ set_at k empty_slot (slots_of D)
  unfolding slots_of without
  slots-cut k =
      is-set (slots_of D) (slots_of (without D k)) k empty_slot
      (rw (look-cut held_index k k 62 D.entries F.order ∙ pick_yes k k _ _ refl))
      (λ i n. rw (
        look-cut held_index k i 62 D.entries F.order ∙ pick_no k i _ _ n,
        look-cut-distinct delete_index k i D.deletes F.once ∙ pick_no k i _ _ n,
      ))

-- a delete kept, of an entry that is held and not under deletion
delete-hit : (l : List Delete) (d : Delete) → look delete_index d.index l ≡ none → look delete_index d.index (l ++ (d ∷ [])) ≡ some d
unfolding look
delete-hit l d e = look-append delete_index d.index l (d ∷ []) e ∙ pick_yes d.index d.index _ _ refl

delete-miss : (l : List Delete) (d : Delete) (i : ℕ) → (d.index ≡ i → ⊥) → look delete_index i (l ++ (d ∷ [])) ≡ look delete_index i l
unfolding look
delete-miss l d i n = go (look delete_index i l) refl
  where
    go : (o : Option Delete) → look delete_index i l ≡ o → look delete_index i (l ++ (d ∷ [])) ≡ o
    go none e = look-append delete_index i l (d ∷ []) e ∙ pick_no d.index i _ _ n
    go (some x) e = look-append-some delete_index i l (d ∷ []) x e

pub slots-delete : (D : Decoder) (d : Delete) (h : Held) → look held_index d.index D.entries ≡ some h
    → look delete_index d.index D.deletes ≡ none → slots_of (with_delete D d) ≡ set_at d.index (deleted_slot h.entry (lists_of d)) (slots_of D)
unfolding slots_of
slots-delete D d h e q =
    is-set (slots_of D) (slots_of (with_delete D d)) d.index (deleted_slot h.entry (lists_of d))
    (rw (e, delete-hit D.deletes d q))
    (λ i n. rw (delete-miss D.deletes d i n))

-- ---- what is vacant
is_none : (o : Option Entry) → is_some o ≡ false → o ≡ none
is_none none e = refl
is_none (some c) e = nope (cc)

pub vacant-there : (D : Decoder) (i : ℕ) → is_some (look held_index i D.entries) ≡ false → entry_in (slots_of D i) ≡ none
vacant-there D i e = is_none (entry_in (slots_of D i)) (held-view D i ∙ e)

pub vacant-back : (D : Decoder) (i : ℕ) → entry_in (slots_of D i) ≡ none → is_some (look held_index i D.entries) ≡ false
vacant-back D i e = sym (held-view D i) ∙ ap is_some e
