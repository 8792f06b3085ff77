-- The encoder's table agrees with what happened: the entry at each index, whether it is held, and whether it is under deletion.
-- By the ways of each call: what it changes at an index is what the thing that happened in it changes there.
use mathlib.Core.Path.{◌≡◌, refl, sym, ap, ◌∙◌}
use Prim.Native.Nat.{ℕ}
use mathlib.Core.Bool.{Bool, true, false}
use mathlib.Core.Option
use mathlib.Core.Option.{Option, none, some}
use mathlib.Core.List.{List, [], ◌∷◌, ◌++◌, map}
use lib.Dec.{eqb}
use borrow.Author.Tests.{eqb-true, eqb-false}
use Rattle.memory.specs.Choice.{pick}
use Rattle.memory.proofs.Order.{pick-both}
use Rattle.wire.specs.Name.{literal}
use Rattle.stream_lists.specs.StreamList.{StreamList}
use Rattle.instructions.specs.Instruction.{insert, delete, acknowledge}
use Rattle.blocks.specs.Representation.{Representation}
use Rattle.blocks.specs.Meaning.{Slot, vacant, holds, block_references}
use Rattle.model.specs.Table.{Ascending, look, put, cut}
use Rattle.model.specs.Parts.{Part, nontrailer, trailer, Delete}
use Rattle.model.specs.Outcome.{Output, nothing, instruction, block, fields, Outcome}
use Rattle.model.specs.Decoder.{name_bytes, is_some}
use Rattle.model.specs.Encoder.{Encoder, Sent, sent_index, new_sent, empty_list, as_deleted, mark_deleted, mentions, referred, refer}
use Rattle.model.specs.EncoderCalls.{EncoderCall, encoder_call}
use Rattle.model.specs.EncoderCalls as at-encoder
use Rattle.model.specs.Happened.{Happened, inserted, deleted, freed, after, held_by, deletion_by, Contents, empty, named, entry_of, contents_by}
use Rattle.model_laws.proofs.HappenedLists.{after-append}
use Rattle.model_laws.proofs.Tables.{nope, pick-eq, look-put, look-cut, look-map, look-index, vacant-free}
use Rattle.model_laws.proofs.EncoderWays as encoder
use Rattle.model_laws.proofs.Order.{delete-index, refer-index}
use Rattle.model_laws.proofs.SentChanges.{delete-entry, refer-entry}

-- ---- what happened in a call, by the call and what it left

-- the delete that was written
unfoldable pub wrote_delete : Output → List Happened
wrote_delete nothing = []
wrote_delete (instruction (insert i name value)) = []
wrote_delete (instruction (delete i first last)) = deleted (record { index = i; nontrailer = first; trailer = last }) ∷ []
wrote_delete (instruction (acknowledge i)) = []
wrote_delete (block rs) = []
wrote_delete (fields fs) = []

unfoldable pub sent_happened : EncoderCall → Outcome Encoder → List Happened
sent_happened (at-encoder.insert name value room) o =
    pick (eqb o.answer.number 0) (inserted o.answer.second (literal name) value ∷ []) []
sent_happened (at-encoder.delete i room) o = wrote_delete o.output
sent_happened (at-encoder.block s part fs room) o = []
sent_happened (at-encoder.acknowledged i taken) o = pick (eqb o.answer.number 0) (freed i ∷ []) []
sent_happened (at-encoder.unread number) o = []

-- ---- a table, and what was told of each index: its entry, whether it is held, its deletion
unfoldable pub held_slot : Option Sent → Slot
held_slot none = vacant
held_slot (some e) = holds e.entry

unfoldable pub under_deletion : Option Sent → Bool
under_deletion none = false
under_deletion (some e) = e.deleted

pub record Told (l : List Sent) (t : Contents) (h : ℕ → Bool) (d : ℕ → Option Delete) : Type 0 where
  pub entries : (i : ℕ) → t i ≡ held_slot (look sent_index i l)
  pub held : (i : ℕ) → h i ≡ is_some (look sent_index i l)
  pub deletion : (i : ℕ) → is_some (d i) ≡ under_deletion (look sent_index i l)

-- the same after more has happened
abbrev pub ToldAfter : Contents → (ℕ → Bool) → (ℕ → Option Delete) → List Happened → List Sent → Type 0
ToldAfter t h d hs l = Told l (after contents_by t hs) (λ i. after (held_by i) (h i) hs) (λ i. after (deletion_by i) (d i) hs)

-- what happened in two lists, one after the other
pub told-append : (t : Contents) (h : ℕ → Bool) (d : ℕ → Option Delete) (l : List Sent) (xs ys : List Happened)
    → ToldAfter (after contents_by t xs) (λ i. after (held_by i) (h i) xs) (λ i. after (deletion_by i) (d i) xs) ys l → ToldAfter t h d (xs ++ ys) l
told-append t h d l xs ys T = record {
  entries = λ i. ap (λ (c : Contents). c i) (after-append contents_by t xs ys) ∙ T.entries i;
  held = λ i. after-append (held_by i) (h i) xs ys ∙ T.held i;
  deletion = λ i. ap is_some (after-append (deletion_by i) (d i) xs ys) ∙ T.deletion i;
}

-- ---- what a delete and a block change of an entry's deletion
delete-gone : (i : ℕ) (e : Sent) → e.index ≡ i → under_deletion (some (mark_deleted i e)) ≡ true
unfolding mark_deleted under_deletion
delete-gone i e q = pick-eq (λ (x : Sent). x.deleted ≡ true) e.index i (as_deleted e) e (λ z. refl) (λ z. absurd (z q))

delete-kept : (i : ℕ) (e : Sent) → (e.index ≡ i → ⊥) → under_deletion (some (mark_deleted i e)) ≡ under_deletion (some e)
unfolding mark_deleted under_deletion
delete-kept i e n = pick-eq (λ (x : Sent). x.deleted ≡ e.deleted) e.index i (as_deleted e) e (λ z. absurd (n z)) (λ z. refl)

referred-gone : (s : ℕ) (p : Part) (e : Sent) → (referred s p e).deleted ≡ e.deleted
unfolding referred
referred-gone s nontrailer e = refl
referred-gone s trailer e = refl

refer-gone : (s : ℕ) (p : Part) (rs : List Representation) (e : Sent) → under_deletion (some (refer s p rs e)) ≡ under_deletion (some e)
unfolding refer under_deletion
refer-gone s p rs e =
    pick-both (λ (x : Sent). x.deleted ≡ e.deleted) (mentions (block_references rs) e.index) (referred s p e) e (λ z. referred-gone s p e) (λ z. refl)

module _ (l : List Sent) (t : Contents) (h : ℕ → Bool) (d : ℕ → Option Delete) (T : Told l t h d) where
  -- ---- nothing happened
  told-nothing : ToldAfter t h d [] l
  unfolding after
  told-nothing = T

  -- ---- an insert
  told-put : (j : ℕ) (name value : List ℕ) → look sent_index j l ≡ none
      → ToldAfter t h d (inserted j (literal name) value ∷ []) (put sent_index (new_sent j name value) l)
  unfolding after contents_by held_by deletion_by entry_of named name_bytes held_slot under_deletion
  told-put j name value free = record {
    entries = λ i. rw (look-put sent_index i x l free) (entry i (eqb j i));
    held = λ i. rw (look-put sent_index i x l free) (holding i (eqb j i));
    deletion = λ i. rw (look-put sent_index i x l free) (gone i (eqb j i) refl);
  }
    where
      x : Sent
      x = new_sent j name value

      entry : (i : ℕ) (b : Bool) → pick b (holds (record { name = name; value = value })) (t i) ≡ held_slot (pick b (some (new_sent j name value)) (look sent_index i l))
      entry i true = refl
      entry i false = T.entries i

      holding : (i : ℕ) (b : Bool) → pick b true (h i) ≡ is_some (pick b (some (new_sent j name value)) (look sent_index i l))
      holding i true = refl
      holding i false = T.held i

      gone : (i : ℕ) (b : Bool) → eqb j i ≡ b → is_some (d i) ≡ under_deletion (pick b (some (new_sent j name value)) (look sent_index i l))
      gone i true e = T.deletion i ∙ ap under_deletion (ap (λ (k : ℕ). look sent_index k l) (sym (eqb-true j i e)) ∙ free)
      gone i false e = T.deletion i

  -- ---- an entry freed
  told-cut : (j : ℕ) → Ascending sent_index 62 l → ToldAfter t h d (freed j ∷ []) (cut sent_index j l)
  unfolding after contents_by held_by deletion_by held_slot under_deletion
  told-cut j a = record {
    entries = λ i. rw (look-cut sent_index j i 62 l a) (entry i (eqb j i));
    held = λ i. rw (look-cut sent_index j i 62 l a) (holding i (eqb j i));
    deletion = λ i. rw (look-cut sent_index j i 62 l a) (gone i (eqb j i));
  }
    where
      entry : (i : ℕ) (b : Bool) → pick b vacant (t i) ≡ held_slot (pick b none (look sent_index i l))
      entry i true = refl
      entry i false = T.entries i

      holding : (i : ℕ) (b : Bool) → pick b false (h i) ≡ is_some (pick b none (look sent_index i l))
      holding i true = refl
      holding i false = T.held i

      gone : (i : ℕ) (b : Bool) → is_some (pick b none (d i)) ≡ under_deletion (pick b none (look sent_index i l))
      gone i true = refl
      gone i false = T.deletion i

  -- ---- entries changed in place: neither their index nor what they hold
  module _ (f : Sent → Sent) (index : (e : Sent) → (f e).index ≡ e.index) (entry : (e : Sent) → (f e).entry ≡ e.entry) where
    map-slot : (o : Option Sent) → held_slot (Option.map f o) ≡ held_slot o
    unfolding held_slot
    map-slot none = refl
    map-slot (some e) = ap holds (entry e)

    map-some : (o : Option Sent) → is_some (Option.map f o) ≡ is_some o
    map-some none = refl
    map-some (some e) = refl

    told-map : (e : ℕ → Option Delete) → ((i : ℕ) → is_some (e i) ≡ under_deletion (Option.map f (look sent_index i l))) → Told (map f l) t h e
    told-map e gone = record {
      entries = λ i. rw (look-map sent_index f index i l) (T.entries i ∙ sym (map-slot (look sent_index i l)));
      held = λ i. rw (look-map sent_index f index i l) (T.held i ∙ sym (map-some (look sent_index i l)));
      deletion = λ i. rw (look-map sent_index f index i l) (gone i);
    }

  -- a block: no deletion
  told-refer : (s : ℕ) (p : Part) (rs : List Representation) → ToldAfter t h d [] (map (refer s p rs) l)
  unfolding after
  told-refer s p rs =
      told-map (refer s p rs) (refer-index s p rs) (refer-entry s p rs) d (λ i. T.deletion i ∙ sym (gone (look sent_index i l)))
    where
      gone : (o : Option Sent) → under_deletion (Option.map (refer s p rs) o) ≡ under_deletion o
      gone none = refl
      gone (some e) = refer-gone s p rs e

  -- a delete: of the entry that it found
  told-delete : (e : Sent) (first last : StreamList) → look sent_index e.index l ≡ some e
      → ToldAfter t h d (deleted (record { index = e.index; nontrailer = first; trailer = last }) ∷ []) (map (mark_deleted e.index) l)
  unfolding after contents_by held_by deletion_by
  told-delete e first last there =
      told-map (mark_deleted e.index) (delete-index e.index) (delete-entry e.index) (λ i. pick (eqb e.index i) (some x) (d i))
      (λ i. go i (look sent_index i l) refl (eqb e.index i) refl)
    where
      x : Delete
      x = record { index = e.index; nontrailer = first; trailer = last }

      go : (i : ℕ) (o : Option Sent) → look sent_index i l ≡ o → (b : Bool) → eqb e.index i ≡ b
          → is_some (pick b (some x) (d i)) ≡ under_deletion (Option.map (mark_deleted e.index) o)
      go i none q true z = let n = ap (λ (k : ℕ). look sent_index k l) (eqb-true e.index i z) in nope (cc)
      go i none q false z = T.deletion i ∙ ap under_deletion q
      go i (some y) q true z = sym (delete-gone e.index y (look-index sent_index i l y q ∙ sym (eqb-true e.index i z)))
      go i (some y) q false z =
          T.deletion i ∙ ap under_deletion q
          ∙ sym (delete-kept e.index y (λ w. eqb-false e.index i z (sym w ∙ look-index sent_index i l y q)))

-- ---- every call
module _ (t : Contents) (h : ℕ → Bool) (d : ℕ → Option Delete) (E : Encoder) (a : Ascending sent_index 62 E.entries)
    (T : Told E.entries t h d) where
  -- a call that was refused, of whose tests one chooses what happened
  told-refused : (n : ℕ) (hs : List Happened) → eqb n 0 ≡ false → ToldAfter t h d (pick (eqb n 0) hs []) E.entries
  told-refused n hs z = rw z (told-nothing E.entries t h d T)

  pub told-call : (c : EncoderCall) → ToldAfter t h d (sent_happened c (encoder_call E c)) (encoder_call E c).state.entries
  unfolding encoder_call sent_happened wrote_delete
  told-call (at-encoder.insert name value room) =
      encoder.insert-ways (λ o. ToldAfter t h d (sent_happened (at-encoder.insert name value room) o) o.state.entries) E
      (λ n z. told-refused n.number _ z) name value room
      (λ j q f g m o. told-put E.entries t h d T j name value (rw q (vacant-free sent_index 62 E.entries a)))
  told-call (at-encoder.delete i room) =
      encoder.delete-ways (λ o. ToldAfter t h d (wrote_delete o.output) o.state.entries) E
      (λ n z. told-nothing E.entries t h d T) i room
      (λ e f g m. told-delete E.entries t h d T e (empty_list e.nontrailer) (empty_list e.trailer)
      (ap (λ (k : ℕ). look sent_index k E.entries) (look-index sent_index i E.entries e f) ∙ f))
  told-call (at-encoder.block s part fs room) =
      encoder.block-ways (λ o. ToldAfter t h d [] o.state.entries) E (λ n z. told-nothing E.entries t h d T) s part fs room
      (λ p rs q f g m n o. told-refer E.entries t h d T s p rs)
  told-call (at-encoder.acknowledged i taken) =
      encoder.acknowledged-ways (λ o. ToldAfter t h d (sent_happened (at-encoder.acknowledged i taken) o) o.state.entries) E
      (λ n z. told-refused n.number _ z) i taken
      (λ e f g. rw (look-index sent_index i E.entries e f) (told-cut E.entries t h d T i a))
  told-call (at-encoder.unread number) = told-nothing E.entries t h d T

-- at the start
pub told-start : Told [] empty (λ i. false) (λ i. none)
unfolding look held_slot under_deletion
told-start = record { entries = λ i. refl; held = λ i. refl; deletion = λ i. refl }
