-- A block is answered as its items are by the tables as functions, and the dynamic indexes that it names are the slots that its items name.
-- By cases on a representation and on whether its index is static.
use mathlib.Core.Path.{◌≡◌, refl, sym, ap, ◌∙◌, subst}
use mathlib.Core.Logic.{◌⊎◌, inl, inr, ⊎_elim}
use Prim.Native.Nat.{ℕ, ◌≤◌, ◌<◌}
use native.Mathlib.Omega.{arith}
use mathlib.Core.Bool.{Bool, true, false}
use mathlib.Core.Option.{Option, none, some}
use mathlib.Core.List.Memᴰ
use mathlib.Core.List.{List, [], ◌∷◌}
use lib.ListN.{length}
use lib.Dec.{ltb}
use borrow.Author.Tests.{lt-ltb, le-leb}
use Rattle.memory.specs.Choice.{pick, need}
use Rattle.memory.proofs.Order.{need-true}
use Rattle.statics.specs.Table.{Entry, entry_at}
use Rattle.fields.specs.Form.{Field, list_form}
use Rattle.wire.specs.Name.{indexed as indexed_name, literal as by_bytes}
use Rattle.blocks.specs.Representation.{Representation, indexed, literal, AllFine}
use Rattle.blocks.specs.Meaning.{Slot, holds, is_static, with_statics, on_slot, field, field_meaning, BlockMeaning, list, after_field, block_meaning, block_references}
use Rattle.blocks.specs.Meaning.{Refers}
use Rattle.blocks.specs.Meaning as meaning
use Rattle.blocks.proofs.MeaningHeld.{static-above, above-static}
use Rattle.model.specs.Table.{look}
use Rattle.model.specs.Parts.{Part, part_of, in_turn, Delete, streams}
use Rattle.model.specs.Outcome.{Outcome, refuse, fields}
use Rattle.model.specs.Decoder.{Held, held_index, delete_index, Decoder, slot_in, lookup, give_fields, decode_part, decode_block}
use Rattle.model_laws.proofs.Tables.{nope}
use Rattle.model_laws.proofs.Slots.Machine.{Item, given, by_index, by_name, BlockAnswer, gives, waits_for, out_of_turn, entry_in, on_entry, entry_field}
use Rattle.model_laws.proofs.Slots.Machine.{field_named, names-index, names-name, names-later}
use Rattle.model_laws.proofs.Slots.Machine as machine
use Rattle.model_laws.proofs.View.{slot_at, slots_of, tables_of, slot_item, slot_items}

-- ---- what a block means
abbrev as_answer : BlockMeaning → BlockAnswer
as_answer (list fs) = gives fs
as_answer (meaning.BlockMeaning.waits i) = waits_for i

put_view : (f : Field) (m : BlockMeaning) → machine.add_field f (as_answer m) ≡ as_answer (after_field (field f) m)
unfolding machine.add_field
put_view f (list fs) = refl
put_view f (meaning.BlockMeaning.waits i) = refl

one-view : (g : Entry → Field) (i : ℕ) (o : Option Held) (d : Option Delete) (m : BlockMeaning)
    → on_entry g i (entry_in (slot_at o d)) (as_answer m) ≡ as_answer (after_field (on_slot i (slot_in o) g) m)
unfolding on_entry slot_in
one-view g i none d m = refl
one-view g i (some h) none m = put_view (g h.entry) m
one-view g i (some h) (some d) m = put_view (g h.entry) m

-- a representation that names an index: a field of the static table, or a dynamic slot
module _ (D : Decoder) (i : ℕ) (rest : List Item) (m : BlockMeaning) (h : machine.meaning (slots_of D) rest ≡ as_answer m) where
  abbrev slot : Bool → Slot
  slot b = pick b (holds (entry_at i)) (slot_in (look held_index i D.entries))

  index-view : (b : Bool) → machine.meaning (slots_of D) (pick b (given (entry_field (entry_at i))) (by_index i) ∷ rest)
      ≡ as_answer (after_field (on_slot i (slot b) entry_field) m)
  unfolding machine.meaning slots_of
  index-view true = rw h (put_view (entry_field (entry_at i)) m)
  index-view false = rw h (one-view entry_field i (look held_index i D.entries) (look delete_index i D.deletes) m)

  literal-view : (flag : ℕ) (value : List ℕ) (b : Bool)
      → machine.meaning (slots_of D) (pick b (given (field_named flag value (entry_at i))) (by_name i flag value) ∷ rest)
      ≡ as_answer (after_field (on_slot i (slot b) (field_named flag value)) m)
  unfolding machine.meaning slots_of
  literal-view flag value true = rw h (put_view (field_named flag value (entry_at i)) m)
  literal-view flag value false = rw h (one-view (field_named flag value) i (look held_index i D.entries) (look delete_index i D.deletes) m)

pub meaning-view : (D : Decoder) (rs : List Representation) → machine.meaning (slots_of D) (slot_items rs) ≡ as_answer (block_meaning (lookup D) rs)
unfolding machine.meaning slot_items slot_item block_meaning field_meaning lookup with_statics
meaning-view D [] = refl
meaning-view D (indexed i ∷ rs) = index-view D i (slot_items rs) (block_meaning (lookup D) rs) (meaning-view D rs) (is_static i)
meaning-view D (literal flag (indexed_name i) value ∷ rs) =
    literal-view D i (slot_items rs) (block_meaning (lookup D) rs) (meaning-view D rs) flag value (is_static i)
meaning-view D (literal flag (by_bytes name) value ∷ rs) = rw (meaning-view D rs) (put_view _ (block_meaning (lookup D) rs))

-- ---- a block
pub record BlockAgrees (o : Outcome Decoder) (a : BlockAnswer) : Type 0 where
  pub done : (fs : List Field) → a ≡ machine.BlockAnswer.gives fs → (o.answer.number ≡ 0) × (o.output ≡ fields fs)
  pub wait : (i : ℕ) → a ≡ machine.BlockAnswer.waits_for i → o.answer.number ≡ 1

module _ (D : Decoder) (s : ℕ) (p : Part) (room : ℕ) where
  give-agrees : (m : BlockMeaning) → ((fs : List Field) → m ≡ list fs → length (list_form fs) ≤ room)
      → BlockAgrees (give_fields D s p room m) (as_answer m)
  unfolding give_fields
  give-agrees (meaning.BlockMeaning.waits i) h = record { done = λ fs e. nope (cc); wait = λ j e. refl }
  give-agrees (list fs) h =
      rw (need-true _ _ _ (le-leb _ _ (h fs refl))) (record { done = λ gs e. (refl, cc); wait = λ j e. nope (cc) })

  part-agrees : (rs : List Representation) (b : Bool)
      → ((fs : List Field) → pick b (machine.meaning (slots_of D) (slot_items rs)) out_of_turn ≡ machine.BlockAnswer.gives fs → length (list_form fs) ≤ room)
      → BlockAgrees (need b (refuse D 11) (give_fields D s p room (block_meaning (lookup D) rs))) (pick b (machine.meaning (slots_of D) (slot_items rs)) out_of_turn)
  part-agrees rs true h =
      rw (meaning-view D rs) (give-agrees (block_meaning (lookup D) rs) (λ fs e. h fs (meaning-view D rs ∙ ap as_answer e)))
  part-agrees rs false h = record { done = λ fs e. nope (cc); wait = λ i e. nope (cc) }

pub block-agrees : (D : Decoder) (s part : ℕ) (p : Part) (rs : List Representation) (room : ℕ) → part_of part ≡ some p → s < 4096
    → ((fs : List Field) → machine.offer (tables_of D) s p (slot_items rs) ≡ machine.BlockAnswer.gives fs → length (list_form fs) ≤ room)
    → BlockAgrees (decode_block D s part rs room) (machine.offer (tables_of D) s p (slot_items rs))
unfolding decode_block decode_part machine.offer tables_of
block-agrees D s part p rs room q low h =
    subst (λ (o : Option Part). BlockAgrees (decode_part D s o rs room) (machine.offer (tables_of D) s p (slot_items rs))) (sym q)
    (rw (need-true (ltb s streams) _ _ (lt-ltb s streams low))
    (part-agrees D s p room rs (in_turn D.finished s p) h))

-- ---- references
abbrev here : Item → ℕ → Type 0
here (given f) i = ⊥
here (by_index j) i = j ≡ i
here (by_name j flag value) i = j ≡ i

refers-cases : (x : Item) (b : List Item) (i : ℕ) → machine.NamesSlot i (x ∷ b) → here x i ⊎ machine.NamesSlot i b
refers-cases (given f) b i (names-later r) = inr r
refers-cases (by_index j) b i (names-index e) = inl e
refers-cases (by_index j) b i (names-later r) = inr r
refers-cases (by_name j flag value) b i (names-name e) = inl e
refers-cases (by_name j flag value) b i (names-later r) = inr r

-- a dynamic index that a block names is one that its items refer to
pub refers-items : (rs : List Representation) (i : ℕ) → Refers rs i → 61 < i → machine.NamesSlot i (slot_items rs)
unfolding slot_items slot_item block_references
refers-items [] i m l = absurd (Memᴰ.not-nil m)
refers-items (indexed j ∷ rs) i m l =
    ⊎_elim (λ (e : i ≡ j). rw (static-above j (omega arith)) (names-index (sym e))) (λ n. names-later (refers-items rs i n l)) (Memᴰ.cases_cons m)
refers-items (literal flag (indexed_name j) value ∷ rs) i m l =
    ⊎_elim (λ (e : i ≡ j). rw (static-above j (omega arith)) (names-name (sym e))) (λ n. names-later (refers-items rs i n l)) (Memᴰ.cases_cons m)
refers-items (literal flag (by_bytes name) value ∷ rs) i m l = names-later (refers-items rs i m l)

here-index : (i j : ℕ) (f : Field) → 0 < j → (b : Bool) → is_static j ≡ b → here (pick b (given f) (by_index j)) i → (61 < i) × (j ≡ i)
here-index i j f low true e h = absurd h
here-index i j f low false e h = (omega (arith, above-static j low e), h)

here-name : (i j : ℕ) (f : Field) (flag : ℕ) (value : List ℕ) → 0 < j → (b : Bool) → is_static j ≡ b → here (pick b (given f) (by_name j flag value)) i
    → (61 < i) × (j ≡ i)
here-name i j f flag value low true e h = absurd h
here-name i j f flag value low false e h = (omega (arith, above-static j low e), h)

-- and the other way round, in a block that can be said
pub refers-back : (rs : List Representation) → AllFine rs → (i : ℕ) → machine.NamesSlot i (slot_items rs) → (61 < i) × Refers rs i
unfolding slot_items slot_item block_references
refers-back [] a i m = elim m [ ]
refers-back (indexed j ∷ rs) a i m =
    ⊎_elim (λ h. let e = here-index i j (entry_field (entry_at j)) a.0.0 (is_static j) refl h in (e.0, Memᴰ.head (sym e.1)))
    (λ n. let r = refers-back rs a.1 i n in (r.0, Memᴰ.tail r.1)) (refers-cases (slot_item (indexed j)) (slot_items rs) i m)
refers-back (literal flag (indexed_name j) value ∷ rs) a i m =
    ⊎_elim (λ h. let e = here-name i j (field_named flag value (entry_at j)) flag value a.0.1.0 (is_static j) refl h in (e.0, Memᴰ.head (sym e.1)))
    (λ n. let r = refers-back rs a.1 i n in (r.0, Memᴰ.tail r.1)) (refers-cases (slot_item (literal flag (indexed_name j) value)) (slot_items rs) i m)
refers-back (literal flag (by_bytes name) value ∷ rs) a i m =
    ⊎_elim (λ h. absurd h) (λ n. refers-back rs a.1 i n) (refers-cases (slot_item (literal flag (by_bytes name) value)) (slot_items rs) i m)
