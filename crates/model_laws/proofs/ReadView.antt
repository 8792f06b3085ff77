-- An instruction that the tables as functions take is taken by the decoder, with the same tables after it.
use mathlib.Core.Path.{◌≡◌, refl, ap, ◌∙◌}
use Prim.Native.Nat.{ℕ, ◌+◌, ◌≤◌}
use native.Mathlib.Omega.{arith}
use native.Mathlib.Decide.{dec_le}
use mathlib.Core.Bool.{Bool, true, false, not}
use mathlib.Core.Option.{Option, none, some}
use mathlib.Core.List.{List}
use lib.Dec.{leb}
use borrow.Author.Tests.{leb-true, leb-false}
use Rattle.memory.specs.Choice.{pick}
use Rattle.memory.proofs.Order.{need-both, need-true, need-false}
use Rattle.statics.specs.Table.{Entry, entry_at}
use Rattle.wire.specs.Name.{Name, indexed, literal}
use Rattle.instructions.specs.Instruction.{Instruction, insert, delete, acknowledge, Manages}
use Rattle.blocks.specs.Meaning.{holds, is_static, with_statics}
use Rattle.model.specs.Table.{size, look, put}
use Rattle.model.specs.Parts.{Delete}
use Rattle.model.specs.Outcome.{Outcome, nothing, finish}
use Rattle.model.specs.Decoder.{Held, held_index, delete_index, Decoder, held_size, slot_in, lookup, delete_of, slot_name, name_bytes, is_some}
use Rattle.model.specs.Decoder.{insert_named, delete_entry, read_instruction, with_entries, FormsDecoder}
use Rattle.model_laws.proofs.Tables.{nope, total-put}
use Rattle.model_laws.proofs.DecoderWays.{with_delete}
use Rattle.model_laws.proofs.Slots.Functions as functions
use Rattle.model_laws.proofs.Slots.Machine.{empty_slot, live_slot, deleted_slot, entry_in, own_name, name_of_slot, resolve, insert_in, delete_in}
use Rattle.model_laws.proofs.Slots.Machine.{DecoderTables, with_slots, set_slot}
use Rattle.model_laws.proofs.Slots.Machine as machine
use Rattle.model_laws.proofs.View.{lists_of, slot_at, slots_of, tables_of, source_of, slot_instruction}
use Rattle.model_laws.proofs.TableView.{slots-put, slots-delete}

-- where the tables as functions take the instruction, the decoder takes it, and then has those tables
pub record ReadAgrees (o : Outcome Decoder) (c : Option DecoderTables) : Type 0 where
  pub view : (T : DecoderTables) → c ≡ some T → tables_of o.state ≡ T
  pub done : (T : DecoderTables) → c ≡ some T → o.answer.number ≡ 0

-- ---- the name of an insert
abbrev with_name : List ℕ → Option (List ℕ) → Option Entry
with_name value none = none
with_name value (some name) = some (record { name = name; value = value })

module _ (D : Decoder) (value : List ℕ) where
  name-of-slot : (i : ℕ) (o : Option Held) (d : Option Delete)
      → elim (entry_in (slot_at o d)) [ none ↦ none | some c ↦ some (record { name = c.name; value = value }) ] ≡ with_name value (slot_name (slot_in o))
  unfolding slot_name slot_in
  name-of-slot i none d = refl
  name-of-slot i (some h) none = refl
  name-of-slot i (some h) (some d) = refl

  pub name-view : (name : Name) → resolve (slots_of D) (source_of name value) ≡ with_name value (name_bytes (lookup D) name)
  unfolding resolve slots_of source_of name_bytes lookup with_statics slot_name
  name-view (indexed i) = go (is_static i)
    where
      go : (b : Bool) → resolve (slots_of D) (pick b (own_name (record { name = (entry_at i).name; value = value })) (name_of_slot i value))
          ≡ with_name value (slot_name (pick b (holds (entry_at i)) (slot_in (look held_index i D.entries))))
      go true = refl
      go false = name-of-slot i (look held_index i D.entries) (look delete_index i D.deletes)
  name-view (literal xs) = refl

-- ---- the calls
some_same : {T U : DecoderTables} → some T ≡ some U → T ≡ U
some_same e = cc

refused : (o : Outcome Decoder) → ReadAgrees o none
refused o = record { view = λ T e. nope (cc); done = λ T e. nope (cc) }

module _ (D : Decoder) (F : FormsDecoder D) (i taken : ℕ) where
  insert-done : (c : Entry) → look held_index i D.entries ≡ none → held_size D.entries + size c ≤ D.limit
      → ReadAgrees (finish (with_entries D (put held_index (record { index = i; entry = c }) D.entries)) taken 0 nothing)
      (some (set_slot (tables_of D) i (live_slot c) (held_size D.entries + size c)))
  unfolding tables_of set_slot held_size
  insert-done c e f =
      let h : Held = record { index = i; entry = c } in
      let t = slots-put D F h e in
      let w = total-put held_index (λ x. size x.entry) h D.entries in
      record { view = λ T q. (λ k. with_slots (tables_of D) (t k) (w k)) ∙ some_same q; done = λ T q. refl }

  insert-new : (value name : List ℕ) → look held_index i D.entries ≡ none
      → ReadAgrees (insert_named D i value taken (some name)) (insert_in (tables_of D) i empty_slot (some (record { name = name; value = value })))
  unfolding insert_named insert_in tables_of
  insert-new value name e =
      let c : Entry = record { name = name; value = value } in
      let free : not (is_some (look held_index i D.entries)) ≡ true = ap (λ (o : Option Held). not (is_some o)) e in
      rw (need-true _ _ _ free)
      (need-both (λ (o : Outcome Decoder). ReadAgrees o (insert_in (tables_of D) i empty_slot (some c))) (leb (held_size D.entries + size c) D.limit) _ _
      (λ g.
      let over = leb-false (held_size D.entries + size c) D.limit g in
      rw (functions.decided-no (dec_le (held_size D.entries + size c) D.limit) _ _ (λ t. omega arith)) (refused _))
      (λ g.
      let fits = leb-true (held_size D.entries + size c) D.limit g in
      rw (functions.decided-yes (dec_le (held_size D.entries + size c) D.limit) _ _ fits)
      (insert-done c e fits)))

  insert-agrees : (value : List ℕ) (o : Option Held) → look held_index i D.entries ≡ o → (d : Option Delete) (r : Option (List ℕ))
      → ReadAgrees (insert_named D i value taken r) (insert_in (tables_of D) i (slot_at o d) (with_name value r))
  unfolding insert_named insert_in
  insert-agrees value none e d none = refused _
  insert-agrees value (some h) e none none = refused _
  insert-agrees value (some h) e (some d) none = refused _
  insert-agrees value none e d (some name) = insert-new value name e
  insert-agrees value (some h) e none (some name) =
      rw (need-false _ _ _ (ap (λ (o : Option Held). not (is_some o)) e)) (refused _)
  insert-agrees value (some h) e (some d) (some name) =
      rw (need-false _ _ _ (ap (λ (o : Option Held). not (is_some o)) e)) (refused _)

  delete-done : (d : Delete) (h : Held) → look held_index d.index D.entries ≡ some h → look delete_index d.index D.deletes ≡ none
      → ReadAgrees (finish (with_delete D d) taken 0 nothing)
      (some (set_slot (tables_of D) d.index (deleted_slot h.entry (lists_of d)) (held_size D.entries)))
  unfolding tables_of set_slot
  delete-done d h e q =
      let t = slots-delete D d h e q in
      record {
        view = λ T z. (λ k. with_slots (tables_of D) (t k) (held_size D.entries)) ∙ some_same z;
        done = λ T z. refl;
      }

  delete-agrees : (d : Delete) (o : Option Held) → look held_index d.index D.entries ≡ o
      → (x : Option Delete) → look delete_index d.index D.deletes ≡ x
      → ReadAgrees (delete_entry D d taken) (delete_in (tables_of D) d.index (lists_of d) (slot_at o x))
  unfolding delete_entry delete_in tables_of delete_of
  delete-agrees d none e x q = rw (need-false _ _ _ (ap is_some e)) (refused _)
  delete-agrees d (some h) e none q =
      rw (need-true _ _ _ (ap is_some e), need-true _ _ _ (ap (λ (o : Option Delete). not (is_some o)) q)) (delete-done d h e q)
  delete-agrees d (some h) e (some y) q =
      rw (need-true _ _ _ (ap is_some e), need-false _ _ _ (ap (λ (o : Option Delete). not (is_some o)) q)) (refused _)

pub read-agrees : (D : Decoder) → FormsDecoder D → (x : Instruction) (taken : ℕ) → Manages x
    → ReadAgrees (read_instruction D x taken) (machine.read (tables_of D) (slot_instruction x))
unfolding read_instruction machine.read slot_instruction tables_of slots_of
read-agrees D F (insert i name value) taken m =
    rw (name-view D value name)
    (insert-agrees D F i taken value (look held_index i D.entries) refl (look delete_index i D.deletes) (name_bytes (lookup D) name))
read-agrees D F (delete i nontrailer trailer) taken m =
    delete-agrees D F i taken (record { index = i; nontrailer = nontrailer; trailer = trailer }) (look held_index i D.entries) refl
    (look delete_index i D.deletes) refl
read-agrees D F (acknowledge i) taken m = absurd m
