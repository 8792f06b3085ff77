-- The ways of each decoder call: what holds where the call is refused or waits, and where it is done, holds of its outcome. Each way has the
-- facts that its tests tell.
use mathlib.Core.Path.{◌≡◌, refl}
use Prim.Native.Nat.{ℕ, ◌+◌, ◌≤◌, ◌<◌}
use mathlib.Core.Bool.{true, false, not}
use mathlib.Core.Option.{Option, none, some}
use mathlib.Core.List.{List, [], ◌∷◌, ◌++◌}
use lib.ListN.{length}
use lib.Dec.{ltb, leb, eqb}
use borrow.Author.Tests.{ltb-true, leb-true}
use Rattle.memory.proofs.Order.{need-both}
use Rattle.integers.specs.Answers.{Answer, refusal, waits, not_allowed, held, over_limit, vacant, under_deletion, not_under_deletion, out_of_turn}
use Rattle.integers.specs.Answers.{no_room}
use Rattle.integers.specs.Integer.{largest}
use Rattle.wire.specs.Name.{Name}
use Rattle.stream_lists.specs.StreamList.{StreamList}
use Rattle.fields.specs.Form.{Field, list_form}
use Rattle.instructions.specs.Instruction.{insert, delete, acknowledge, instruction_wire}
use Rattle.blocks.specs.Representation.{Representation}
use Rattle.blocks.specs.Meaning.{BlockMeaning, list, block_meaning}
use Rattle.blocks.specs.Meaning as meaning
use Rattle.model.specs.Table.{size, look, put}
use Rattle.model.specs.Parts.{Part, part_of, block_marks, Closing, closed, in_turn, Delete, open_below, lowest_open, streams}
use Rattle.model.specs.Outcome.{nothing, instruction, fields, Outcome, finish}
use Rattle.model.specs.Decoder.{Held, held_index, Decoder, held_size, lookup, delete_of, with_entries, name_bytes, is_some, insert_named, delete_entry}
use Rattle.model.specs.Decoder.{read_instruction, with_finished, give_fields, decode_part, decode_block, close_parts, next_freed, without, free_entry}
use Rattle.model.specs.Decoder.{with_deletes, collect_entry, hold_of, enquire_hold}
use Rattle.model_laws.proofs.Tables.{nope}

-- what a test for an entry tells
pub some-found : {X : Type 0} (o : Option X) → is_some o ≡ true → (x : X) × (o ≡ some x)
some-found none e = nope (cc)
some-found (some x) e = (x, refl)

pub none_found : {X : Type 0} (o : Option X) → not (is_some o) ≡ true → o ≡ none
none_found none e = refl
none_found (some x) e = nope (cc)

abbrev pub new_held : ℕ → List ℕ → List ℕ → Held
new_held i name value = record { index = i; entry = record { name = name; value = value } }

abbrev pub with_delete : Decoder → Delete → Decoder
with_delete D d = with_deletes D (D.deletes ++ (d ∷ []))

module _ {κ} (R : Outcome Decoder → Type κ) (D : Decoder)
    (refused : (a : Answer) → eqb a.number 0 ≡ false → R (record { state = D; answer = a; output = nothing })) where
  pub insert-ways : (i : ℕ) (name : Name) (value : List ℕ) (taken : ℕ)
      → ((xs : List ℕ) → name_bytes (lookup D) name ≡ some xs → look held_index i D.entries ≡ none
      → held_size D.entries + size (record { name = xs; value = value }) ≤ D.limit
      → R (finish (with_entries D (put held_index (new_held i xs value) D.entries)) taken 0 nothing))
      → R (read_instruction D (insert i name value) taken)
  unfolding read_instruction insert_named
  insert-ways i name value taken inserted = go (name_bytes (lookup D) name) refl
    where
      go : (o : Option (List ℕ)) → name_bytes (lookup D) name ≡ o → R (insert_named D i value taken o)
      go none e = refused (refusal vacant) refl
      go (some xs) e =
          need-both R (not (is_some (look held_index i D.entries))) _ _ (λ f. refused (refusal held) refl)
          (λ f. need-both R (leb (held_size D.entries + size (record { name = xs; value = value })) D.limit) _ _
          (λ g. refused (refusal over_limit) refl)
          (λ g. inserted xs e (none_found (look held_index i D.entries) f) (leb-true _ _ g)))

  pub delete-ways : (i : ℕ) (nontrailer trailer : StreamList) (taken : ℕ)
      → ((h : Held) → look held_index i D.entries ≡ some h → delete_of D i ≡ none
      → R (finish (with_delete D (record { index = i; nontrailer = nontrailer; trailer = trailer })) taken 0 nothing))
      → R (read_instruction D (delete i nontrailer trailer) taken)
  unfolding read_instruction delete_entry
  delete-ways i nontrailer trailer taken deleted =
      need-both R (is_some (look held_index i D.entries)) _ _ (λ f. refused (refusal vacant) refl)
      (λ f. need-both R (not (is_some (delete_of D i))) _ _ (λ g. refused (refusal under_deletion) refl)
      (λ g. let h = some-found (look held_index i D.entries) f in deleted h.0 h.1 (none_found (delete_of D i) g)))

  pub acknowledge-ways : (i taken : ℕ) → R (read_instruction D (acknowledge i) taken)
  unfolding read_instruction
  acknowledge-ways i taken = refused (refusal not_allowed) refl

  pub block-ways : (s part : ℕ) (rs : List Representation) (room : ℕ)
      → ((p : Part) (fs : List Field) → part_of part ≡ some p → s < streams → in_turn D.finished s p ≡ true → block_meaning (lookup D) rs ≡ list fs
      → length (list_form fs) ≤ room → R (finish (with_finished D (block_marks p s D.finished)) (length (list_form fs)) 0 (fields fs)))
      → R (decode_block D s part rs room)
  unfolding decode_block decode_part give_fields
  block-ways s part rs room decoded = go (part_of part) refl
    where
      give : (p : Part) → part_of part ≡ some p → s < streams → in_turn D.finished s p ≡ true → (m : BlockMeaning) → block_meaning (lookup D) rs ≡ m
          → R (give_fields D s p room m)
      give p e f g (meaning.BlockMeaning.waits i) k = refused (record { number = waits; first = i; second = 0 }) refl
      give p e f g (list fs) k =
          need-both R (leb (length (list_form fs)) room) _ _ (λ h. refused (refusal no_room) refl)
          (λ h. decoded p fs e f g k (leb-true _ _ h))

      go : (o : Option Part) → part_of part ≡ o → R (decode_part D s o rs room)
      go none e = refused (refusal out_of_turn) refl
      go (some p) e =
          need-both R (ltb s streams) _ _ (λ f. refused (refusal out_of_turn) refl)
          (λ f. need-both R (in_turn D.finished s p) _ _ (λ g. refused (refusal out_of_turn) refl)
          (λ g. give p e (ltb-true _ _ f) g (block_meaning (lookup D) rs) refl))

  pub close-ways : (k : Closing) (s : ℕ) → (s < streams → R (finish (with_finished D (closed k s D.finished)) 0 0 nothing)) → R (close_parts D k s)
  unfolding close_parts
  close-ways k s done = need-both R (ltb s streams) _ _ (λ f. refused (refusal out_of_turn) refl) (λ f. done (ltb-true _ _ f))

  pub collect-ways : (room : ℕ)
      → (next_freed D ≡ none → R (finish D 0 0 nothing))
      → ((i : ℕ) → next_freed D ≡ some i → length (instruction_wire (acknowledge i)) ≤ room
      → R (finish (without D i) (length (instruction_wire (acknowledge i))) 0 (instruction (acknowledge i))))
      → R (collect_entry D room)
  unfolding collect_entry free_entry
  collect-ways room idle freed = go (next_freed D) refl
    where
      go : (o : Option ℕ) → next_freed D ≡ o → R (free_entry D room o)
      go none e = idle e
      go (some i) e =
          need-both R (leb (length (instruction_wire (acknowledge i))) room) _ _ (λ f. refused (refusal no_room) refl)
          (λ f. freed i e (leb-true _ _ f))

  pub hold-ways : (i : ℕ)
      → ((d : Delete) → delete_of D i ≡ some d
      → R (finish D (open_below D.finished d streams) (lowest_open D.finished d 0 streams) nothing))
      → R (enquire_hold D i)
  unfolding enquire_hold hold_of
  hold-ways i told =
      need-both R (leb 62 i) _ _ (λ f. refused (refusal not_allowed) refl)
      (λ f. need-both R (leb i largest) _ _ (λ g. refused (refusal not_allowed) refl)
      (λ g. need-both R (is_some (look held_index i D.entries)) _ _ (λ h. refused (refusal vacant) refl)
      (λ h. go (delete_of D i) refl)))
    where
      go : (o : Option Delete) → delete_of D i ≡ o → R (hold_of D o)
      go none e = refused (refusal not_under_deletion) refl
      go (some d) e = told d e
