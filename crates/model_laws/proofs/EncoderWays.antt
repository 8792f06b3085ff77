-- The ways of each encoder call: what holds where the call is refused, and where it is done, holds of its outcome. Each way has the facts that
-- its tests tell.
use mathlib.Core.Path.{◌≡◌, refl}
use Prim.Native.Nat.{ℕ, ◌+◌, ◌≤◌, ◌<◌}
use mathlib.Core.Bool.{true, false, not}
use mathlib.Core.Option.{Option, none, some}
use mathlib.Core.List.{List, map}
use lib.ListN.{length}
use lib.Dec.{ltb, leb, eqb}
use borrow.Author.Tests.{ltb-true, leb-true, not-true}
use Rattle.memory.proofs.Order.{need-both}
use Rattle.integers.specs.Answers.{Answer, refusal, not_allowed, over_limit, vacant, under_deletion, not_under_deletion, out_of_turn, no_room}
use Rattle.integers.specs.Answers.{too_long}
use Rattle.integers.specs.Integer.{largest}
use Rattle.fields.specs.Form.{Field}
use Rattle.instructions.specs.Instruction.{Instruction, insert, instruction_wire}
use Rattle.blocks.specs.Representation.{Representation, block_wire}
use Rattle.model.specs.Table.{size, look, put, cut, vacant_from}
use Rattle.model.specs.Parts.{Part, part_of, block_marks, in_turn, streams}
use Rattle.model.specs.Outcome.{nothing, instruction, block, Outcome, finish}
use Rattle.model.specs.Encoder.{Sent, sent_index, Encoder, sent_size, with_sent, with_written, choose_name, choose, new_sent, insert_at, insert_entry}
use Rattle.model.specs.Encoder.{mark_deleted, delete_of_sent, delete_found, delete_sent, refer, write_part, encode_part, encode_block, acknowledge_found, read_ack}

-- the insert that is written
abbrev pub insert_of : Encoder → ℕ → List ℕ → List ℕ → Instruction
insert_of E i name value = insert i (choose_name E.entries name) value

abbrev pub after_block : Encoder → ℕ → Part → List Representation → Encoder
after_block E s p rs = with_written (with_sent E (map (refer s p rs) E.entries)) (block_marks p s E.written)

module _ {κ} (R : Outcome Encoder → Type κ) (E : Encoder)
    (refused : (a : Answer) → eqb a.number 0 ≡ false → R (record { state = E; answer = a; output = nothing })) where
  pub insert-ways : (name value : List ℕ) (room : ℕ)
      → ((i : ℕ) → i ≡ vacant_from sent_index 62 E.entries → length name ≤ 255 → length value ≤ 2047
      → sent_size E.entries + size (record { name = name; value = value }) ≤ E.limit
      → length (instruction_wire (insert_of E i name value)) ≤ room
      → R (finish (with_sent E (put sent_index (new_sent i name value) E.entries)) (length (instruction_wire (insert_of E i name value))) i
      (instruction (insert_of E i name value))))
      → R (insert_entry E name value room)
  unfolding insert_entry insert_at
  insert-ways name value room inserted =
      need-both R (leb (length name) 255) _ _ (λ f. refused (refusal too_long) refl)
      (λ f. need-both R (leb (length value) 2047) _ _ (λ g. refused (refusal too_long) refl)
      (λ g. need-both R (leb (sent_size E.entries + size (record { name = name; value = value })) E.limit) _ _
      (λ h. refused (refusal over_limit) refl)
      (λ h. need-both R (leb (length (instruction_wire (insert_of E (vacant_from sent_index 62 E.entries) name value))) room) _ _
      (λ m. refused (refusal no_room) refl)
      (λ m. inserted (vacant_from sent_index 62 E.entries) refl (leb-true _ _ f) (leb-true _ _ g) (leb-true _ _ h)
      (leb-true _ _ m)))))

  pub delete-ways : (i room : ℕ)
      → ((e : Sent) → look sent_index i E.entries ≡ some e → e.deleted ≡ false → length (instruction_wire (delete_of_sent e)) ≤ room
      → R (finish (with_sent E (map (mark_deleted e.index) E.entries)) (length (instruction_wire (delete_of_sent e))) 0 (instruction (delete_of_sent e))))
      → R (delete_sent E i room)
  unfolding delete_sent delete_found
  delete-ways i room deleted =
      need-both R (leb 62 i) _ _ (λ f. refused (refusal not_allowed) refl)
      (λ f. need-both R (leb i largest) _ _ (λ g. refused (refusal not_allowed) refl) (λ g. go (look sent_index i E.entries) refl))
    where
      go : (o : Option Sent) → look sent_index i E.entries ≡ o → R (delete_found E room o)
      go none k = refused (refusal vacant) refl
      go (some e) k =
          need-both R (not e.deleted) _ _ (λ f. refused (refusal under_deletion) refl)
          (λ f. need-both R (leb (length (instruction_wire (delete_of_sent e))) room) _ _ (λ g. refused (refusal no_room) refl)
          (λ g. deleted e k (not-true e.deleted f) (leb-true _ _ g)))

  pub block-ways : (s part : ℕ) (fs : List Field) (room : ℕ)
      → ((p : Part) (rs : List Representation) → rs ≡ map (choose E.entries) fs → part_of part ≡ some p → s < streams
      → in_turn E.written s p ≡ true → length (block_wire rs) ≤ 16384 → length (block_wire rs) ≤ room
      → R (finish (after_block E s p rs) (length (block_wire rs)) 0 (block rs)))
      → R (encode_block E s part fs room)
  unfolding encode_block encode_part write_part
  block-ways s part fs room written = go (part_of part) refl
    where
      go : (o : Option Part) → part_of part ≡ o → R (encode_part E s o fs room)
      go none e = refused (refusal out_of_turn) refl
      go (some p) e =
          need-both R (ltb s streams) _ _ (λ f. refused (refusal out_of_turn) refl)
          (λ f. need-both R (in_turn E.written s p) _ _ (λ g. refused (refusal out_of_turn) refl)
          (λ g. need-both R (leb (length (block_wire (map (choose E.entries) fs))) 16384) _ _ (λ h. refused (refusal too_long) refl)
          (λ h. need-both R (leb (length (block_wire (map (choose E.entries) fs))) room) _ _ (λ k. refused (refusal no_room) refl)
          (λ k. written p (map (choose E.entries) fs) refl e (ltb-true _ _ f) g (leb-true _ _ h) (leb-true _ _ k)))))

  pub acknowledged-ways : (i taken : ℕ)
      → ((e : Sent) → look sent_index i E.entries ≡ some e → e.deleted ≡ true
      → R (finish (with_sent E (cut sent_index e.index E.entries)) taken 0 nothing))
      → R (read_ack E i taken)
  unfolding read_ack acknowledge_found
  acknowledged-ways i taken freed = go (look sent_index i E.entries) refl
    where
      go : (o : Option Sent) → look sent_index i E.entries ≡ o → R (acknowledge_found E taken o)
      go none k = refused (refusal not_under_deletion) refl
      go (some e) k = need-both R e.deleted _ _ (λ f. refused (refusal not_under_deletion) refl) (λ f. freed e k f)
