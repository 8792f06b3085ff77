-- The same of the encoder's calls: the second told number is 0, but for an insert, which tells its index: at most 189, since the limit leaves a place.
use Prim.Native.Nat.{ℕ, ◌+◌, ◌≤◌}
use native.Mathlib.Omega.{arith}
use mathlib.Core.Bool.{not}
use mathlib.Core.Option.{Option, none, some}
use mathlib.Core.List.{List, [], map}
use lib.ListN.{length}
use lib.Dec.{leb, ltb}
use borrow.Author.Tests.{leb-true}
use Rattle.memory.proofs.Order.{need-both}
use Rattle.integers.specs.Answers.{over_limit, on_read, Read, number_of}
use Rattle.integers.specs.Integer.{largest}
use Rattle.fields.specs.Form.{Field}
use Rattle.fields.specs.Reading.{FieldListRead, list, read_field_list}
use Rattle.fields.specs.Reading as reading
use Rattle.instructions.specs.Instruction.{insert, instruction_wire}
use Rattle.instructions.specs.Reading.{read_for_encoder}
use Rattle.instructions.specs.declared.read.InstructionPlace.{InstructionPlace}
use Rattle.instructions.specs.declared.read.InstructionPlace.TheVariants.{Insert, Delete, Acknowledge}
use Rattle.blocks.specs.Representation.{block_wire}
use Rattle.model.specs.Table.{size, look, vacant_from}
use Rattle.model.specs.Parts.{Part, part_of, in_turn, streams}
use Rattle.model.specs.Outcome.{Outcome, refuse}
use Rattle.model.specs.Encoder.{Sent, sent_index, Encoder, sent_size, choose, choose_name, insert_at, insert_entry, delete_of_sent, delete_found, delete_sent}
use Rattle.model.specs.Encoder.{write_part, encode_part, encode_block, acknowledge_found, read_ack}
use Rattle.model_laws.proofs.Tables.{vacant-high}
use Rattle.state.specs.Layout.{encoder_length}
use Rattle.state.specs.EncoderState.{encoder_of, overlay_encoder}
use Rattle.state.specs.Forms.{forms_encoder}
use Rattle.parts.specs.Turn.{part_turn}
use Rattle.reply.specs.Reply.{Narrow}
use Rattle.reply.specs.Result.{Result, refused, stepped}
use Rattle.encoder.specs.Calls.{start_call, insert_call, delete_call, on_list, block_call, acknowledged, acknowledge_call}
use Rattle.places.proofs.PlacesClaim.{sent-places, sent-limit}
use Rattle.kolowrotan.proofs.Narrow.{step, call}
use Rattle.std.specs.Prelude.{Ok, Err}
use Rattle.integers.specs.declared.answer.Refusal.{Refusal}

-- ---- the encoder's steps

insert-narrow : (E : Encoder) → E.limit ≤ 4096 → (name value : List ℕ) (room : ℕ) → Narrow (insert_entry E name value room).answer
unfolding insert_entry insert_at
insert-narrow E limit name value room =
    step (leb (length name) 255) _ _ _
    (step (leb (length value) 2047) _ _ _
    (need-both (λ (o : Outcome Encoder). Narrow o.answer) (leb (sent_size E.entries + size (record { name = name; value = value })) E.limit)
    (refuse E over_limit) (insert_at E (vacant_from sent_index 62 E.entries) name value room) (λ e. omega arith)
    (λ e. let few = sent-places E limit (record { name = name; value = value }) (leb-true _ _ e) in
    let low = vacant-high sent_index 62 E.entries in
    step (leb (length (instruction_wire (insert (vacant_from sent_index 62 E.entries) (choose_name E.entries name) value))) room) _ _ _ (omega arith))))

delete-narrow : (E : Encoder) (i room : ℕ) → Narrow (delete_sent E i room).answer
unfolding delete_sent delete_found
delete-narrow E i room = step (leb 62 i) _ _ _ (step (leb i largest) _ _ _ (go (look sent_index i E.entries)))
  where
    go : (o : Option Sent) → Narrow (delete_found E room o).answer
    go none = omega arith
    go (some e) =
        step (not e.deleted) _ _ _ (step (leb (length (instruction_wire (delete_of_sent e))) room) _ _ _ (omega arith))

block-narrow : (E : Encoder) (s part : ℕ) (fs : List Field) (room : ℕ) → Narrow (encode_block E s part fs room).answer
unfolding encode_block encode_part write_part
block-narrow E s part fs room = go (part_of part)
  where
    go : (o : Option Part) → Narrow (encode_part E s o fs room).answer
    go none = omega arith
    go (some p) =
        step (ltb s streams) _ _ _
        (step (in_turn E.written s p) _ _ _
        (step (leb (length (block_wire (map (choose E.entries) fs))) 16384) _ _ _
        (step (leb (length (block_wire (map (choose E.entries) fs))) room) _ _ _ (omega arith))))

free-narrow : (E : Encoder) (i taken : ℕ) → Narrow (read_ack E i taken).answer
unfolding read_ack acknowledge_found
free-narrow E i taken = go (look sent_index i E.entries)
  where
    go : (o : Option Sent) → Narrow (acknowledge_found E taken o).answer
    go none = omega arith
    go (some e) = step e.deleted _ _ _ (omega arith)

-- ---- the encoder's calls

pub encoder-start : (m : List ℕ) (limit : ℕ) → Narrow (start_call m limit).answer
unfolding start_call
encoder-start m limit = call (leb limit 4096) _ _ _ _ (call (leb encoder_length (length m)) _ _ _ _ (omega arith))

pub encoder-insert : (m name value out : List ℕ) → Narrow (insert_call m name value out).answer
unfolding insert_call stepped
encoder-insert m name value out =
    need-both (λ (r : Result). Narrow r.answer) (forms_encoder m) _ _ (λ f. omega arith)
    (λ forms. insert-narrow (encoder_of m) (sent-limit m forms) name value (length out))

pub encoder-delete : (m : List ℕ) (index : ℕ) (out : List ℕ) → Narrow (delete_call m index out).answer
unfolding delete_call stepped
encoder-delete m index out = call (forms_encoder m) _ _ _ _ (delete-narrow (encoder_of m) index (length out))

pub encoder-block : (m : List ℕ) (stream part : ℕ) (s out : List ℕ) → Narrow (block_call m stream part s out).answer
unfolding block_call stepped
encoder-block m stream part s out =
    call (forms_encoder m) _ _ _ _
    (call (part_turn (encoder_of m).written stream (part_of part)) _ _ _ _ (go (read_field_list s)))
  where
    go : (r : FieldListRead) → Narrow (on_list (refused m out) r
        (λ fs. stepped overlay_encoder m out (encode_block (encoder_of m) stream part fs (length out)))).answer
    go (list fs) = block-narrow (encoder_of m) stream part fs (length out)
    go (reading.FieldListRead.refused why) = omega arith

pub encoder-acknowledge : (m s : List ℕ) → Narrow (acknowledge_call m s).answer
unfolding acknowledge_call stepped
encoder-acknowledge m s = call (forms_encoder m) _ _ _ _ (go (read_for_encoder s))
  where
    free : (p : InstructionPlace) (taken : ℕ) → Narrow (acknowledged m p taken).answer
    free (Insert i name value) taken = omega arith
    free (Delete i first last) taken = omega arith
    free (Acknowledge i) taken = free-narrow (encoder_of m) i.value taken

    go : (r : Read InstructionPlace) → Narrow (on_read (λ (why : Refusal). refused m [] (number_of why)) r (acknowledged m)).answer
    go (Ok (p, taken)) = free p taken
    go (Err why) = omega arith
