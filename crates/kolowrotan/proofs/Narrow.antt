-- The second told number of every call's answer is small, so that the answer packs into one number.
-- By the tests in their order: it is 0, but for the hold enquiry, which tells a stream or 4,096.
use mathlib.Core.Path.{◌≡◌, sym, subst}
use Prim.Native.Nat.{ℕ, ◌+◌}
use native.Mathlib.Omega.{arith}
use mathlib.Core.Bool.{Bool, true, false, not}
use mathlib.Core.Option.{Option, none, some}
use mathlib.Core.List.{List, []}
use lib.ListN.{length}
use lib.Dec.{leb, ltb}
use Rattle.memory.specs.Choice.{need}
use Rattle.integers.specs.Answers.{Answer, on_read, Read, number_of}
use Rattle.integers.specs.Integer.{largest}
use Rattle.fields.specs.Form.{list_form}
use Rattle.instructions.specs.Instruction.{Instruction, insert, delete, acknowledge, instruction_wire}
use Rattle.instructions.specs.Reading.{read_for_decoder, instruction_of}
use Rattle.blocks.specs.Representation.{Representation}
use Rattle.blocks.specs.Meaning.{BlockMeaning, list, block_meaning}
use Rattle.blocks.specs.Meaning as meaning
use Rattle.blocks.specs.Reading.{BlockRead, block, read_block}
use Rattle.blocks.specs.Reading as reading
use Rattle.model.specs.Table.{size, look}
use Rattle.model.specs.Parts.{Part, part_of, Closing, over, ended, in_turn, Delete, streams}
use Rattle.model.specs.Outcome.{Outcome, refuse}
use Rattle.model.specs.Decoder.{Decoder, held_index, held_size, lookup, delete_of, name_bytes, is_some, insert_named, delete_entry, read_instruction}
use Rattle.model.specs.Decoder.{give_fields, decode_part, decode_block, close_parts, hold_of, enquire_hold, next_freed, free_entry, collect_entry}
use Rattle.state.specs.Layout.{decoder_length}
use Rattle.state.specs.DecoderState.{decoder_of, overlay_decoder}
use Rattle.state.specs.Forms.{forms_decoder}
use Rattle.parts.specs.Turn.{part_turn}
use Rattle.reply.specs.Reply.{Narrow}
use Rattle.reply.specs.Result.{Result, refused, stepped}
use Rattle.decoder.specs.Calls.{start_call, read_call, on_block, block_call, over_call, ended_call, hold_call, collect_call}
use Rattle.decoder.proofs.Holding.{lowest-low}
use Rattle.std.specs.Prelude.{Ok, Err}
use Rattle.instructions.specs.declared.read.InstructionPlace.{InstructionPlace}
use Rattle.integers.specs.declared.answer.Refusal.{Refusal}

-- a reply is as narrow as the answer that it is
pub narrow : {a b : Answer} → a ≡ b → Narrow b → Narrow a
narrow e h = subst (λ (x : Answer). Narrow x) (sym e) h

-- a refusal tells nothing: only what follows a test counts
pub step : {S : Type 0} (b : Bool) (s : S) (number : ℕ) (o : Outcome S) → Narrow o.answer → Narrow (need b (refuse s number) o).answer
step true s number o h = h
step false s number o h = omega arith

pub call : (b : Bool) (m out : List ℕ) (number : ℕ) (r : Result) → Narrow r.answer → Narrow (need b (refused m out number) r).answer
call true m out number r h = h
call false m out number r h = omega arith

-- ---- the decoder's steps

read-narrow : (D : Decoder) (i : Instruction) (taken : ℕ) → Narrow (read_instruction D i taken).answer
unfolding read_instruction insert_named delete_entry
read-narrow D (insert i name value) taken = go (name_bytes (lookup D) name)
  where
    go : (o : Option (List ℕ)) → Narrow (insert_named D i value taken o).answer
    go none = omega arith
    go (some xs) =
        step (not (is_some (look held_index i D.entries))) _ _ _
        (step (leb (held_size D.entries + size (record { name = xs; value = value })) D.limit) _ _ _ (omega arith))
read-narrow D (delete i nontrailer trailer) taken =
    step (is_some (look held_index i D.entries)) _ _ _
    (step (not (is_some (delete_of D i))) _ _ _ (omega arith))
read-narrow D (acknowledge i) taken = omega arith

block-narrow : (D : Decoder) (s part : ℕ) (rs : List Representation) (room : ℕ) → Narrow (decode_block D s part rs room).answer
unfolding decode_block decode_part give_fields
block-narrow D s part rs room = go (part_of part)
  where
    give : (p : Part) (m : BlockMeaning) → Narrow (give_fields D s p room m).answer
    give p (meaning.BlockMeaning.waits i) = omega arith
    give p (list fs) = step (leb (length (list_form fs)) room) _ _ _ (omega arith)

    go : (o : Option Part) → Narrow (decode_part D s o rs room).answer
    go none = omega arith
    go (some p) =
        step (ltb s streams) _ _ _
        (step (in_turn D.finished s p) _ _ _ (give p (block_meaning (lookup D) rs)))

close-narrow : (D : Decoder) (k : Closing) (s : ℕ) → Narrow (close_parts D k s).answer
unfolding close_parts
close-narrow D k s = step (ltb s streams) _ _ _ (omega arith)

hold-narrow : (D : Decoder) (i : ℕ) → Narrow (enquire_hold D i).answer
unfolding enquire_hold hold_of
hold-narrow D i =
    step (leb 62 i) _ _ _
    (step (leb i largest) _ _ _
    (step (is_some (look held_index i D.entries)) _ _ _ (go (delete_of D i))))
  where
    go : (o : Option Delete) → Narrow (hold_of D o).answer
    go none = omega arith
    go (some d) = omega (arith, lowest-low D.finished d)

collect-narrow : (D : Decoder) (room : ℕ) → Narrow (collect_entry D room).answer
unfolding collect_entry free_entry
collect-narrow D room = go (next_freed D)
  where
    go : (o : Option ℕ) → Narrow (free_entry D room o).answer
    go none = omega arith
    go (some i) = step (leb (length (instruction_wire (acknowledge i))) room) _ _ _ (omega arith)

-- ---- the decoder's calls

pub start-call : (m : List ℕ) (limit : ℕ) → Narrow (start_call m limit).answer
unfolding start_call
start-call m limit = call (leb limit 4096) _ _ _ _ (call (leb decoder_length (length m)) _ _ _ _ (omega arith))

pub read-call : (m s : List ℕ) → Narrow (read_call m s).answer
unfolding read_call stepped
read-call m s = call (forms_decoder m) _ _ _ _ (go (read_for_decoder s))
  where
    go : (r : Read InstructionPlace) → Narrow (on_read (λ (why : Refusal). refused m [] (number_of why)) r
        (λ p taken. stepped overlay_decoder m [] (read_instruction (decoder_of m) (instruction_of s p) taken))).answer
    go (Ok (p, taken)) = read-narrow (decoder_of m) (instruction_of s p) taken
    go (Err why) = omega arith

pub block-call : (m : List ℕ) (stream part : ℕ) (s out : List ℕ) → Narrow (block_call m stream part s out).answer
unfolding block_call stepped
block-call m stream part s out =
    call (forms_decoder m) _ _ _ _
    (call (part_turn (decoder_of m).finished stream (part_of part)) _ _ _ _ (go (read_block s)))
  where
    go : (r : BlockRead) → Narrow (on_block (refused m out) r
        (λ rs. stepped overlay_decoder m out (decode_block (decoder_of m) stream part rs (length out)))).answer
    go (block rs) = block-narrow (decoder_of m) stream part rs (length out)
    go (reading.BlockRead.refused why) = omega arith

pub over-call : (m : List ℕ) (stream : ℕ) → Narrow (over_call m stream).answer
unfolding over_call stepped
over-call m stream = call (forms_decoder m) _ _ _ _ (close-narrow (decoder_of m) over stream)

pub ended-call : (m : List ℕ) (stream : ℕ) → Narrow (ended_call m stream).answer
unfolding ended_call stepped
ended-call m stream = call (forms_decoder m) _ _ _ _ (close-narrow (decoder_of m) ended stream)

pub hold-call : (m : List ℕ) (index : ℕ) → Narrow (hold_call m index).answer
unfolding hold_call stepped
hold-call m index = call (forms_decoder m) _ _ _ _ (hold-narrow (decoder_of m) index)

pub collect-call : (m out : List ℕ) → Narrow (collect_call m out).answer
unfolding collect_call stepped
collect-call m out = call (forms_decoder m) _ _ _ _ (collect-narrow (decoder_of m) (length out))
