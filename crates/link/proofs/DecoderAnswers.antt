-- Every answer of a decoder's call is one that the call may give. Along the definitions, once for each call: each refusal stands in the call's list,
-- and what is told with "done" is bounded by the reading, by the lent output or by the count of streams.
use mathlib.Core.Path.{◌≡◌, refl, subst}
use Prim.Native.Nat.{ℕ, ◌+◌, ◌≤◌}
use native.Mathlib.Omega.{arith}
use mathlib.Core.Bool.{not}
use mathlib.Core.Option.{Option, none, some}
use mathlib.Core.List.{List}
use lib.ListN.{length}
use lib.Dec.{ltb, leb}
use borrow.Author.Tests.{leb-true}
use Rattle.memory.proofs.Order.{pick-both}
use Rattle.integers.specs.Answers.{not_allowed, held, over_limit, vacant, under_deletion, not_under_deletion, out_of_turn, no_room, on_read, Read, number_of}
use Rattle.integers.specs.Integer.{largest}
use Rattle.statics.specs.Table.{Entry, entry_at}
use Rattle.statics.proofs.Places.{name-most, value-most}
use Rattle.fields.specs.Form.{list_form}
use Rattle.fields.proofs.Sizes.{list_form-most}
use Rattle.instructions.specs.Instruction.{Instruction, insert, delete, acknowledge, instruction_wire}
use Rattle.instructions.specs.Reading.{read_for_decoder, instruction_of}
use Rattle.instructions.proofs.Bounds.{decoder-good}
use Rattle.instructions.proofs.Lengths.{acknowledge-length}
use Rattle.instructions.proofs.Told.{decoder_refusals, decoder-told}
use Rattle.blocks.specs.Representation.{Representation}
use Rattle.blocks.specs.Meaning.{is_static, Slot, holds, with_statics, BlockMeaning, block_meaning}
use Rattle.blocks.specs.Meaning as meaning
use Rattle.blocks.specs.Reading.{BlockRead, read_block}
use Rattle.blocks.specs.Reading as blocks
use Rattle.blocks.proofs.Whole.{block-fine, block-few}
use Rattle.blocks.proofs.MeaningHeld.{waits-low, list_length, list-fine}
use Rattle.blocks.proofs.Told.{block_refusals, BlockTold, block-told}
use Rattle.model.specs.Table.{size, look}
use Rattle.model.specs.Parts.{Part, part_of, in_turn, open_below, lowest_open, streams, Delete}
use Rattle.model.specs.Outcome.{nothing, instruction, fields, finish}
use Rattle.model.specs.Decoder.{Held, held_index, Decoder, slot_in, lookup, delete_of, held_size, is_some, name_bytes, insert_named, delete_entry, read_instruction}
use Rattle.model.specs.Decoder.{give_fields, decode_part, decode_block, close_parts, next_freed, without, free_entry, collect_entry, hold_of, enquire_hold}
use Rattle.model.specs.Decoder.{FormsDecoder}
use Rattle.model.specs.DecoderCalls.{decoder_call}
use Rattle.model.specs.DecoderCalls as at-decoder
use Rattle.model_laws.proofs.Tables.{nope}
use Rattle.parts.specs.Turn.{part_turn}
use Rattle.decoder.proofs.Holding.{count-few, lowest-low}
use Rattle.link.specs.Calls.{DecoderCall, Call, at_decoder}
use Rattle.link.specs.Calls as calls
use Rattle.link.proofs.Lifted.{read_block_call, decoder_call_of, decoder_unread}
use Rattle.link.proofs.Says.{Says, refusal-says, refusing, unread-says, both_say, first_says}
use Rattle.std.specs.Prelude.{Ok, Err}
use Rattle.instructions.specs.declared.read.InstructionPlace.{InstructionPlace}
use Rattle.integers.proofs.Told.{RefusedBy}

abbrev reading : List ℕ → Call
reading s = at_decoder (calls.DecoderCall.read s)

abbrev decoding : ℕ → ℕ → List ℕ → List ℕ → Call
decoding stream part s out = at_decoder (calls.DecoderCall.block stream part s out)

abbrev collecting : List ℕ → Call
collecting out = at_decoder (calls.DecoderCall.collect out)

abbrev enquiring : ℕ → Call
enquiring i = at_decoder (calls.DecoderCall.hold i)

-- ---- an instruction that was read: the bytes taken are told

module _ (D : Decoder) (s : List ℕ) (taken : ℕ) (inside : taken ≤ length s) (short : taken ≤ 9228) where
  took : (E : Decoder) → Says (reading s) (finish E taken 0 nothing)
  took E = first_says (reading s) E taken nothing refl refl inside (omega arith)

  insert-says : (i : ℕ) (value : List ℕ) (o : Option (List ℕ)) → Says (reading s) (insert_named D i value taken o)
  unfolding insert_named
  insert-says i value none = refusal-says (reading s) D vacant tt
  insert-says i value (some name) =
      refusing (reading s) D (not (is_some (look held_index i D.entries))) held tt
      (λ e. refusing (reading s) D (leb (held_size D.entries + size (record { name = name; value = value })) D.limit) over_limit tt (λ f. took _))

  read-says : (i : Instruction) → Says (reading s) (read_instruction D i taken)
  unfolding read_instruction delete_entry
  read-says (insert i name value) = insert-says i value (name_bytes (lookup D) name)
  read-says (delete i nontrailer trailer) =
      refusing (reading s) D (is_some (look held_index i D.entries)) vacant tt
      (λ e. refusing (reading s) D (not (is_some (delete_of D i))) under_deletion tt (λ f. took _))
  read-says (acknowledge i) = refusal-says (reading s) D not_allowed tt

-- ---- a block that was read: the bytes of its fields are told, or the index that it waits for

-- names and values of all entries, static and held, are as short as a field's
module _ (D : Decoder) (F : FormsDecoder D) where
  abbrev Short : Slot → Type 0
  Short t = (x : Entry) → t ≡ holds x → (length x.name ≤ 255) × (length x.value ≤ 2047)

  held-short : (i : ℕ) (o : Option Held) → look held_index i D.entries ≡ o → Short (slot_in o)
  unfolding slot_in
  held-short i none e x d = nope (cc)
  held-short i (some h) e x d =
      let f = F.entries i h e in
      let same : h.entry ≡ x = cc in
      subst (λ (y : Entry). (length y.name ≤ 255) × (length y.value ≤ 2047)) same (f.name, f.value)

  static-short : (i : ℕ) → Short (holds (entry_at i))
  static-short i x d =
      let same : entry_at i ≡ x = cc in
      subst (λ (y : Entry). (length y.name ≤ 255) × (length y.value ≤ 2047)) same (name-most i, omega (arith, value-most i))

  entry-short : (i : ℕ) → Short (lookup D i)
  unfolding lookup with_statics
  entry-short i =
      pick-both Short (is_static i) (holds (entry_at i)) (slot_in (look held_index i D.entries))
      (λ t. static-short i) (λ t. held-short i (look held_index i D.entries) refl)

  module _ (stream part : ℕ) (s out : List ℕ) (rs : List Representation) (read : read_block s ≡ blocks.BlockRead.block rs) where
    give-says : (p : Part) (m : BlockMeaning) → block_meaning (lookup D) rs ≡ m → Says (decoding stream part s out) (give_fields D stream p (length out) m)
    unfolding give_fields
    give-says p (meaning.BlockMeaning.waits i) e =
        let i-low = waits-low (lookup D) rs (block-fine s rs read) i e in
        record {
          says = record {
            numbered = refl;
            first = λ z. nope (cc);
            second = λ z. refl;
            counted = λ z. absurd (omega (arith, z));
            byte = omega arith;
            low = omega arith;
            narrow = omega arith;
          };
          standing = λ z. omega (arith, z);
        }
    give-says p (meaning.BlockMeaning.list fs) e =
        let few = block-few s rs read in
        let same = list_length (lookup D) rs fs e in
        let most = list_form-most fs (list-fine (lookup D) entry-short rs (block-fine s rs read) fs e) in
        refusing (decoding stream part s out) D (leb (length (list_form fs)) (length out)) no_room tt
        (λ f. first_says (decoding stream part s out) _ (length (list_form fs)) (fields fs) refl refl (leb-true _ _ f) (omega arith))

    part_says : (o : Option Part) → Says (decoding stream part s out) (decode_part D stream o rs (length out))
    unfolding decode_part
    part_says none = refusal-says (decoding stream part s out) D out_of_turn tt
    part_says (some p) =
        refusing (decoding stream part s out) D (ltb stream streams) out_of_turn tt
        (λ e. refusing (decoding stream part s out) D (in_turn D.finished stream p) out_of_turn tt
        (λ f. give-says p (block_meaning (lookup D) rs) refl))

-- ---- an entry freed: the acknowledgement's bytes are told

free-says : (D : Decoder) (out : List ℕ) (o : Option ℕ) → Says (collecting out) (free_entry D (length out) o)
unfolding free_entry
free-says D out none = first_says (collecting out) D 0 nothing refl refl (omega arith) (omega arith)
free-says D out (some i) =
    let n : ℕ = length (instruction_wire (acknowledge i)) in
    refusing (collecting out) D (leb n (length out)) no_room tt
    (λ f. first_says (collecting out) (without D i) n (instruction (acknowledge i)) refl refl (leb-true _ _ f) (omega (arith, acknowledge-length i)))

-- ---- the enquiry: both numbers are told

hold-says : (D : Decoder) (i : ℕ) (o : Option Delete) → Says (enquiring i) (hold_of D o)
unfolding hold_of
hold-says D i none = refusal-says (enquiring i) D not_under_deletion tt
hold-says D i (some d) =
    both_say (enquiring i) D (open_below D.finished d streams) (lowest_open D.finished d 0 streams) nothing refl
    (λ e. nope (cc)) (λ e. nope (cc)) tt
    (omega (arith, count-few D.finished d _ refl)) (omega (arith, lowest-low D.finished d))

-- ---- every call

pub decoder-says : (D : Decoder) → FormsDecoder D → (c : DecoderCall) → Says (at_decoder c) (decoder_call D (decoder_call_of D c))
unfolding decoder_call_of decoder_call decode_block close_parts collect_entry enquire_hold
decoder-says D F (calls.DecoderCall.read s) = go (read_for_decoder s) refl (decoder-told s).told
  where
    go : (r : Read InstructionPlace) → read_for_decoder s ≡ r → RefusedBy decoder_refusals r
        → Says (reading s) (decoder_call D (on_read decoder_unread r (λ p taken. at-decoder.read (instruction_of s p) taken)))
    go (Ok (p, taken)) e t = let g = decoder-good s p taken e in read-says D s taken g.inside g.short (instruction_of s p)
    go (Err why) e t = unread-says (reading s) D decoder_refusals tt (number_of why) t
decoder-says D F (calls.DecoderCall.block stream part s out) =
    pick-both (λ (x : at-decoder.DecoderCall). Says (decoding stream part s out) (decoder_call D x)) (part_turn D.finished stream (part_of part)) _
    (at-decoder.unread out_of_turn) (λ e. go (read_block s) refl (block-told s)) (λ e. refusal-says (decoding stream part s out) D out_of_turn tt)
  where
    go : (r : BlockRead) → read_block s ≡ r → BlockTold r → Says (decoding stream part s out) (decoder_call D (read_block_call stream part (length out) r))
    go (blocks.BlockRead.block rs) e t = part_says D F stream part s out rs e (part_of part)
    go (blocks.BlockRead.refused why) e t = unread-says (decoding stream part s out) D block_refusals tt (number_of why) t
decoder-says D F (calls.DecoderCall.close k stream) =
    refusing (at_decoder (calls.DecoderCall.close k stream)) D (ltb stream streams) out_of_turn tt
    (λ e. both_say (at_decoder (calls.DecoderCall.close k stream)) _ 0 0 nothing refl (λ z. refl) (λ z. refl) tt (omega arith) (omega arith))
decoder-says D F (calls.DecoderCall.collect out) = free-says D out (next_freed D)
decoder-says D F (calls.DecoderCall.hold i) =
    refusing (enquiring i) D (leb 62 i) not_allowed tt
    (λ e. refusing (enquiring i) D (leb i largest) not_allowed tt
    (λ f. refusing (enquiring i) D (is_some (look held_index i D.entries)) vacant tt (λ g. hold-says D i (delete_of D i))))
