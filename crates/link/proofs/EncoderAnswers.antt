-- Every answer of an encoder's call is one that the call may give. Along the definitions, once for each call, as for the decoder.
-- What an encoder in a well formed state writes can be said on the wire, so it is short.
use mathlib.Core.Path.{◌≡◌, refl}
use mathlib.Core.Logic.{⊎_elim}
use Prim.Native.Nat.{ℕ, ◌+◌, ◌≤◌}
use native.Mathlib.Omega.{arith}
use mathlib.Core.Bool.{not}
use mathlib.Core.Option.{Option, none, some}
use mathlib.Core.List.{List, [], ◌∷◌, map}
use lib.ListN.{length}
use lib.Dec.{ltb, leb}
use borrow.Author.Tests.{leb-true}
use Rattle.memory.proofs.Order.{pick-both}
use Rattle.integers.specs.Answers.{not_allowed, over_limit, vacant, under_deletion, not_under_deletion, out_of_turn, no_room, too_long, bad_field_list, on_read, Read, number_of}
use Rattle.integers.specs.Integer.{largest}
use Rattle.integers.proofs.Told.{One, RefusedBy}
use Rattle.fields.specs.Form.{Field}
use Rattle.fields.specs.Reading.{FieldListRead, read_field_list}
use Rattle.fields.specs.Reading as lists
use Rattle.fields.proofs.Walk.{list-number}
use Rattle.instructions.specs.Instruction.{insert, FineInstruction, instruction_wire}
use Rattle.instructions.specs.Reading.{read_for_encoder}
use Rattle.instructions.specs.declared.read.InstructionPlace.TheVariants.{Insert, Delete, Acknowledge}
use Rattle.instructions.proofs.Bounds.{encoder-good}
use Rattle.instructions.proofs.Lengths.{insert-size, delete-size}
use Rattle.instructions.proofs.Told.{encoder_refusals, encoder-told}
use Rattle.blocks.specs.Representation.{Representation, block_wire}
use Rattle.model.specs.Table.{size, look, vacant_from}
use Rattle.model.specs.Parts.{Part, part_of, in_turn, streams}
use Rattle.model.specs.Outcome.{nothing, instruction, block}
use Rattle.model.specs.Encoder.{Sent, sent_index, Encoder, sent_size, choose_name, choose, insert_at, insert_entry, delete_of_sent, empty_list, delete_found}
use Rattle.model.specs.Encoder.{delete_sent, write_part, encode_part, encode_block, acknowledge_found, read_ack, FormsEncoder}
use Rattle.model.specs.EncoderCalls.{encoder_call}
use Rattle.model.specs.EncoderCalls as at-encoder
use Rattle.model_laws.proofs.Tables.{nope}
use Rattle.model_laws.proofs.FormsSent.{new-fine}
use Rattle.model_laws.proofs.Saying.{name-fine}
use Rattle.parts.specs.Turn.{part_turn}
use Rattle.link.specs.Calls.{EncoderCall, Call, at_encoder}
use Rattle.link.specs.Calls as calls
use Rattle.link.proofs.Lifted.{read_list_call, acknowledged_call, encoder_call_of, encoder_unread}
use Rattle.link.proofs.Says.{Says, refusal-says, refusing, unread-says, both_say, first_says}
use Rattle.std.specs.Prelude.{Ok, Err}
use Rattle.instructions.specs.declared.read.InstructionPlace.{InstructionPlace}
use Rattle.integers.specs.declared.answer.Refusal.{Refusal}

abbrev inserting : List ℕ → List ℕ → List ℕ → Call
inserting name value out = at_encoder (calls.EncoderCall.insert name value out)

abbrev deleting : ℕ → List ℕ → Call
deleting i out = at_encoder (calls.EncoderCall.delete i out)

abbrev encoding : ℕ → ℕ → List ℕ → List ℕ → Call
encoding stream part s out = at_encoder (calls.EncoderCall.block stream part s out)

abbrev acknowledging : List ℕ → Call
acknowledging s = at_encoder (calls.EncoderCall.acknowledge s)

module _ (E : Encoder) (F : FormsEncoder E) where
  -- ---- an insert: its bytes and the new index are told
  insert-says : (name value out : List ℕ) → Says (inserting name value out) (insert_entry E name value (length out))
  unfolding insert_entry insert_at
  insert-says name value out =
      let c : Call = inserting name value out in
      let i : ℕ = vacant_from sent_index 62 E.entries in
      let bytes : List ℕ = instruction_wire (insert i (choose_name E.entries name) value) in
      refusing c E (leb (length name) 255) too_long tt
      (λ n. refusing c E (leb (length value) 2047) too_long tt
      (λ v. refusing c E (leb (sent_size E.entries + size (record { name = name; value = value })) E.limit) over_limit tt
      (λ g. refusing c E (leb (length bytes) (length out)) no_room tt
      (λ fits. let x = new-fine E F.limit i name value refl (leb-true _ _ n) (leb-true _ _ v) (leb-true _ _ g) in
      let fine = name-fine E.entries F.order F.entries name (leb-true _ _ n) in
      both_say c _ (length bytes) i (instruction (insert i (choose_name E.entries name) value)) refl (λ e. nope (cc)) (λ e. nope (cc))
      (leb-true _ _ fits)
      (omega (arith, insert-size i (choose_name E.entries name) value ((x.low, omega (arith, x.high)), fine, leb-true _ _ v)))
      (omega (arith, x.high))))))

  -- ---- a delete: its bytes are told
  delete_says : (i : ℕ) (out : List ℕ) (o : Option Sent) → look sent_index i E.entries ≡ o → Says (deleting i out) (delete_found E (length out) o)
  unfolding delete_found
  delete_says i out none d = refusal-says (deleting i out) E vacant tt
  delete_says i out (some e) d =
      let x = F.entries i e d in
      let fine : FineInstruction (delete_of_sent e) = ((x.low, omega (arith, x.high)), (x.nontrailer, omega arith, tt), (x.trailer, omega arith, tt)) in
      refusing (deleting i out) E (not e.deleted) under_deletion tt
      (λ f. refusing (deleting i out) E (leb (length (instruction_wire (delete_of_sent e))) (length out)) no_room tt
      (λ g. first_says (deleting i out) _ (length (instruction_wire (delete_of_sent e))) (instruction (delete_of_sent e)) refl refl (leb-true _ _ g)
      (omega (arith, delete-size e.index (empty_list e.nontrailer) (empty_list e.trailer) fine))))

-- ---- a block: its bytes are told

module _ (E : Encoder) (stream part : ℕ) (s out : List ℕ) where
  write-says : (p : Part) (rs : List Representation) → Says (encoding stream part s out) (write_part E stream p rs (length out))
  unfolding write_part
  write-says p rs =
      refusing (encoding stream part s out) E (leb (length (block_wire rs)) 16384) too_long tt
      (λ e. refusing (encoding stream part s out) E (leb (length (block_wire rs)) (length out)) no_room tt
      (λ f. first_says (encoding stream part s out) _ (length (block_wire rs)) (block rs) refl refl (leb-true _ _ f)
      (omega (arith, leb-true (length (block_wire rs)) 16384 e))))

  part_says : (o : Option Part) (fs : List Field) → Says (encoding stream part s out) (encode_part E stream o fs (length out))
  unfolding encode_part
  part_says none fs = refusal-says (encoding stream part s out) E out_of_turn tt
  part_says (some p) fs =
      refusing (encoding stream part s out) E (ltb stream streams) out_of_turn tt
      (λ e. refusing (encoding stream part s out) E (in_turn E.written stream p) out_of_turn tt
      (λ f. write-says p (map (choose E.entries) fs)))

  list-refused : (why : Refusal) → read_field_list s ≡ lists.FieldListRead.refused why → One (bad_field_list ∷ too_long ∷ []) (number_of why)
  list-refused why e = ⊎_elim (λ d. rw d tt) (λ d. rw d tt) (list-number s (length s) 0 [] why e)

-- ---- an acknowledgement that was read: the bytes taken are told

freed-says : (E : Encoder) (s : List ℕ) (taken : ℕ) → taken ≤ length s → taken ≤ 5
    → (o : Option Sent) → Says (acknowledging s) (acknowledge_found E taken o)
unfolding acknowledge_found
freed-says E s taken inside short none = refusal-says (acknowledging s) E not_under_deletion tt
freed-says E s taken inside short (some e) =
    refusing (acknowledging s) E e.deleted not_under_deletion tt
    (λ f. first_says (acknowledging s) _ taken nothing refl refl inside (omega arith))

-- ---- every call

pub encoder-says : (E : Encoder) → FormsEncoder E → (c : EncoderCall) → Says (at_encoder c) (encoder_call E (encoder_call_of E c))
unfolding encoder_call_of encoder_call delete_sent encode_block read_ack
encoder-says E F (calls.EncoderCall.insert name value out) = insert-says E F name value out
encoder-says E F (calls.EncoderCall.delete i out) =
    refusing (deleting i out) E (leb 62 i) not_allowed tt
    (λ e. refusing (deleting i out) E (leb i largest) not_allowed tt (λ f. delete_says E F i out (look sent_index i E.entries) refl))
encoder-says E F (calls.EncoderCall.block stream part s out) =
    pick-both (λ (x : at-encoder.EncoderCall). Says (encoding stream part s out) (encoder_call E x)) (part_turn E.written stream (part_of part)) _
    (at-encoder.unread out_of_turn) (λ e. go (read_field_list s) refl) (λ e. refusal-says (encoding stream part s out) E out_of_turn tt)
  where
    go : (r : FieldListRead) → read_field_list s ≡ r → Says (encoding stream part s out) (encoder_call E (read_list_call stream part (length out) r))
    go (lists.FieldListRead.list fs) e = part_says E stream part s out (part_of part) fs
    go (lists.FieldListRead.refused why) e =
        unread-says (encoding stream part s out) E (bad_field_list ∷ too_long ∷ []) tt (number_of why) (list-refused E stream part s out why e)
encoder-says E F (calls.EncoderCall.acknowledge s) = go (read_for_encoder s) refl (encoder-told s).told
  where
    go : (r : Read InstructionPlace) → read_for_encoder s ≡ r → RefusedBy encoder_refusals r
        → Says (acknowledging s) (encoder_call E (on_read encoder_unread r acknowledged_call))
    go (Ok (Insert i name value, taken)) e t = refusal-says (acknowledging s) E not_allowed tt
    go (Ok (Delete i nontrailer trailer, taken)) e t = refusal-says (acknowledging s) E not_allowed tt
    go (Ok (Acknowledge i, taken)) e t =
        let g = encoder-good s (Acknowledge i) taken e in freed-says E s taken g.inside g.short (look sent_index i.value E.entries)
    go (Err why) e t = unread-says (acknowledging s) E encoder_refusals tt (number_of why) t
