-- What an encoder's call that was answered "done" told and wrote, from memory that stands for a state: an insert, a delete, a block.
-- The answer leaves one way of the model's call, and the bytes are those of its output.
use mathlib.Core.Path.{◌≡◌, refl, sym, ap, ◌∙◌}
use mathlib.Core.Logic.{⊎_elim}
use Prim.Native.Nat.{ℕ}
use native.Mathlib.Omega.{arith}
use mathlib.Core.Bool.{Bool, true, false}
use mathlib.Core.Option.{some}
use mathlib.Core.List.{List, [], map}
use lib.ListN.{length}
use borrow.Author.Tests.{eqb-false}
use Rattle.memory.specs.Choice.{pick}
use Rattle.memory.specs.Bytes.{Small, overlay}
use Rattle.integers.specs.Answers.{Answer, out_of_turn, number_of}
use Rattle.fields.specs.Form.{Field, AllFine}
use Rattle.fields.specs.Reading.{FieldListRead, read_field_list}
use Rattle.fields.specs.Reading as lists
use Rattle.fields.proofs.Lists.{list-forth}
use Rattle.fields.proofs.Walk.{list-number}
use Rattle.instructions.specs.Instruction.{insert, instruction_wire}
use Rattle.blocks.specs.Representation.{block_wire}
use Rattle.blocks.specs.Reading.{block, read_block}
use Rattle.blocks.proofs.Back.{block_back}
use Rattle.model.specs.Table.{look, vacant_from}
use Rattle.model.specs.Outcome.{Outcome, output_bytes}
use Rattle.model.specs.Encoder.{Encoder, Sent, sent_index, choose_name, choose, delete_of_sent, FormsEncoder}
use Rattle.model.specs.EncoderCalls.{encoder_call}
use Rattle.model.specs.EncoderCalls as at-encoder
use Rattle.model_laws.proofs.EncoderWays.{insert-ways, delete-ways, block-ways}
use Rattle.model_laws.proofs.Answers.{encoder_refused, inserted-told, deleted-told, encoded-told}
use Rattle.model_laws.proofs.Saying.{choices-fine}
use Rattle.reply.specs.Result.{Result}
use Rattle.link.specs.Calls.{EncoderCall, encoder_result, EncoderBytes, done_bytes}
use Rattle.link.specs.Calls as calls
use Rattle.link.proofs.Lifted.{StandsEncoder, LiftedEncoder, read_list_call, encoder_call_of}
use Rattle.link.proofs.DoneBytes.{done-bytes}
use Rattle.link.proofs.EncoderLifting.{lift-encoder}
use Rattle.link.proofs.EncoderTables.{stands-forms}

-- ---- the ways that are answered "done", of the model's calls
module _ (E : Encoder) where
  insert-done : (name value : List ℕ) (room : ℕ) → let o = encoder_call E (at-encoder.insert name value room) in o.answer.number ≡ 0
      → (o.answer.second ≡ vacant_from sent_index 62 E.entries)
      × (output_bytes o.output ≡ instruction_wire (insert o.answer.second (choose_name E.entries name) value))
  unfolding encoder_call output_bytes
  insert-done name value room =
      insert-ways
      (λ (o : Outcome Encoder). o.answer.number ≡ 0
      → (o.answer.second ≡ vacant_from sent_index 62 E.entries)
      × (output_bytes o.output ≡ instruction_wire (insert o.answer.second (choose_name E.entries name) value)))
      E (λ a z e. absurd (eqb-false a.number 0 z e)) name value room (λ i q n v fits written e. (q, refl))

  delete-done : (i room : ℕ) → let o = encoder_call E (at-encoder.delete i room) in o.answer.number ≡ 0
      → (e : Sent) × (look sent_index i E.entries ≡ some e) × (output_bytes o.output ≡ instruction_wire (delete_of_sent e))
  unfolding encoder_call output_bytes
  delete-done i room =
      delete-ways
      (λ (o : Outcome Encoder). o.answer.number ≡ 0
      → (e : Sent) × (look sent_index i E.entries ≡ some e) × (output_bytes o.output ≡ instruction_wire (delete_of_sent e)))
      E (λ a z e. absurd (eqb-false a.number 0 z e)) i room (λ x there still fits e. (x, there, refl))

  block-done : FormsEncoder E → (stream part : ℕ) (fs : List Field) (room : ℕ) → AllFine fs
      → let o = encoder_call E (at-encoder.block stream part fs room) in o.answer.number ≡ 0
      → (read_block (output_bytes o.output) ≡ block (map (choose E.entries) fs)) × (output_bytes o.output ≡ block_wire (map (choose E.entries) fs))
  unfolding encoder_call output_bytes
  block-done F stream part fs room fine =
      block-ways
      (λ (o : Outcome Encoder). o.answer.number ≡ 0
      → (read_block (output_bytes o.output) ≡ block (map (choose E.entries) fs)) × (output_bytes o.output ≡ block_wire (map (choose E.entries) fs)))
      E (λ a z e. absurd (eqb-false a.number 0 z e)) stream part fs room
      (λ p rs chosen q below turn short fits e.
      (block_back rs (rw chosen (choices-fine E.entries F.order F.entries fs fine)) short ∙ ap block chosen, ap block_wire chosen))

unread-number : (E : Encoder) (number : ℕ) → (encoder_call E (at-encoder.unread number)).answer.number ≡ 0 → number ≡ 0
unfolding encoder_call
unread-number E number e = e

-- ---- the calls on memory
module _ (m : List ℕ) (E : Encoder) (S : StandsEncoder m E) where
  module _ (name value out : List ℕ) (small : EncoderBytes (calls.EncoderCall.insert name value out)) where
    abbrev inserting : Result
    inserting = encoder_result m (calls.EncoderCall.insert name value out)

    inserts : LiftedEncoder E (calls.EncoderCall.insert name value out) inserting
    inserts = lift-encoder m E S (calls.EncoderCall.insert name value out) small

    pub insert-told : inserting.answer.number ≡ 0
        → (inserting.answer.second ≡ vacant_from sent_index 62 E.entries)
        × (done_bytes inserting ≡ instruction_wire (insert inserting.answer.second (choose_name E.entries name) value))
    unfolding encoder_call_of
    insert-told z =
        let c = at-encoder.insert name value (length out) in
        let a : inserting.answer ≡ (encoder_call E c).answer = inserts.answer in
        let d = insert-done E name value (length out) (ap (λ (x : Answer). x.number) (sym a) ∙ z) in
        let second : inserting.answer.second ≡ (encoder_call E c).answer.second = ap (λ (x : Answer). x.second) a in (
          second ∙ d.0,
          done-bytes E (encoder_call E c) out inserting a inserts.output (encoder_refused E c) (inserted-told E name value (length out))
              ∙ d.1
              ∙ ap (λ (i : ℕ). instruction_wire (insert i (choose_name E.entries name) value)) (sym second),
        )

  -- a delete that was written
  pub delete-told : (i : ℕ) (out : List ℕ) → Small out
      → let r = encoder_result m (calls.EncoderCall.delete i out) in r.answer.number ≡ 0
      → (e : Sent) × (look sent_index i E.entries ≡ some e) × (done_bytes r ≡ instruction_wire (delete_of_sent e))
  unfolding encoder_call_of
  delete-told i out small z =
      let r = encoder_result m (calls.EncoderCall.delete i out) in
      let c = at-encoder.delete i (length out) in
      let L = lift-encoder m E S (calls.EncoderCall.delete i out) small in
      let a : r.answer ≡ (encoder_call E c).answer = L.answer in
      let d = delete-done E i (length out) (ap (λ (x : Answer). x.number) (sym a) ∙ z) in
      (d.0, d.1, done-bytes E (encoder_call E c) out r a L.output (encoder_refused E c) (deleted-told E i (length out)) ∙ d.2)

  -- a block that was written, by its turn and the reading of its list
  module _ (stream part : ℕ) (s out : List ℕ) (small : Small s) (r : Result) where
    abbrev Written : Type 0
    Written = (fs : List Field) × (read_field_list s ≡ lists.FieldListRead.list fs) × AllFine fs × (read_block (done_bytes r) ≡ block (map (choose E.entries) fs))
        × (done_bytes r ≡ block_wire (map (choose E.entries) fs))

    pub block-told : (turn : Bool) (q : FieldListRead) → read_field_list s ≡ q
        → let o = encoder_call E (pick turn (read_list_call stream part (length out) q) (at-encoder.unread out_of_turn)) in
        r.answer ≡ o.answer → r.output ≡ overlay out 0 (output_bytes o.output) → r.answer.number ≡ 0 → Written
    block-told true (lists.FieldListRead.list fs) read a o z =
        let c = at-encoder.block stream part fs (length out) in
        let fine = (list-forth s small fs read).1 in
        let d = block-done E (stands-forms m E S) stream part fs (length out) fine (ap (λ (x : Answer). x.number) (sym a) ∙ z) in
        let b = done-bytes E (encoder_call E c) out r a o (encoder_refused E c) (encoded-told E stream part fs (length out)) in
        (fs, read, fine, ap read_block b ∙ d.0, b ∙ d.1)
    block-told true (lists.FieldListRead.refused why) read a o z =
        let n : number_of why ≡ 0 = unread-number E (number_of why) (sym (ap (λ (x : Answer). x.number) a) ∙ z) in
        absurd (⊎_elim (λ d. omega (arith, n)) (λ d. omega (arith, n)) (list-number s (length s) 0 [] why read))
    block-told false q read a o z = absurd (omega (arith, unread-number E out_of_turn (sym (ap (λ (x : Answer). x.number) a) ∙ z)))
