-- Every call at the encoder is a step: its event on bytes beside the model's.
-- By the ways of the model's call; what is written can be said, so that it is read back.
use mathlib.Core.Path.{◌≡◌, refl, sym, ap, ◌∙◌}
use mathlib.Core.Logic.{⊎_elim}
use Prim.Native.Nat.{ℕ, ◌≤◌}
use native.Mathlib.Omega.{arith}
use mathlib.Core.Bool.{Bool, true, false}
use mathlib.Core.List.{List, []}
use lib.ListN.{length}
use lib.Dec.{eqb}
use borrow.Author.Tests.{eqb-false}
use Rattle.memory.specs.Choice.{pick}
use Rattle.memory.specs.Bytes.{Small, overlay}
use Rattle.integers.specs.Answers.{Answer, done, out_of_turn, on_read, Read, number_of}
use Rattle.fields.specs.Form.{Field}
use Rattle.fields.specs.Reading.{FieldListRead, read_field_list}
use Rattle.fields.specs.Reading as lists
use Rattle.fields.proofs.Lists.{list-forth}
use Rattle.fields.proofs.Walk.{list-number}
use Rattle.instructions.specs.Instruction.{Instruction, FineInstruction, Manages, instruction_wire}
use Rattle.instructions.specs.Reading.{read_for_encoder}
use Rattle.instructions.specs.declared.read.InstructionPlace.TheVariants.{Insert, Delete, Acknowledge}
use Rattle.instructions.proofs.Bounds.{encoder-good}
use Rattle.instructions.proofs.Told.{encoder_refusals, encoder-told}
use Rattle.blocks.specs.Reading.{read_block}
use Rattle.blocks.proofs.Back.{block_back}
use Rattle.model.specs.Parts.{part_of}
use Rattle.model.specs.Outcome.{Outcome, output_bytes}
use Rattle.model.specs.Encoder.{Encoder, insert_entry, delete_sent, encode_block, FormsEncoder, read_ack}
use Rattle.model.specs.EncoderCalls.{encoder_call}
use Rattle.model.specs.EncoderCalls as at-encoder
use Rattle.model.specs.Events.{said_by, wrote_by, encoder_event}
use Rattle.model.specs.Events as model
use Rattle.model_laws.proofs.Tables.{nope}
use Rattle.model_laws.proofs.EncoderWays.{insert-ways, delete-ways, block-ways, acknowledged-ways}
use Rattle.model_laws.proofs.Saying.{said-fine, block-fine}
use Rattle.parts.specs.Turn.{part_turn}
use Rattle.reply.specs.Result.{Result}
use Rattle.link.specs.Calls.{EncoderCall, encoder_lent, EncoderBytes}
use Rattle.link.specs.Calls as calls
use Rattle.link.specs.Claims.{Event}
use Rattle.link.proofs.Lifted.{read_list_call, acknowledged_call, encoder_call_of, encoder_unread}
use Rattle.link.proofs.Steps.{Speaks, said, wrote, acknowledged}
use Rattle.link.proofs.QuietSteps.{TiedStep, idle-step, Left, done_none, done-some, refuses-some, refused-number}
use Rattle.link.proofs.QuietSteps.{quiet-speech, quiet-block, quiet-acknowledgement}
use Rattle.std.specs.Prelude.{Ok, Err}
use Rattle.instructions.specs.declared.read.InstructionPlace.{InstructionPlace}
use Rattle.integers.proofs.Told.{RefusedBy}

-- an answer that is not 0, of a result with that answer
unlike : (r : Result) (a : Answer) → r.answer ≡ a → eqb a.number 0 ≡ false → eqb r.answer.number 0 ≡ false
unlike r a e z = rw e z

-- ---- an insert or a delete
module _ (c : EncoderCall) (speaks : Speaks c) (r : Result) where
  unsaid : (a : Answer) → eqb a.number 0 ≡ false → r.answer ≡ a → TiedStep (Event.by_encoder c r) model.quiet
  unsaid a z e = idle-step (Event.by_encoder c r) (quiet-speech c r speaks (done_none r (unlike r a e z)))

  saying : (out : List ℕ) (i : Instruction) (second : ℕ) → Manages i × FineInstruction i → length (instruction_wire i) ≤ length out
      → r.answer ≡ done (length (instruction_wire i)) second → r.output ≡ overlay out 0 (instruction_wire i) → TiedStep (Event.by_encoder c r) (model.said i)
  saying out i second f h a o = record {
    step = said c r i (record { speaks = speaks; manages = f.0; fine = f.1; bytes = done-some r out (instruction_wire i) second h a o });
    byte = refl;
    same = refl;
  }

module _ (E : Encoder) (F : FormsEncoder E) (r : Result) where
  insert-step : (name value out : List ℕ) → Left r out (insert_entry E name value (length out))
      → TiedStep (Event.by_encoder (calls.EncoderCall.insert name value out) r) (said_by (insert_entry E name value (length out)).output)
  unfolding said_by output_bytes encoder_call
  insert-step name value out =
      insert-ways
      (λ (o : Outcome Encoder). insert_entry E name value (length out) ≡ o → Left r out o → TiedStep (Event.by_encoder c r) (said_by o.output))
      E (λ a z e l. unsaid c tt r a z l.answer) name value (length out)
      (λ i d n v fits room e l.
      saying c tt r out _ i
      (said-fine E (at-encoder.insert name value (length out)) F _ (ap (λ (o : Outcome Encoder). o.output) e)) room l.answer l.output)
      refl
    where
      c : EncoderCall
      c = calls.EncoderCall.insert name value out

  delete-step : (index : ℕ) (out : List ℕ) → Left r out (delete_sent E index (length out))
      → TiedStep (Event.by_encoder (calls.EncoderCall.delete index out) r) (said_by (delete_sent E index (length out)).output)
  unfolding said_by output_bytes encoder_call
  delete-step index out =
      delete-ways
      (λ (o : Outcome Encoder). delete_sent E index (length out) ≡ o → Left r out o → TiedStep (Event.by_encoder c r) (said_by o.output))
      E (λ a z e l. unsaid c tt r a z l.answer) index (length out)
      (λ x there still room e l.
      saying c tt r out _ 0
      (said-fine E (at-encoder.delete index (length out)) F _ (ap (λ (o : Outcome Encoder). o.output) e)) room l.answer l.output)
      refl
    where
      c : EncoderCall
      c = calls.EncoderCall.delete index out

-- ---- a block
module _ (E : Encoder) (F : FormsEncoder E) (r : Result) (stream part : ℕ) (s out : List ℕ) where
  abbrev write : EncoderCall
  write = calls.EncoderCall.block stream part s out

  unwritten : (n : ℕ) → (n ≡ 0 → ⊥) → r.answer.number ≡ n → TiedStep (Event.by_encoder write r) model.quiet
  unwritten n f e = idle-step (Event.by_encoder write r) (quiet-block stream part s out r (refused-number r (λ z. f (sym e ∙ z))))

  block-step : (fs : List Field) → Small s → read_field_list s ≡ lists.FieldListRead.list fs → Left r out (encode_block E stream part fs (length out))
      → TiedStep (Event.by_encoder write r) (wrote_by stream part fs (encode_block E stream part fs (length out)).output)
  unfolding wrote_by output_bytes encoder_call
  block-step fs small read =
      let l = list-forth s small fs read in
      block-ways
      (λ (o : Outcome Encoder). encode_block E stream part fs (length out) ≡ o → Left r out o → TiedStep (Event.by_encoder write r) (wrote_by stream part fs o.output))
      E (λ a z e x. idle-step (Event.by_encoder write r) (quiet-block stream part s out r (unlike r a x.answer z))) stream part fs (length out)
      (λ p rs chosen d below turn short room e x.
      let fine = block-fine E stream part fs (length out) F l.1 rs (ap (λ (o : Outcome Encoder). o.output) e) in
      let b = done-some r out _ 0 room x.answer x.output in
      record {
        step = wrote stream part s out r fs rs
            (record { done = ap (λ (a : Answer). a.number) x.answer; list = l.0; reads = ap read_block b ∙ block_back rs fine short });
        byte = refl;
        same = refl;
      })
      refl

  -- by its reading
  written_step : (b : Bool) (q : FieldListRead) → Small s → read_field_list s ≡ q
      → Left r out (encoder_call E (pick b (read_list_call stream part (length out) q) (at-encoder.unread out_of_turn)))
      → TiedStep (Event.by_encoder write r) (encoder_event (pick b (read_list_call stream part (length out) q) (at-encoder.unread out_of_turn))
      (encoder_call E (pick b (read_list_call stream part (length out) q) (at-encoder.unread out_of_turn))))
  unfolding encoder_call encoder_event
  written_step true (lists.FieldListRead.list fs) small e l = block-step fs small e l
  written_step true (lists.FieldListRead.refused why) small e l =
      let f : number_of why ≡ 0 → ⊥ = λ z. ⊎_elim (λ d. omega (arith, z)) (λ d. omega (arith, z)) (list-number s (length s) 0 [] why e) in
      unwritten (number_of why) f (ap (λ (a : Answer). a.number) l.answer)
  written_step false q small e l = unwritten out_of_turn (λ z. omega (arith, z)) (ap (λ (a : Answer). a.number) l.answer)

-- ---- an acknowledgement
acknowledged-taken : (E : Encoder) (i taken : ℕ) → (read_ack E i taken).answer.number ≡ 0 → (read_ack E i taken).answer.first ≡ taken
acknowledged-taken E i taken =
    acknowledged-ways (λ (o : Outcome Encoder). o.answer.number ≡ 0 → o.answer.first ≡ taken) E
    (λ a z e. absurd (eqb-false a.number 0 z e)) i taken (λ e there gone z. refl)

module _ (E : Encoder) (r : Result) (s : List ℕ) where
  acknowledged-step : (q : Read InstructionPlace) → read_for_encoder s ≡ q → RefusedBy encoder_refusals q
      → Left r [] (encoder_call E (on_read encoder_unread q acknowledged_call))
      → TiedStep (Event.by_encoder (calls.EncoderCall.acknowledge s) r) (encoder_event (on_read encoder_unread q acknowledged_call)
      (encoder_call E (on_read encoder_unread q acknowledged_call)))
  unfolding encoder_call encoder_event
  acknowledged-step (Ok (Insert i name value, taken)) e t l = let k = (encoder-good s _ taken e).kind in nope (cc)
  acknowledged-step (Ok (Delete i nontrailer trailer, taken)) e t l = let k = (encoder-good s _ taken e).kind in nope (cc)
  acknowledged-step (Ok (Acknowledge i, taken)) e t l = record {
    step = acknowledged s r i.value (record {
      place = Acknowledge i;
      taken = taken;
      found = e;
      same = refl;
      told = λ z. ap (λ (a : Answer). a.first) l.answer
          ∙ acknowledged-taken E i.value taken (ap (λ (a : Answer). a.number) (sym l.answer) ∙ z);
    });
    byte = refl;
    same = ap (λ (a : Answer). model.acknowledged i.value a.number) l.answer;
  }
  acknowledged-step (Err why) e t l =
      let n : r.answer.number ≡ number_of why = ap (λ (a : Answer). a.number) l.answer in
      idle-step (Event.by_encoder (calls.EncoderCall.acknowledge s) r)
      (quiet-acknowledgement s r (why, e, n, λ z. refuses-some encoder_refusals refl (number_of why) t (sym n ∙ z)))

-- ---- every call
pub encoder-step : (E : Encoder) → FormsEncoder E → (c : EncoderCall) → EncoderBytes c → (r : Result)
    → Left r (encoder_lent c) (encoder_call E (encoder_call_of E c))
    → TiedStep (Event.by_encoder c r) (encoder_event (encoder_call_of E c) (encoder_call E (encoder_call_of E c)))
unfolding encoder_call_of encoder_call encoder_event
encoder-step E F (calls.EncoderCall.insert name value out) b r l = insert-step E F r name value out l
encoder-step E F (calls.EncoderCall.delete index out) b r l = delete-step E F r index out l
encoder-step E F (calls.EncoderCall.block stream part s out) b r l =
    written_step E F r stream part s out (part_turn E.written stream (part_of part)) (read_field_list s) b.0 refl l
encoder-step E F (calls.EncoderCall.acknowledge s) b r l = acknowledged-step E r s (read_for_encoder s) refl (encoder-told s).told l
