-- What happened in an encoder's call, told by its bytes and its answer, is what happened in the model's call.
-- By reading back the delete that was written, and by the reading of an acknowledgement.
use mathlib.Core.Path.{◌≡◌, refl, ap, ◌∙◌}
use Prim.Native.Nat.{ℕ}
use native.Mathlib.Omega.{arith}
use mathlib.Core.Bool.{Bool, true, false}
use mathlib.Core.List.{List, [], ◌∷◌}
use lib.ListN.{length}
use lib.Dec.{eqb}
use Rattle.memory.specs.Choice.{pick}
use Rattle.memory.proofs.Places.{has_all}
use Rattle.integers.specs.Answers.{Answer, out_of_turn, on_read, Read}
use Rattle.wire.specs.Name.{literal}
use Rattle.fields.specs.Reading.{FieldListRead, read_field_list}
use Rattle.fields.specs.Reading as lists
use Rattle.instructions.specs.Instruction.{Instruction, Manages, FineInstruction, instruction_wire}
use Rattle.instructions.specs.Reading.{read_for_encoder, instruction_of}
use Rattle.instructions.specs.declared.read.InstructionPlace.TheVariants.{Insert, Delete, Acknowledge}
use Rattle.instructions.proofs.Equations.{decoder-empty}
use Rattle.instructions.proofs.Back.{decoder-back}
use Rattle.model.specs.Parts.{part_of}
use Rattle.model.specs.Outcome.{Outcome, output_bytes}
use Rattle.model.specs.Encoder.{Encoder, delete_sent, FormsEncoder}
use Rattle.model.specs.EncoderCalls.{encoder_call}
use Rattle.model.specs.EncoderCalls as at-encoder
use Rattle.model.specs.Happened.{Happened, inserted, freed, done_by}
use Rattle.model_laws.proofs.EncoderWays.{delete-ways}
use Rattle.model_laws.proofs.Answers.{encoder_refused, deleted-told}
use Rattle.model_laws.proofs.Saying.{said-fine}
use Rattle.model_laws.proofs.SentHappened.{wrote_delete, sent_happened}
use Rattle.parts.specs.Turn.{part_turn}
use Rattle.reply.specs.Result.{Result}
use Rattle.link.specs.Calls.{EncoderCall}
use Rattle.link.specs.Calls as calls
use Rattle.link.specs.Happened.{managed, happened_there}
use Rattle.link.proofs.Lifted.{LiftedEncoder, read_list_call, acknowledged_call, encoder_call_of, encoder_unread}
use Rattle.link.proofs.DoneBytes.{done-bytes}
use Rattle.std.specs.Prelude.{Ok, Err}
use Rattle.instructions.specs.declared.read.InstructionPlace.{InstructionPlace}

-- ---- what bytes say: an instruction that can be said does what it says, and none do nothing
managed-back : (i : Instruction) → Manages i × FineInstruction i → managed (instruction_wire i) ≡ done_by i
managed-back i f =
    let back = decoder-back (instruction_wire i) i f.0 f.1 (has_all (instruction_wire i)) in
    ap (λ (q : Read InstructionPlace). on_read (λ why. []) q (λ p taken. done_by (instruction_of (instruction_wire i) p))) back.1 ∙ ap done_by back.2

managed-none : managed [] ≡ []
managed-none =
    ap (λ (q : Read InstructionPlace). on_read (λ why. []) q (λ p taken. done_by (instruction_of [] p))) (decoder-empty [] (omega arith))

-- ---- a delete
delete-happened : (E : Encoder) → FormsEncoder E → (i room : ℕ)
    → managed (output_bytes (encoder_call E (at-encoder.delete i room)).output) ≡ wrote_delete (encoder_call E (at-encoder.delete i room)).output
unfolding encoder_call output_bytes wrote_delete
delete-happened E F i room =
    delete-ways (λ (o : Outcome Encoder). delete_sent E i room ≡ o → managed (output_bytes o.output) ≡ wrote_delete o.output) E
    (λ a z e. managed-none) i room
    (λ x there still fits e. managed-back _ (said-fine E (at-encoder.delete i room) F _ (ap (λ (o : Outcome Encoder). o.output) e)))
    refl

-- ---- a block: nothing
block-happened : (E : Encoder) (turn : Bool) (stream part room : ℕ) (l : FieldListRead) (o : Outcome Encoder)
    → [] ≡ sent_happened (pick turn (read_list_call stream part room l) (at-encoder.unread out_of_turn)) o
unfolding sent_happened
block-happened E true stream part room (lists.FieldListRead.list fs) o = refl
block-happened E true stream part room (lists.FieldListRead.refused why) o = refl
block-happened E false stream part room l o = refl

-- ---- an acknowledgement
pick-none : (b : Bool) → ◌≡◌ {A = List Happened} (pick b [] []) []
pick-none true = refl
pick-none false = refl

acknowledge-happened : (E : Encoder) (s : List ℕ) (r : Result) (q : Read InstructionPlace)
    → r.answer ≡ (encoder_call E (on_read encoder_unread q acknowledged_call)).answer
    → pick (eqb r.answer.number 0) (on_read (λ why. []) q (λ p taken. done_by (instruction_of s p))) []
    ≡ sent_happened (on_read encoder_unread q acknowledged_call) (encoder_call E (on_read encoder_unread q acknowledged_call))
unfolding sent_happened encoder_call
acknowledge-happened E s r (Ok (Insert i name value, taken)) e = rw e refl
acknowledge-happened E s r (Ok (Delete i first last, taken)) e = rw e refl
acknowledge-happened E s r (Ok (Acknowledge i, taken)) e = ap (λ (a : Answer). pick (eqb a.number 0) (freed i.value ∷ []) []) e
acknowledge-happened E s r (Err why) e = pick-none (eqb r.answer.number 0)

-- ---- every call
pub call-happened : (E : Encoder) → FormsEncoder E → (c : EncoderCall) (r : Result) → LiftedEncoder E c r
    → happened_there c r ≡ sent_happened (encoder_call_of E c) (encoder_call E (encoder_call_of E c))
unfolding happened_there encoder_call_of sent_happened
call-happened E F (calls.EncoderCall.insert name value out) r L =
    ap (λ (a : Answer). pick (eqb a.number 0) (inserted a.second (literal name) value ∷ []) []) L.answer
call-happened E F (calls.EncoderCall.delete index out) r L =
    let c = at-encoder.delete index (length out) in
    ap managed (done-bytes E (encoder_call E c) out r L.answer L.output (encoder_refused E c) (deleted-told E index (length out)))
    ∙ delete-happened E F index (length out)
call-happened E F (calls.EncoderCall.block stream part s out) r L =
    block-happened E (part_turn E.written stream (part_of part)) stream part (length out) (read_field_list s) _
call-happened E F (calls.EncoderCall.acknowledge s) r L = acknowledge-happened E s r (read_for_encoder s) L.answer
