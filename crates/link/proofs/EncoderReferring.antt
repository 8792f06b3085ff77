-- One more than the highest stream that refers to an entry since its insert, by the calls, is the horizon that the model raises.
-- By reading back the block that was written: it names the indexes that the model's block names; then along the calls.
use mathlib.Core.Path.{◌≡◌, refl, ap, ap₂, ◌∙◌}
use Prim.Native.Nat.{ℕ, suc, max}
use native.Mathlib.Nat.{max_comm}
use native.Mathlib.Omega.{arith}
use mathlib.Core.Bool.{Bool, true, false, ◌&&◌, and-false}
use mathlib.Core.List.{List, [], ◌∷◌}
use lib.ListN.{length}
use lib.Dec.{eqb}
use Rattle.memory.specs.Choice.{pick}
use Rattle.memory.specs.Bytes.{overlay}
use Rattle.integers.specs.Answers.{Answer, out_of_turn, on_read, Read, number_of}
use Rattle.fields.specs.Form.{Field, AllFine}
use Rattle.fields.specs.Reading.{FieldListRead, read_field_list}
use Rattle.fields.specs.Reading as lists
use Rattle.fields.proofs.Lists.{list-forth}
use Rattle.instructions.specs.Reading.{read_for_encoder}
use Rattle.instructions.specs.declared.read.InstructionPlace.TheVariants.{Insert, Delete, Acknowledge}
use Rattle.blocks.specs.Reading.{read_block, block_from}
use Rattle.blocks.specs.Meaning.{block_references}
use Rattle.blocks.proofs.Back.{block_back}
use Rattle.model.specs.Parts.{Part, part_of, part_number}
use Rattle.model.specs.Outcome.{Outcome, output_bytes}
use Rattle.model.specs.Encoder.{Encoder, mentions, FormsEncoder}
use Rattle.model.specs.EncoderCalls as at-encoder
use Rattle.model_laws.specs.History.{raised_by, begun_by}
use Rattle.model_laws.specs.History as model
use Rattle.model_laws.specs.Promises.{Tells}
use Rattle.model_laws.proofs.EncoderWays.{block-ways}
use Rattle.model_laws.proofs.Saying.{choices-fine}
use Rattle.model_laws.proofs.Answers.{encoder_refused, encoded-told}
use Rattle.parts.specs.Turn.{part_turn}
use Rattle.reply.specs.Result.{Result}
use Rattle.link.specs.Calls.{EncoderCall, encoder_result, EncoderBytes, AllEncoderBytes, done_bytes}
use Rattle.link.specs.Calls as calls
use Rattle.link.specs.Histories.{block_indexes, indexes_of, referring_by, referring_since, horizon_of}
use Rattle.link.proofs.Lifted.{StandsEncoder, LiftedEncoder, read_list_call, acknowledged_call, encoder_call_of, encoder_unread}
use Rattle.link.proofs.DoneBytes.{done-bytes}
use Rattle.link.proofs.EncoderLifting.{lift-encoder}
use Rattle.link.proofs.Runs.{encoder_calls_of}
use Rattle.link.proofs.EncoderTables.{stands-forms}
use Rattle.std.specs.Prelude.{Ok, Err}
use Rattle.instructions.specs.declared.read.InstructionPlace.{InstructionPlace}

-- two tests, one after the other or at once
pick-and : {X : Type 0} (a b : Bool) (x y : X) → pick (a && b) x y ≡ pick a (pick b x y) y
pick-and true b x y = refl
pick-and false b x y = refl

-- the horizon after a block that was answered so and wrote these bytes
abbrev raised_to : ℕ → Part → ℕ → ℕ → ℕ → ℕ → List ℕ → ℕ
raised_to i p h stream part number b = pick (eqb number 0 && (eqb part (part_number p) && mentions (block_indexes b) i)) (max h (suc stream)) h

module _ (i : ℕ) (p : Part) (h : ℕ) (E : Encoder) (F : FormsEncoder E) (stream part : ℕ) where
  -- of the model's outcome
  abbrev Raises : Outcome Encoder → Type 0
  Raises o = raised_to i p h stream part o.answer.number (output_bytes o.output) ≡ raised_by i p stream o.output part h

  encoded-raises : (fs : List Field) (room : ℕ) → AllFine fs → Raises (at-encoder.encoder_call E (at-encoder.block stream part fs room))
  unfolding at-encoder.encoder_call output_bytes raised_by
  encoded-raises fs room fine =
      block-ways Raises E (λ a z. rw z refl) stream part fs room
      (λ q rs chosen e low turn short fits.
      ap (λ (js : List ℕ). pick (eqb part (part_number p) && mentions js i) (max h (suc stream)) h)
      (ap indexes_of (block_back rs (rw chosen (choices-fine E.entries F.order F.entries fs fine)) short))
      ∙ pick-and (eqb part (part_number p)) (mentions (block_references rs) i) (max h (suc stream)) h)

  -- a call whose bytes the reading refused raises nothing
  unread-raises : (number : ℕ) → Raises (at-encoder.encoder_call E (at-encoder.unread number))
  unfolding at-encoder.encoder_call output_bytes raised_by read_block block_from mentions block_references
  unread-raises number =
      ap (λ (t : Bool). pick (eqb number 0 && t) (max h (suc stream)) h) (and-false (eqb part (part_number p)))
      ∙ ap (λ (t : Bool). pick t (max h (suc stream)) h) (and-false (eqb number 0))

  -- what the call on memory left, and the model's call
  module _ (r : Result) (out : List ℕ) where
    abbrev Left : at-encoder.EncoderCall → Type 0
    Left c = (r.answer ≡ (at-encoder.encoder_call E c).answer) × (r.output ≡ overlay out 0 (output_bytes (at-encoder.encoder_call E c).output))

    left-raises : (c : at-encoder.EncoderCall) → Left c → Tells (length out) (at-encoder.encoder_call E c) → Raises (at-encoder.encoder_call E c)
        → raised_to i p h stream part r.answer.number (done_bytes r) ≡ raised_by i p stream (at-encoder.encoder_call E c).output part h
    left-raises c left tells raises =
        ap₂ (raised_to i p h stream part) (ap (λ (a : Answer). a.number) left.0)
        (done-bytes E (at-encoder.encoder_call E c) out r left.0 left.1 (encoder_refused E c) tells)
        ∙ raises

    unread-left : (number : ℕ) → Left (at-encoder.unread number) → raised_to i p h stream part r.answer.number (done_bytes r) ≡ h
    unfolding at-encoder.encoder_call output_bytes raised_by
    unread-left number left =
        left-raises (at-encoder.unread number) left (record { told = λ z. refl; fits = omega arith }) (unread-raises number)

    block-left : (turn : Bool) (l : FieldListRead) → ((fs : List Field) → l ≡ lists.FieldListRead.list fs → AllFine fs)
        → Left (pick turn (read_list_call stream part (length out) l) (at-encoder.unread out_of_turn))
        → raised_to i p h stream part r.answer.number (done_bytes r)
        ≡ model.horizon_after i p h E (pick turn (read_list_call stream part (length out) l) (at-encoder.unread out_of_turn))
    unfolding model.horizon_after
    block-left true (lists.FieldListRead.list fs) fine left =
        left-raises (at-encoder.block stream part fs (length out)) left (encoded-told E stream part fs (length out))
        (encoded-raises fs (length out) (fine fs refl))
    block-left true (lists.FieldListRead.refused why) fine left = unread-left (number_of why) left
    block-left false l fine left = unread-left out_of_turn left

acknowledge-horizon : (i : ℕ) (p : Part) (h : ℕ) (E : Encoder) (r : Read InstructionPlace)
    → h ≡ model.horizon_after i p h E (on_read encoder_unread r acknowledged_call)
unfolding model.horizon_after
acknowledge-horizon i p h E (Ok (Insert j name value, taken)) = refl
acknowledge-horizon i p h E (Ok (Delete j first last, taken)) = refl
acknowledge-horizon i p h E (Ok (Acknowledge j, taken)) = refl
acknowledge-horizon i p h E (Err why) = refl

-- ---- the horizon of streams
horizon-begun : (b : Bool) (ss : List ℕ) → horizon_of (pick b [] ss) ≡ pick b 0 (horizon_of ss)
unfolding horizon_of
horizon-begun true ss = refl
horizon-begun false ss = refl

horizon-added : (b : Bool) (s : ℕ) (ss : List ℕ) → horizon_of (pick b (s ∷ ss) ss) ≡ pick b (max (horizon_of ss) (suc s)) (horizon_of ss)
unfolding horizon_of
horizon-added true s ss = max_comm (suc s) (horizon_of ss)
horizon-added false s ss = refl

-- ---- every call
call-horizon : (i : ℕ) (p : Part) (ss : List ℕ) (m : List ℕ) (E : Encoder) (c : EncoderCall) → EncoderBytes c → StandsEncoder m E
    → LiftedEncoder E c (encoder_result m c)
    → horizon_of (referring_by i p ss m c) ≡ model.horizon_after i p (horizon_of ss) E (encoder_call_of E c)
unfolding referring_by model.horizon_after begun_by encoder_call_of
call-horizon i p ss m E (calls.EncoderCall.insert name value out) b stands L =
    let h = horizon_of ss in
    let o = at-encoder.encoder_call E (at-encoder.insert name value (length out)) in
    let a = (encoder_result m (calls.EncoderCall.insert name value out)).answer in
    horizon-begun (eqb a.number 0 && eqb a.second i) ss
    ∙ ap (λ (a : Answer). pick (eqb a.number 0 && eqb a.second i) 0 h) L.answer
    ∙ pick-and (eqb o.answer.number 0) (eqb o.answer.second i) 0 h
call-horizon i p ss m E (calls.EncoderCall.delete index out) b stands L = refl
call-horizon i p ss m E (calls.EncoderCall.block stream part s out) b stands L =
    let r = encoder_result m (calls.EncoderCall.block stream part s out) in
    horizon-added (eqb r.answer.number 0 && (eqb part (part_number p) && mentions (block_indexes (done_bytes r)) i)) stream ss
    ∙ block-left i p (horizon_of ss) E (stands-forms m E stands) stream part r out (part_turn E.written stream (part_of part)) (read_field_list s)
    (λ fs e. (list-forth s b.0 fs e).1) (L.answer, L.output)
call-horizon i p ss m E (calls.EncoderCall.acknowledge s) b stands L = acknowledge-horizon i p (horizon_of ss) E (read_for_encoder s)

pub horizon-since : (i : ℕ) (p : Part) (ss : List ℕ) (m : List ℕ) (E : Encoder) → StandsEncoder m E → (cs : List EncoderCall) → AllEncoderBytes cs
    → horizon_of (referring_since i p ss m cs) ≡ model.horizon_since i p (horizon_of ss) E (encoder_calls_of E cs)
unfolding referring_since model.horizon_since encoder_calls_of
horizon-since i p ss m E S [] b = refl
horizon-since i p ss m E S (c ∷ cs) b =
    let L = lift-encoder m E S c b.0 in
    let next = (at-encoder.encoder_call E (encoder_call_of E c)).state in
    horizon-since i p (referring_by i p ss m c) (encoder_result m c).memory _ L.stands cs b.1
    ∙ ap (λ (k : ℕ). model.horizon_since i p k next (encoder_calls_of next cs))
    (call-horizon i p ss m E c b.0 S L)
