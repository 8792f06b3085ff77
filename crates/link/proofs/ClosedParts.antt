-- The parts that are closed by the encoder's calls and answers are those of the table, and a block is answered 11 exactly where its part is not in turn
-- by them. By the ways of each call, then over the calls, as at the decoder.
use mathlib.Core.Path.{◌≡◌, refl, sym, ap, subst, ◌∙◌}
use mathlib.Core.Logic.{◌↔◌, ⊎_elim}
use Prim.Native.Nat.{ℕ, ◌≤◌}
use native.Mathlib.Omega.{arith}
use mathlib.Core.Bool.{Bool, true, false}
use mathlib.Core.Option.{Option, none, some}
use mathlib.Core.List.{List, [], ◌∷◌, map}
use lib.ListN.{length}
use lib.Dec.{ltb, leb, eqb}
use borrow.Author.Tests.{ne_eqb}
use Rattle.memory.specs.Choice.{pick}
use Rattle.memory.specs.Bytes.{Small}
use Rattle.memory.proofs.Order.{pick-false, not-both, need-both, need-true}
use Rattle.integers.specs.Answers.{Answer, out_of_turn, on_read, Read, number_of}
use Rattle.fields.specs.Form.{Field}
use Rattle.fields.specs.Reading.{FieldListRead, read_field_list}
use Rattle.fields.specs.Reading as lists
use Rattle.fields.proofs.Walk.{list-number}
use Rattle.instructions.specs.Reading.{read_for_encoder}
use Rattle.instructions.specs.declared.read.InstructionPlace.TheVariants.{Insert, Delete, Acknowledge}
use Rattle.blocks.specs.Representation.{Representation, block_wire}
use Rattle.model.specs.Parts.{Part, part_of, Marks, in_turn, streams}
use Rattle.model.specs.Outcome.{Outcome, refuse}
use Rattle.model.specs.Encoder.{Encoder, choose, write_part, encode_part, encode_block}
use Rattle.model.specs.EncoderCalls.{encoder_call, after_encoder}
use Rattle.model.specs.EncoderCalls as at-encoder
use Rattle.model_laws.proofs.EncoderWays as ways
use Rattle.model_laws.proofs.Marks.{and_both}
use Rattle.parts.specs.Turn.{part_turn}
use Rattle.reply.specs.Result.{Result}
use Rattle.link.specs.Calls.{EncoderCall, encoder_result, AllEncoderBytes, encoder_after}
use Rattle.link.specs.Calls as calls
use Rattle.link.specs.Histories.{finishes, closed_by, closed_after, TurnBy}
use Rattle.link.proofs.Lifted.{StandsEncoder, read_list_call, acknowledged_call, encoder_call_of, encoder_unread}
use Rattle.link.proofs.EncoderLifting.{lift-encoder}
use Rattle.link.proofs.Runs.{encoder_calls_of, after-encoder}
use Rattle.std.specs.Prelude.{Ok, Err}
use Rattle.instructions.specs.declared.read.InstructionPlace.{InstructionPlace}
use Rattle.integers.specs.declared.answer.Refusal.{Refusal}

-- a list is refused with 13 or 16, neither with 0 nor with 11
refused-high : (s : List ℕ) (why : Refusal) → read_field_list s ≡ lists.FieldListRead.refused why → 13 ≤ number_of why
refused-high s why e = ⊎_elim (λ d. omega (arith, d)) (λ d. omega (arith, d)) (list-number s (length s) 0 [] why e)

-- ---- what one call closes
module _ (E : Encoder) where
  abbrev Kept : Outcome Encoder → Type 0
  Kept o = E.written ≡ o.state.written

  insert-keeps : (name value : List ℕ) (room : ℕ) → Kept (encoder_call E (at-encoder.insert name value room))
  unfolding encoder_call
  insert-keeps name value room = ways.insert-ways Kept E (λ a z. refl) name value room (λ i q n v low fits. refl)

  delete-keeps : (i room : ℕ) → Kept (encoder_call E (at-encoder.delete i room))
  unfolding encoder_call
  delete-keeps i room = ways.delete-ways Kept E (λ a z. refl) i room (λ e there still fits. refl)

  acknowledge-keeps : (q : Read InstructionPlace) → Kept (encoder_call E (on_read encoder_unread q acknowledged_call))
  unfolding encoder_call
  acknowledge-keeps (Ok (Insert i name value, taken)) = refl
  acknowledge-keeps (Ok (Delete i first last, taken)) = refl
  acknowledge-keeps (Ok (Acknowledge i, taken)) = ways.acknowledged-ways Kept E (λ a z. refl) i.value taken (λ e there gone. refl)
  acknowledge-keeps (Err why) = refl

  -- an answer that closes where it is 0
  abbrev Closes : Marks → Outcome Encoder → Type 0
  Closes g o = pick (eqb o.answer.number 0) g E.written ≡ o.state.written

  block-closes : (stream part room : ℕ) (s : List ℕ) (turn : Bool) (q : FieldListRead) → read_field_list s ≡ q
      → Closes (finishes (part_of part) stream E.written) (encoder_call E (pick turn (read_list_call stream part room q) (at-encoder.unread out_of_turn)))
  unfolding encoder_call finishes
  block-closes stream part room s true (lists.FieldListRead.list fs) e =
      ways.block-ways (Closes (finishes (part_of part) stream E.written)) E (λ a z. pick-false (eqb a.number 0) _ _ z) stream part fs room
      (λ p rs chosen known low turn short fits. ap (λ (o : Option Part). finishes o stream E.written) known)
  block-closes stream part room s true (lists.FieldListRead.refused why) e =
      pick-false (eqb (number_of why) 0) _ _ (ne_eqb (number_of why) 0 (λ z. omega (arith, z, refused-high s why e)))
  block-closes stream part room s false q e = refl

closed-call : (E : Encoder) (c : EncoderCall) (r : Result) → r.answer ≡ (encoder_call E (encoder_call_of E c)).answer
    → closed_by E.written c r ≡ (encoder_call E (encoder_call_of E c)).state.written
unfolding closed_by encoder_call_of
closed-call E (calls.EncoderCall.insert name value out) r e = insert-keeps E name value (length out)
closed-call E (calls.EncoderCall.delete index out) r e = delete-keeps E index (length out)
closed-call E (calls.EncoderCall.block stream part s out) r e =
    ap (λ (a : Answer). pick (eqb a.number 0) (finishes (part_of part) stream E.written) E.written) e
    ∙ block-closes E stream part (length out) s (part_turn E.written stream (part_of part)) (read_field_list s) refl
closed-call E (calls.EncoderCall.acknowledge s) r e = acknowledge-keeps E (read_for_encoder s)

-- ---- what lists of calls close
closed_after_lem : (m : List ℕ) (E : Encoder) → StandsEncoder m E → (cs : List EncoderCall) → AllEncoderBytes cs
    → closed_after E.written m cs ≡ (after_encoder E (encoder_calls_of E cs)).written
unfolding closed_after after_encoder encoder_calls_of
closed_after_lem m E S [] b = refl
closed_after_lem m E S (c ∷ cs) b =
    let L = lift-encoder m E S c b.0 in
    ap (λ (f : Marks). closed_after f (encoder_result m c).memory cs) (closed-call E c (encoder_result m c) L.answer)
    ∙ closed_after_lem (encoder_result m c).memory (encoder_call E (encoder_call_of E c)).state L.stands cs b.1

-- ---- 11: nothing after the first tests gives it
module _ (E : Encoder) (stream room : ℕ) where
  abbrev Not11 : Outcome Encoder → Type 0
  Not11 o = o.answer.number ≡ 11 → ⊥

  write-other : (p : Part) (rs : List Representation) → Not11 (write_part E stream p rs room)
  unfolding write_part
  write-other p rs =
      need-both Not11 (leb (length (block_wire rs)) 16384) _ _ (λ t z. omega (arith, z))
      (λ t. need-both Not11 (leb (length (block_wire rs)) room) _ _ (λ t z. omega (arith, z)) (λ t z. omega (arith, z)))

  turned-other : (o : Option Part) (fs : List Field) → part_turn E.written stream o ≡ true → Not11 (encode_part E stream o fs room)
  unfolding encode_part part_turn
  turned-other none fs e = absurd (not-both false e refl)
  turned-other (some p) fs e =
      let h = and_both (ltb stream streams) (in_turn E.written stream p) e in
      subst Not11 (sym (need-true (ltb stream streams) (refuse E out_of_turn) _ h.0
      ∙ need-true (in_turn E.written stream p) (refuse E out_of_turn) _ h.1))
      (write-other p (map (choose E.entries) fs))

  call-turn : (part : ℕ) (s : List ℕ) (turn : Bool) → part_turn E.written stream (part_of part) ≡ turn → (q : FieldListRead) → read_field_list s ≡ q
      → ((encoder_call E (pick turn (read_list_call stream part room q) (at-encoder.unread out_of_turn))).answer.number ≡ 11) ↔ (turn ≡ false)
  unfolding encoder_call encode_block
  call-turn part s true e (lists.FieldListRead.list fs) d =
      (λ z. absurd (turned-other (part_of part) fs e z), λ z. absurd (not-both true refl z))
  call-turn part s true e (lists.FieldListRead.refused why) d = (λ z. absurd (omega (arith, z, refused-high s why d)), λ z. absurd (not-both true refl z))
  call-turn part s false e q d = (λ z. refl, λ z. refl)

block-turn : (m : List ℕ) (E : Encoder) → StandsEncoder m E → (stream part : ℕ) (s out : List ℕ) → Small s → Small out
    → ((encoder_result m (calls.EncoderCall.block stream part s out)).answer.number ≡ 11) ↔ (part_turn E.written stream (part_of part) ≡ false)
unfolding encoder_call_of
block-turn m E S stream part s out small lent =
    let n = ap (λ (a : Answer). a.number) (lift-encoder m E S (calls.EncoderCall.block stream part s out) (small, lent)).answer in
    let g = call-turn E stream (length out) part s (part_turn E.written stream (part_of part)) refl (read_field_list s) refl in
    (λ z. g.0 (sym n ∙ z), λ z. n ∙ g.1 z)

-- ---- after calls
pub turn-after : (m : List ℕ) (E : Encoder) → StandsEncoder m E → (cs : List EncoderCall) → AllEncoderBytes cs → TurnBy E.written m cs
turn-after m E S cs b stream part s out small lent =
    subst (λ (f : Marks). ((encoder_result (encoder_after m cs) (calls.EncoderCall.block stream part s out)).answer.number ≡ 11)
    ↔ (part_turn f stream (part_of part) ≡ false)) (sym (closed_after_lem m E S cs b))
    (block-turn (encoder_after m cs) (after_encoder E (encoder_calls_of E cs)) (after-encoder m E S cs b) stream part s out small lent)
