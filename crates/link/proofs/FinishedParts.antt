-- The parts that are finished by calls and answers are those of the table, and the hold enquiry's answer is what they, and what is held and deleted, say.
-- By the ways of each call, then over the calls.
use mathlib.Core.Path.{◌≡◌, refl, ap, ◌∙◌}
use Prim.Native.Nat.{ℕ}
use mathlib.Core.Bool.{Bool, true, false}
use mathlib.Core.Option.{Option, none, some}
use mathlib.Core.List.{List, [], ◌∷◌}
use lib.ListN.{length}
use lib.Dec.{eqb, leb}
use borrow.Author.Tests.{ne_eqb}
use Rattle.memory.specs.Choice.{pick, need}
use Rattle.memory.proofs.Order.{pick-false}
use Rattle.integers.specs.Answers.{Answer, refusal, out_of_turn, not_allowed, vacant, on_read, Read, number_of}
use Rattle.integers.specs.Integer.{largest}
use Rattle.instructions.specs.Instruction.{Instruction, insert, delete, acknowledge}
use Rattle.instructions.specs.Reading.{read_for_decoder, instruction_of}
use Rattle.blocks.specs.Reading.{BlockRead, read_block}
use Rattle.blocks.specs.Reading as blocks
use Rattle.blocks.proofs.Told.{BlockTold, block-told}
use Rattle.model.specs.Table.{look}
use Rattle.model.specs.Parts.{Part, part_of, Marks, closed, Delete}
use Rattle.model.specs.Outcome.{Outcome, refuse}
use Rattle.model.specs.Decoder.{Decoder, Held, held_index, is_some, slot_in, delete_of, without, hold_of, enquire_hold}
use Rattle.model.specs.DecoderCalls.{decoder_call, after_decoder}
use Rattle.model.specs.DecoderCalls as at-decoder
use Rattle.model.specs.Happened.{is_held}
use Rattle.model_laws.proofs.DecoderWays as ways
use Rattle.model_laws.proofs.DecoderHistory.{contents_of}
use Rattle.parts.specs.Turn.{part_turn}
use Rattle.reply.specs.Result.{Result}
use Rattle.link.specs.Calls.{DecoderCall, decoder_result, AllDecoderBytes}
use Rattle.link.specs.Calls as calls
use Rattle.link.specs.Histories.{finishes, finished_by, finished_after, hold_told, hold_answer}
use Rattle.link.proofs.Lifted.{StandsDecoder, read_block_call, decoder_call_of, decoder_unread}
use Rattle.link.proofs.DecoderLifting.{lift-decoder}
use Rattle.link.proofs.Runs.{decoder_calls_of}
use Rattle.std.specs.Prelude.{Ok, Err}
use Rattle.instructions.specs.declared.read.InstructionPlace.{InstructionPlace}

-- ---- one call
module _ (D : Decoder) where
  abbrev Kept : Outcome Decoder → Type 0
  Kept o = D.finished ≡ o.state.finished

  read_keeps : (i : Instruction) (taken : ℕ) → Kept (decoder_call D (at-decoder.read i taken))
  unfolding decoder_call
  read_keeps (insert i name value) taken = ways.insert-ways Kept D (λ a z. refl) i name value taken (λ xs e n f. refl)
  read_keeps (delete i first last) taken = ways.delete-ways Kept D (λ a z. refl) i first last taken (λ h e f. refl)
  read_keeps (acknowledge i) taken = ways.acknowledge-ways Kept D (λ a z. refl) i taken

  reads-keep : (s : List ℕ) (q : Read InstructionPlace) → Kept (decoder_call D (on_read decoder_unread q (λ p taken. at-decoder.read (instruction_of s p) taken)))
  unfolding decoder_call
  reads-keep s (Ok (p, taken)) = read_keeps (instruction_of s p) taken
  reads-keep s (Err why) = refl

  -- an answer that finishes where it is 0
  abbrev Finishes : Marks → Outcome Decoder → Type 0
  Finishes g o = pick (eqb o.answer.number 0) g D.finished ≡ o.state.finished

  block-finishes : (s part : ℕ) (room : ℕ) (turn : Bool) (q : BlockRead) → BlockTold q
      → Finishes (finishes (part_of part) s D.finished) (decoder_call D (pick turn (read_block_call s part room q) (at-decoder.unread out_of_turn)))
  unfolding decoder_call finishes
  block-finishes s part room true (blocks.BlockRead.block rs) t =
      ways.block-ways (Finishes (finishes (part_of part) s D.finished)) D (λ a z. pick-false (eqb a.number 0) _ _ z) s part rs room
      (λ p fs e low turn m fits. ap (λ (o : Option Part). finishes o s D.finished) e)
  block-finishes s part room true (blocks.BlockRead.refused why) t =
      pick-false (eqb (number_of why) 0) _ _ (ne_eqb (number_of why) 0 (λ z. rw z at t))
  block-finishes s part room false q t = refl

  close-finishes : (k : _) (s : ℕ) → Finishes (closed k s D.finished) (decoder_call D (at-decoder.close k s))
  unfolding decoder_call
  close-finishes k s = ways.close-ways (Finishes (closed k s D.finished)) D (λ a z. pick-false (eqb a.number 0) _ _ z) k s (λ low. refl)

  collect-keeps : (room : ℕ) → Kept (decoder_call D (at-decoder.collect room))
  unfolding decoder_call without
  collect-keeps room = ways.collect-ways Kept D (λ a z. refl) room (λ e. refl) (λ h e f. refl)

  hold-keeps : (i : ℕ) → Kept (decoder_call D (at-decoder.hold i))
  unfolding decoder_call
  hold-keeps i = ways.hold-ways Kept D (λ a z. refl) i (λ d e. refl)

pub finished-call : (D : Decoder) (c : DecoderCall) (r : Result) → r.answer ≡ (decoder_call D (decoder_call_of D c)).answer
    → finished_by D.finished c r ≡ (decoder_call D (decoder_call_of D c)).state.finished
unfolding finished_by decoder_call_of
finished-call D (calls.DecoderCall.read s) r e = reads-keep D s (read_for_decoder s)
finished-call D (calls.DecoderCall.block stream part s out) r e =
    ap (λ (a : Answer). pick (eqb a.number 0) (finishes (part_of part) stream D.finished) D.finished) e
    ∙ block-finishes D stream part (length out) (part_turn D.finished stream (part_of part)) (read_block s) (block-told s)
finished-call D (calls.DecoderCall.close k stream) r e =
    ap (λ (a : Answer). pick (eqb a.number 0) (closed k stream D.finished) D.finished) e ∙ close-finishes D k stream
finished-call D (calls.DecoderCall.collect out) r e = collect-keeps D (length out)
finished-call D (calls.DecoderCall.hold index) r e = hold-keeps D index

-- ---- lists of calls
pub finished-after : (m : List ℕ) (D : Decoder) → StandsDecoder m D → (cs : List DecoderCall) → AllDecoderBytes cs
    → finished_after D.finished m cs ≡ (after_decoder D (decoder_calls_of D cs)).finished
unfolding finished_after after_decoder decoder_calls_of
finished-after m D h [] b = refl
finished-after m D h (c ∷ cs) b =
    let L = lift-decoder m D h c b.0 in
    ap (λ (f : Marks). finished_after f (decoder_result m c).memory cs) (finished-call D c (decoder_result m c) L.answer)
    ∙ finished-after (decoder_result m c).memory (decoder_call D (decoder_call_of D c)).state L.stands cs b.1

-- ---- the enquiry's answer
need-answer : (b : Bool) (x y : Outcome Decoder) → (need b x y).answer ≡ need b x.answer y.answer
need-answer true x y = refl
need-answer false x y = refl

held-some : (o : Option Held) → is_some o ≡ is_held (slot_in o)
unfolding is_held slot_in
held-some none = refl
held-some (some h) = refl

told-answer : (D : Decoder) (o : Option Delete) → (hold_of D o).answer ≡ hold_told o D.finished
unfolding hold_of
told-answer D none = refl
told-answer D (some d) = refl

pub hold-answer : (D : Decoder) (i : ℕ) → (decoder_call D (at-decoder.hold i)).answer ≡ hold_answer (is_held (contents_of D i)) (delete_of D i) D.finished i
unfolding decoder_call enquire_hold
hold-answer D i =
    let x : Answer = refusal not_allowed in
    need-answer (leb 62 i) (refuse D not_allowed) _
    ∙ ap (need (leb 62 i) x) (need-answer (leb i largest) (refuse D not_allowed) _
    ∙ ap (need (leb i largest) x) (need-answer (is_some (look held_index i D.entries)) (refuse D vacant) _
    ∙ ap (need (is_some (look held_index i D.entries)) (refusal vacant)) (told-answer D (delete_of D i))
    ∙ ap (λ (b : Bool). need b (refusal vacant) (hold_told (delete_of D i) D.finished)) (held-some (look held_index i D.entries))))
