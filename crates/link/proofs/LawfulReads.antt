-- A read answered "done" did what its slots allow: an insert found its index empty, a delete found its entry held and not under deletion.
-- By the ways of the model's call.
use mathlib.Core.Path.{◌≡◌, sym, ap, ◌∙◌}
use Prim.Native.Nat.{ℕ}
use mathlib.Core.Option.{Option}
use mathlib.Core.List.{List, []}
use borrow.Author.Tests.{eqb-false}
use Rattle.memory.specs.Bytes.{Small}
use Rattle.integers.specs.Answers.{Answer, on_read, Read}
use Rattle.instructions.specs.Instruction.{Instruction, insert, delete, acknowledge}
use Rattle.instructions.specs.Reading.{read_for_decoder, instruction_of}
use Rattle.model.specs.Outcome.{Outcome}
use Rattle.model.specs.Decoder.{Decoder, Held, slot_in, delete_of}
use Rattle.model.specs.DecoderCalls.{decoder_call}
use Rattle.model.specs.DecoderCalls as at-decoder
use Rattle.model.specs.Happened.{done_by, is_held}
use Rattle.model_laws.proofs.DecoderWays as ways
use Rattle.model_laws.proofs.DecoderHistory.{contents_of}
use Rattle.link.specs.Calls.{decoder_result}
use Rattle.link.specs.Calls as calls
use Rattle.link.specs.Happened.{managed}
use Rattle.link.specs.Histories.{Lawful}
use Rattle.link.proofs.Lifted.{StandsDecoder, decoder_call_of, decoder_unread}
use Rattle.link.proofs.DecoderLifting.{lift-decoder}
use Rattle.std.specs.Prelude.{Ok, Err}
use Rattle.instructions.specs.declared.read.InstructionPlace.{InstructionPlace}

module _ (D : Decoder) where
  abbrev Allowed : Instruction → Outcome Decoder → Type 0
  Allowed i o = o.answer.number ≡ 0 → Lawful (λ k. is_held (contents_of D k)) (delete_of D) (done_by i)

  lawful-call : (i : Instruction) (taken : ℕ) → Allowed i (decoder_call D (at-decoder.read i taken))
  unfolding decoder_call is_held slot_in
  lawful-call (insert i name value) taken =
      ways.insert-ways (Allowed (insert i name value)) D (λ a z e. absurd (eqb-false a.number 0 z e)) i name value taken
      (λ xs e n f z. (ap (λ (o : Option Held). is_held (slot_in o)) n, tt))
  lawful-call (delete i first last) taken =
      ways.delete-ways (Allowed (delete i first last)) D (λ a z e. absurd (eqb-false a.number 0 z e)) i first last taken
      (λ h e f z. (ap (λ (o : Option Held). is_held (slot_in o)) e, f, tt))
  lawful-call (acknowledge i) taken =
      ways.acknowledge-ways (Allowed (acknowledge i)) D (λ a z e. absurd (eqb-false a.number 0 z e)) i taken

pub lawful-read : (m : List ℕ) (D : Decoder) → StandsDecoder m D → (s : List ℕ) → Small s
    → (decoder_result m (calls.DecoderCall.read s)).answer.number ≡ 0 → Lawful (λ k. is_held (contents_of D k)) (delete_of D) (managed s)
unfolding decoder_call_of
lawful-read m D h s small z =
    go (read_for_decoder s) (sym (ap (λ (a : Answer). a.number) (lift-decoder m D h (calls.DecoderCall.read s) small).answer) ∙ z)
  where
    go : (q : Read InstructionPlace)
        → (decoder_call D (on_read decoder_unread q (λ p taken. at-decoder.read (instruction_of s p) taken))).answer.number ≡ 0
        → Lawful (λ k. is_held (contents_of D k)) (delete_of D) (on_read (λ why. []) q (λ p taken. done_by (instruction_of s p)))
    go (Ok (p, taken)) e = lawful-call D (instruction_of s p) taken e
    go (Err why) e = tt
