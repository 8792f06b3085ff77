-- Which blocks of bytes could still be accepted: those that the model could still accept, by the model's calls.
-- And the block with a held entry's index alone, where a part is unfinished: its bytes read back, and they are accepted as in the model.
use mathlib.Core.Path.{◌≡◌, sym, ap, ◌∙◌}
use Prim.Native.Nat.{ℕ, ◌≤◌, ◌<◌}
use native.Mathlib.Omega.{arith}
use mathlib.Core.Bool.{Bool, true, false, ◌&&◌}
use mathlib.Core.List.{List, [], ◌∷◌, append-nil}
use lib.ListN.{length, replicate, length-replicate}
use borrow.Author.Tests.{lt-ltb}
use Rattle.memory.specs.Choice.{pick}
use Rattle.memory.specs.Bytes.{Small}
use Rattle.memory.proofs.Order.{pick_true}
use Rattle.integers.specs.Answers.{Answer, out_of_turn}
use Rattle.integers.specs.Integer.{int_wire}
use Rattle.integers.proofs.Lengths.{int-length, int-bytes-small}
use Rattle.statics.specs.Table.{Entry}
use Rattle.fields.specs.Form.{Field, list_form}
use Rattle.instructions.specs.Instruction.{FineIndex}
use Rattle.blocks.specs.Representation.{Representation, indexed, AllFine, representation_wire, block_wire}
use Rattle.blocks.specs.Reading.{BlockRead, block, read_block}
use Rattle.blocks.specs.Meaning.{Slot, holds, list, block_meaning, field_meaning, on_slot, after_field}
use Rattle.blocks.proofs.Back.{block_back}
use Rattle.blocks.proofs.Whole.{block-fine}
use Rattle.model.specs.Parts.{Part, part_number, part_of, Marks, block_marks, in_turn, streams}
use Rattle.model.specs.Outcome.{fields, Outcome, finish}
use Rattle.model.specs.Decoder.{Decoder, lookup, with_finished}
use Rattle.model.specs.DecoderCalls.{decoder_call, after_decoder}
use Rattle.model.specs.DecoderCalls as at-decoder
use Rattle.model_laws.specs.Ready as model
use Rattle.model_laws.proofs.Marks.{part-back, open_turn}
use Rattle.model_laws.proofs.CouldStill.{takes}
use Rattle.parts.specs.Turn.{part_turn}
use Rattle.reply.specs.Result.{Result, stepped}
use Rattle.link.specs.Calls.{DecoderCall, decoder_result, decoder_after}
use Rattle.link.specs.Calls as calls
use Rattle.link.specs.Claims.{CouldStill}
use Rattle.link.proofs.Lifted.{StandsDecoder, read_block_call, decoder_call_of}
use Rattle.link.proofs.DecoderLifting.{same-decoder}
use Rattle.link.proofs.Runs.{decoder_calls_of, fine-decoders, after-decoder}

-- a call's answer is the model's, whatever output is lent
answer-decoder : (m : List ℕ) (D : Decoder) → StandsDecoder m D → (c : DecoderCall) → (decoder_result m c).answer ≡ (decoder_call D (decoder_call_of D c)).answer
unfolding stepped
answer-decoder m D h c =
    ap (λ (r : Result). r.answer) (same-decoder m h.small h.forms c)
    ∙ ap (λ (E : Decoder). (decoder_call E (decoder_call_of E c)).answer) h.state

-- ---- from bytes to the model

-- a block in bytes that is done was in turn, so it was read
block-done : (D : Decoder) (s : ℕ) (p : Part) (b : List ℕ) (rs : List Representation) (out : List ℕ) → read_block b ≡ block rs
    → (decoder_call D (decoder_call_of D (calls.DecoderCall.block s (part_number p) b out))).answer.number ≡ 0
    → (decoder_call D (at-decoder.block s (part_number p) rs (length out))).answer.number ≡ 0
unfolding decoder_call_of decoder_call
block-done D s p b rs out read = go (part_turn D.finished s (part_of (part_number p)))
  where
    go : (turn : Bool) → (decoder_call D (pick turn (read_block_call s (part_number p) (length out) (read_block b)) (at-decoder.unread out_of_turn))).answer.number ≡ 0
        → (decoder_call D (at-decoder.block s (part_number p) rs (length out))).answer.number ≡ 0
    go true e = sym (ap (λ (r : BlockRead). (decoder_call D (read_block_call s (part_number p) (length out) r)).answer.number) read) ∙ e
    go false e = absurd (omega (arith, e))

pub still-model : (m : List ℕ) (D : Decoder) → StandsDecoder m D → (s : ℕ) (p : Part) (b : List ℕ) (rs : List Representation) → read_block b ≡ block rs
    → CouldStill m s p b → model.AbstractCouldStill D s p rs
still-model m D h s p b rs read c =
    let E = after_decoder D (decoder_calls_of D c.first) in
    let call = calls.DecoderCall.block s (part_number p) b c.output in
    record {
      says = block-fine b rs read;
      first = decoder_calls_of D c.first;
      calls = fine-decoders D c.first;
      room = length c.output;
      accepted = block-done E s p b rs c.output read
          (sym (ap (λ (a : Answer). a.number) (answer-decoder (decoder_after m c.first) E (after-decoder m D h c.first c.bytes) call)) ∙ c.accepted);
    }

-- ---- from the model to bytes

-- a block in turn, whose indexes are all held, written in bytes, and with room for its fields
abbrev call_of : ℕ → Part → List Representation → List Field → DecoderCall
call_of s p rs fs = calls.DecoderCall.block s (part_number p) (block_wire rs) (replicate (length (list_form fs)) 0)

in-turn : (marks : Marks) (s : ℕ) (p : Part) → s < streams → in_turn marks s p ≡ true → part_turn marks s (part_of (part_number p)) ≡ true
unfolding part_turn
in-turn marks s p low turn = ap (part_turn marks s) (part-back p) ∙ ap (λ (t : Bool). t && in_turn marks s p) (lt-ltb s streams low) ∙ turn

block-takes : (D : Decoder) (s : ℕ) (p : Part) (rs : List Representation) (fs : List Field) → AllFine rs → length (block_wire rs) ≤ 16384
    → s < streams → in_turn D.finished s p ≡ true → block_meaning (lookup D) rs ≡ list fs
    → decoder_call D (decoder_call_of D (call_of s p rs fs)) ≡ finish (with_finished D (block_marks p s D.finished)) (length (list_form fs)) 0 (fields fs)
unfolding decoder_call_of
block-takes D s p rs fs fine short low turn means =
    let n = length (list_form fs) in
    ap (decoder_call D)
    (pick_true (part_turn D.finished s (part_of (part_number p))) _ (at-decoder.unread out_of_turn) (in-turn D.finished s p low turn)
    ∙ ap (read_block_call s (part_number p) (length (replicate n 0))) (block_back rs fine short)
    ∙ ap (at-decoder.block s (part_number p) rs) (length-replicate n 0))
    ∙ takes D s p rs fs low turn means

-- the block that has one index alone
one-means : (look_up : ℕ → Slot) (i : ℕ) (e : Entry) → look_up i ≡ holds e
    → block_meaning look_up (indexed i ∷ []) ≡ list (record { flag = 0; name = e.name; value = e.value } ∷ [])
unfolding block_meaning field_meaning
one-means look_up i e h =
    ap (λ (s : Slot). after_field (on_slot i s (λ x. record { flag = 0; name = x.name; value = x.value })) (list [])) h

one-wire : (i : ℕ) → block_wire (indexed i ∷ []) ≡ int_wire 7 128 i
unfolding block_wire representation_wire
one-wire i = append-nil (int_wire 7 128 i)

pub one-small : (i : ℕ) → FineIndex i → Small (block_wire (indexed i ∷ []))
one-small i f = rw (one-wire i) (int-bytes-small 7 128 i (omega arith) f.1)

one-short : (i : ℕ) → length (block_wire (indexed i ∷ [])) ≤ 16384
one-short i = rw (one-wire i) (omega (arith, int-length 7 128 i))

one-fine : (i : ℕ) → FineIndex i → AllFine (indexed i ∷ [])
one-fine i f = let low = f.0 in ((omega arith, f.1), tt)

pub one-read : (i : ℕ) → FineIndex i → read_block (block_wire (indexed i ∷ [])) ≡ block (indexed i ∷ [])
one-read i f = block_back (indexed i ∷ []) (one-fine i f) (one-short i)

one-takes : (m : List ℕ) (D : Decoder) → StandsDecoder m D → (i : ℕ) → FineIndex i → (e : Entry) → lookup D i ≡ holds e
    → (s : ℕ) (p : Part) → s < streams → in_turn D.finished s p ≡ true → CouldStill m s p (block_wire (indexed i ∷ []))
unfolding decoder_after
one-takes m D h i f e held s p low turn =
    let fs : List Field = record { flag = 0; name = e.name; value = e.value } ∷ [] in
    record {
      first = [];
      bytes = tt;
      output = replicate (length (list_form fs)) 0;
      accepted = ap (λ (a : Answer). a.number) (answer-decoder m D h (call_of s p (indexed i ∷ []) fs))
          ∙ ap (λ (o : Outcome Decoder). o.answer.number)
          (block-takes D s p (indexed i ∷ []) fs (one-fine i f) (one-short i) low turn (one-means (lookup D) i e held));
    }

-- an unfinished part can still take a block that refers to a held entry
pub open-takes : (m : List ℕ) (D : Decoder) → StandsDecoder m D → (i : ℕ) → FineIndex i → (e : Entry) → lookup D i ≡ holds e
    → (s : ℕ) (p : Part) → s < streams → D.finished s p ≡ false → CouldStill m s p (block_wire (indexed i ∷ []))
open-takes m D h i f e held s p low unmarked = one-takes m D h i f e held s p low (open_turn D.finished s p unmarked)
