-- A block is answered 11 exactly where its part is not in turn. By the tests in their order: nothing after the first gives 11.
use mathlib.Core.Path.{◌≡◌, refl, sym, ap, ◌∙◌, subst}
use mathlib.Core.Logic.{◌↔◌}
use Prim.Native.Nat.{ℕ}
use native.Mathlib.Omega.{arith}
use mathlib.Core.Bool.{Bool, true, false}
use mathlib.Core.Option.{Option, none, some}
use mathlib.Core.List.{List}
use lib.ListN.{length}
use lib.Dec.{T, ltb, leb}
use Rattle.memory.specs.Choice.{pick}
use Rattle.memory.specs.Bytes.{Small}
use Rattle.memory.proofs.Order.{not-both, need-both, need-true}
use Rattle.integers.specs.Answers.{Answer, among, out_of_turn}
use Rattle.fields.specs.Form.{list_form}
use Rattle.blocks.specs.Representation.{Representation}
use Rattle.blocks.specs.Reading.{BlockRead, read_block}
use Rattle.blocks.specs.Reading as blocks
use Rattle.blocks.specs.Meaning.{BlockMeaning, list, block_meaning}
use Rattle.blocks.specs.Meaning as meaning
use Rattle.blocks.proofs.Told.{block_refusals, BlockTold, block-told}
use Rattle.model.specs.Parts.{Part, part_of, in_turn, streams}
use Rattle.model.specs.Outcome.{Outcome, refuse}
use Rattle.model.specs.Decoder.{Decoder, lookup, give_fields, decode_part, decode_block}
use Rattle.model.specs.DecoderCalls.{decoder_call}
use Rattle.model.specs.DecoderCalls as at-decoder
use Rattle.model_laws.proofs.Marks.{and_both}
use Rattle.parts.specs.Turn.{part_turn}
use Rattle.link.specs.Calls.{decoder_result}
use Rattle.link.specs.Calls as calls
use Rattle.link.proofs.Lifted.{StandsDecoder, read_block_call, decoder_call_of}
use Rattle.link.proofs.DecoderLifting.{lift-decoder}

module _ (D : Decoder) (s room : ℕ) (rs : List Representation) where
  abbrev Not11 : Outcome Decoder → Type 0
  Not11 o = o.answer.number ≡ 11 → ⊥

  give-other : (p : Part) (m : BlockMeaning) → Not11 (give_fields D s p room m)
  unfolding give_fields
  give-other p (meaning.BlockMeaning.waits i) = λ z. omega (arith, z)
  give-other p (list fs) =
      need-both Not11 (leb (length (list_form fs)) room) _ _ (λ t z. omega (arith, z)) (λ t z. omega (arith, z))

  turned-other : (o : Option Part) → part_turn D.finished s o ≡ true → Not11 (decode_part D s o rs room)
  unfolding decode_part part_turn
  turned-other none e = absurd (not-both false e refl)
  turned-other (some p) e =
      let h = and_both (ltb s streams) (in_turn D.finished s p) e in
      subst Not11 (sym (need-true (ltb s streams) (refuse D out_of_turn) _ h.0 ∙ need-true (in_turn D.finished s p) (refuse D out_of_turn) _ h.1))
      (give-other p (block_meaning (lookup D) rs))

call-turn : (D : Decoder) (s part room : ℕ) (turn : Bool) → part_turn D.finished s (part_of part) ≡ turn → (q : BlockRead) → BlockTold q
    → ((decoder_call D (pick turn (read_block_call s part room q) (at-decoder.unread out_of_turn))).answer.number ≡ 11) ↔ (turn ≡ false)
unfolding decoder_call decode_block
call-turn D s part room true e (blocks.BlockRead.block rs) t =
    (λ z. absurd (turned-other D s room rs (part_of part) e z), λ z. absurd (not-both true refl z))
call-turn D s part room true e (blocks.BlockRead.refused why) t =
    (λ z. absurd (subst T (ap (among block_refusals) z) t), λ z. absurd (not-both true refl z))
call-turn D s part room false e q t = (λ z. refl, λ z. refl)

pub block-turn : (m : List ℕ) (D : Decoder) → StandsDecoder m D → (stream part : ℕ) (b out : List ℕ) → Small b → Small out
    → ((decoder_result m (calls.DecoderCall.block stream part b out)).answer.number ≡ 11) ↔ (part_turn D.finished stream (part_of part) ≡ false)
unfolding decoder_call_of
block-turn m D h stream part b out small lent =
    let n = ap (λ (a : Answer). a.number) (lift-decoder m D h (calls.DecoderCall.block stream part b out) (small, lent)).answer in
    let g = call-turn D stream part (length out) (part_turn D.finished stream (part_of part)) refl (read_block b) (block-told b) in
    (λ z. g.0 (sym n ∙ z), λ z. n ∙ g.1 z)
