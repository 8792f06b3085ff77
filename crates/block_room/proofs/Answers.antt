-- The ways of the encoder's block call on memory that forms a state, by its answer: each way has the facts that its tests tell.
use mathlib.Core.Path.{◌≡◌, refl, ap, ap₂, ◌∙◌}
use Prim.Native.Nat.{ℕ, ◌≤◌, ◌<◌}
use mathlib.Core.Bool.{Bool, true, false, ◌&&◌}
use mathlib.Core.Option.{Option, none, some}
use mathlib.Core.List.{List}
use lib.ListN.{length}
use lib.Dec.{ltb, leb}
use borrow.Author.Tests.{leb-true, leb-false}
use Rattle.memory.proofs.Order.{need-both, not-both}
use Rattle.integers.specs.Answers.{Answer, done, refusal, out_of_turn, no_room, too_long, number_of}
use Rattle.fields.specs.Form.{Field}
use Rattle.fields.specs.Reading.{FieldListRead, list, read_field_list}
use Rattle.fields.specs.Reading as reading
use Rattle.model.specs.Parts.{Part, part_of, in_turn, streams}
use Rattle.model.specs.Outcome.{Outcome}
use Rattle.model.specs.Encoder.{Encoder, write_part, encode_part, encode_block}
use Rattle.state.specs.EncoderState.{encoder_of, overlay_encoder}
use Rattle.state.specs.Forms.{forms_encoder}
use Rattle.parts.specs.Turn.{part_turn}
use Rattle.reply.specs.Result.{Result, refused, stepped}
use Rattle.encoder.specs.Calls.{on_list, block_call}
use Rattle.encoder_fields.proofs.Bound.{block_length}
use Rattle.link.specs.Calls.{encoder_result}
use Rattle.block_room.specs.Claim.{block_answer}
use Rattle.integers.specs.declared.answer.Refusal.{Refusal}

module _ (m : List ℕ) (forms : forms_encoder m ≡ true) (stream part : ℕ) (s out : List ℕ) (P : Answer → Type 0) where
  abbrev E : Encoder
  E = encoder_of m

  abbrev Q : Outcome Encoder → Type 0
  Q o = P o.answer

  -- out of turn; a list that is refused; a block too long; too little room; a block written
  module _ (turned : part_turn E.written stream (part_of part) ≡ false → P (refusal out_of_turn))
      (unread : (why : Refusal) → read_field_list s ≡ reading.FieldListRead.refused why → P (refusal (number_of why)))
      (long : (fs : List Field) → read_field_list s ≡ list fs → 16384 < block_length E.entries fs → P (refusal too_long))
      (lacks : (fs : List Field) → read_field_list s ≡ list fs → block_length E.entries fs ≤ 16384
      → length out < block_length E.entries fs → P (refusal no_room))
      (written : (fs : List Field) → read_field_list s ≡ list fs → block_length E.entries fs ≤ 16384
      → block_length E.entries fs ≤ length out → P (done (block_length E.entries fs) 0)) where
    encode-ways : (fs : List Field) → read_field_list s ≡ list fs → P (encode_block E stream part fs (length out)).answer
    unfolding encode_block encode_part write_part part_turn
    encode-ways fs e = go (part_of part) refl
      where
        go : (o : Option Part) → part_of part ≡ o → Q (encode_part E stream o fs (length out))
        go none q = turned (ap (part_turn E.written stream) q)
        go (some p) q =
            need-both Q (ltb stream streams) _ _
            (λ t. turned (ap (part_turn E.written stream) q ∙ ap (λ (b : Bool). b && in_turn E.written stream p) t))
            (λ t. need-both Q (in_turn E.written stream p) _ _
            (λ u. turned (ap (part_turn E.written stream) q ∙ ap₂ ◌&&◌ t u))
            (λ u. need-both Q (leb (block_length E.entries fs) 16384) _ _ (λ h. long fs e (leb-false _ _ h))
            (λ h. need-both Q (leb (block_length E.entries fs) (length out)) _ _ (λ k. lacks fs e (leb-true _ _ h) (leb-false _ _ k))
            (λ k. written fs e (leb-true _ _ h) (leb-true _ _ k)))))

    pub answer-ways : P (block_answer m stream part s out)
    unfolding encoder_result block_call stepped
    answer-ways =
        need-both (λ (r : Result). P r.answer) (forms_encoder m) _ _
        (λ z. not-both (forms_encoder m) forms z)
        (λ z. need-both (λ (r : Result). P r.answer) (part_turn E.written stream (part_of part)) _ _ turned
        (λ t. go (read_field_list s) refl))
      where
        go : (r : FieldListRead) → read_field_list s ≡ r
            → P (on_list (refused m out) r (λ fs. stepped overlay_encoder m out (encode_block E stream part fs (length out)))).answer
        go (list fs) e = encode-ways fs e
        go (reading.FieldListRead.refused why) e = unread why e
