-- The bound is reached: an unknown field has 257 bytes in the list and 259 in the block, so that the call's answer is told by the room.
use mathlib.Core.Path.{◌≡◌, refl, ap, ◌∙◌}
use Prim.Native.Nat.{ℕ, ◌≤◌, ◌<◌}
use native.Mathlib.Omega.{arith}
use mathlib.Core.List.{List, [], ◌∷◌}
use lib.ListN.{length}
use Rattle.memory.specs.Bytes.{Small}
use Rattle.integers.specs.Answers.{Answer, done}
use Rattle.fields.specs.Form.{Field, field_size, list_form}
use Rattle.fields.specs.Reading.{list, read_field_list}
use Rattle.fields.proofs.Sizes.{field_form-length}
use Rattle.fields.proofs.Lists.{list_back}
use Rattle.blocks.specs.Representation.{Representation, representation_wire}
use Rattle.blocks.proofs.Writing.{block-wire-nil}
use Rattle.model.specs.Encoder.{Sent, choose}
use Rattle.state.specs.EncoderState.{encoder_of}
use Rattle.encoder.specs.Calls.{start_call}
use Rattle.encoder_fields.proofs.Fields.{length_more}
use Rattle.encoder_fields.proofs.Bound.{block_length, form-more}
use Rattle.link.specs.Calls.{EncoderCall, AllEncoderBytes, encoder_after}
use Rattle.block_room.specs.Claim.{block_answer, Unknown, Reached}
use Rattle.block_room.proofs.Answers.{answer-ways}
use Rattle.block_room.proofs.Enough.{one-reading, same-fields}
use Rattle.block_room.proofs.Unknown.{stands, chosen, literal-most}

module _ (m : List ℕ) (limit : ℕ) (small : Small m) (started : (start_call m limit).answer.number ≡ 0) (cs : List EncoderCall) (b : AllEncoderBytes cs)
    (f : Field) (u : Unknown (start_call m limit).memory cs f) where
  abbrev now : List ℕ
  now = encoder_after (start_call m limit).memory cs

  abbrev l : List Sent
  l = (encoder_of now).entries

  abbrev s : List ℕ
  s = list_form (f ∷ [])

  reads : read_field_list s ≡ list (f ∷ [])
  reads = list_back (f ∷ []) (u.fine, tt)

  list_length : length s ≡ 257
  unfolding field_size list_form
  list_length =
      let e = field_form-length f u.fine ∙ ap (λ (n : ℕ). field_size n (length f.value)) u.name_length ∙ ap (field_size 127) u.value_length in
      omega (arith, form-more f [], e)

  block-length : (gs : List Field) → read_field_list s ≡ list gs → block_length l gs ≡ 259
  block-length gs d =
      let c = ap (λ (r : Representation). length (representation_wire r)) (chosen m limit small started cs b f u) in
      let w = literal-most f.flag f.name f.value u.name_length u.value_length u.plain.0 u.plain.1 in
      ap (block_length l) (same-fields s (f ∷ []) gs reads d) ∙ omega (arith, length_more (choose l f) [], ap length block-wire-nil, c, w)

  module _ (stream part : ℕ) (out : List ℕ) where
    ways : (P : Answer → Type 0) → ((a : Answer) → a.number ≡ 11 → P a) → (259 ≤ length out → P (done 259 0))
        → (length out < 259 → (a : Answer) → a.number ≡ 12 → P a) → P (block_answer now stream part s out)
    ways P out_of_turn told short =
        answer-ways now (stands m limit small started cs b).forms stream part s out P
        (λ t. out_of_turn _ refl)
        (λ why d. one-reading s (f ∷ []) reads why d)
        (λ gs d h. absurd (omega (arith, block-length gs d)))
        (λ gs d h k. short (omega (arith, block-length gs d)) _ refl)
        (λ gs d h k. rw (block-length gs d) (told (omega (arith, block-length gs d))))

    told : ((block_answer now stream part s out).number ≡ 11 → ⊥) → 259 ≤ length out → block_answer now stream part s out ≡ done 259 0
    told = ways (λ (a : Answer). (a.number ≡ 11 → ⊥) → 259 ≤ length out → a ≡ done 259 0)
        (λ a z h k. absurd (h z)) (λ k h j. refl) (λ k a z h j. absurd (omega arith))

    short : ((block_answer now stream part s out).number ≡ 11 → ⊥) → length out < 259 → (block_answer now stream part s out).number ≡ 12
    short = ways (λ (a : Answer). (a.number ≡ 11 → ⊥) → length out < 259 → a.number ≡ 12)
        (λ a z h k. absurd (h z)) (λ k h j. absurd (omega arith)) (λ k a z h j. z)

  pub reached : Reached now f
  reached =
      record {
        list_length = list_length;
        tight = omega (arith, list_length);
        told = λ stream part out bytes. told stream part out;
        short = λ stream part out bytes. short stream part out;
      }
