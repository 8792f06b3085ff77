-- The bound is enough: on memory that forms a state, and so after every list of calls from a start. By the ways of the call.
use mathlib.Core.Path.{◌≡◌, ap}
use mathlib.Core.Logic.{⊎_elim}
use mathlib.Core.Bool.{true}
use Prim.Native.Nat.{ℕ, ◌≤◌}
use native.Mathlib.Omega.{arith}
use mathlib.Core.List.{List, []}
use lib.ListN.{length}
use Rattle.memory.specs.Bytes.{Small}
use Rattle.integers.specs.Answers.{Answer}
use Rattle.fields.specs.Form.{Field}
use Rattle.fields.specs.Reading.{list, read_field_list}
use Rattle.fields.specs.Reading as reading
use Rattle.fields.proofs.Walk.{list-number}
use Rattle.model.specs.Encoder.{Sent, start_encoder}
use Rattle.model_laws.proofs.Tables.{nope}
use Rattle.state.specs.EncoderState.{encoder_of}
use Rattle.state.specs.Forms.{forms_encoder}
use Rattle.state_laws.proofs.EncoderLaws.{encoder-laws}
use Rattle.encoder.specs.Calls.{start_call}
use Rattle.encoder_fields.proofs.Within.{LowTable, forms-low}
use Rattle.encoder_fields.proofs.Bound.{block_length, read-within, three}
use Rattle.link.specs.Calls.{EncoderCall, AllEncoderBytes, encoder_after}
use Rattle.link.proofs.EncoderLifting.{start-encoder}
use Rattle.link.proofs.Runs.{after-encoder}
use Rattle.block_room.specs.Room.{bound, block_room, block_room_of}
use Rattle.block_room.specs.Claim.{block_answer, Enough}
use Rattle.block_room.proofs.Answers.{answer-ways}
use Rattle.integers.specs.declared.answer.Refusal.{Refusal}

-- a list is read in one way
pub one-reading : {X : Type 0} (s : List ℕ) (fs : List Field) → read_field_list s ≡ list fs → (why : Refusal) → read_field_list s ≡ reading.FieldListRead.refused why → X
one-reading s fs e why d = nope (cc)

pub same-fields : (s : List ℕ) (fs gs : List Field) → read_field_list s ≡ list fs → read_field_list s ≡ list gs → gs ≡ fs
same-fields s fs gs e d = cc

module _ (m : List ℕ) (small : Small m) (forms : forms_encoder m ≡ true) where
  abbrev l : List Sent
  l = (encoder_of m).entries

  low : LowTable l
  low = forms-low (encoder_of m) (encoder-laws.fits m small forms).forms

  module _ (stream part : ℕ) (s out : List ℕ) (bytes : Small s) where
    module _ (fs : List Field) (e : read_field_list s ≡ list fs) where
      within : (gs : List Field) → read_field_list s ≡ list gs → block_length l gs ≤ bound (length s) (length fs)
      within gs d = omega (arith, read-within l low s bytes gs d, ap length (same-fields s fs gs e d))

      at_most : (block_answer m stream part s out).number ≡ 0 → (block_answer m stream part s out).first ≤ bound (length s) (length fs)
      at_most =
          answer-ways m forms stream part s out (λ (a : Answer). a.number ≡ 0 → a.first ≤ bound (length s) (length fs))
          (λ t z. absurd (omega arith))
          (λ why d z. one-reading s fs e why d)
          (λ gs d h z. absurd (omega arith))
          (λ gs d h k z. absurd (omega arith))
          (λ gs d h k z. within gs d)

      lent : block_room (length s) (length fs) ≤ length out → (block_answer m stream part s out).number ≡ 12 → ⊥
      unfolding block_room
      lent room =
          answer-ways m forms stream part s out (λ (a : Answer). a.number ≡ 12 → ⊥)
          (λ t z. omega arith)
          (λ why d z. one-reading s fs e why d)
          (λ gs d h z. omega arith)
          (λ gs d h k z. omega (arith, within gs d))
          (λ gs d h k z. omega arith)

    uncounted : block_room_of (length s) ≤ length out → (block_answer m stream part s out).number ≡ 12 → ⊥
    unfolding block_room block_room_of
    uncounted room =
        answer-ways m forms stream part s out (λ (a : Answer). a.number ≡ 12 → ⊥)
        (λ t z. omega arith)
        (λ why d z. ⊎_elim (λ n. omega arith) (λ n. omega arith) (list-number s (length s) 0 [] why d))
        (λ gs d h z. omega arith)
        (λ gs d h k z. omega (arith, read-within l low s bytes gs d, three s gs d))
        (λ gs d h k z. omega arith)

  pub enough : Enough m
  enough =
      record {
        at_most = λ stream part s out bytes lent-bytes fs e z. omega (arith, at_most stream part s out bytes fs e z);
        lent = λ stream part s out bytes lent-bytes fs e. lent stream part s out bytes fs e;
        uncounted = λ stream part s out bytes lent-bytes. uncounted stream part s out bytes;
      }

pub enough-since : (m : List ℕ) (limit : ℕ) → Small m → (start_call m limit).answer.number ≡ 0 → (cs : List EncoderCall) → AllEncoderBytes cs
    → Enough (encoder_after (start_call m limit).memory cs)
enough-since m limit small started cs bytes =
    let S = after-encoder (start_call m limit).memory (start_encoder limit) (start-encoder m limit small started) cs bytes in
    enough (encoder_after (start_call m limit).memory cs) S.small S.forms
