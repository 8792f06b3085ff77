-- The example: 127 times 'X' as name and as value, on a fresh encoder. Its packing is computed; the first part of stream 0 is in turn there.
use mathlib.Core.Path.{◌≡◌, refl, ap}
use mathlib.Core.Bool.{true, false}
use Prim.Native.Nat.{ℕ, zero, suc, ◌<◌}
use native.Mathlib.Omega.{arith}
use mathlib.Core.List.{List, [], ◌∷◌}
use lib.ListN.{length}
use Rattle.memory.specs.Bytes.{Small}
use Rattle.memory.proofs.Order.{not-both}
use Rattle.integers.specs.Answers.{Answer, done}
use Rattle.huffman.specs.Codes.{codes, code_of}
use Rattle.huffman.specs.Packing.{codes_size, packed_size}
use Rattle.wire.specs.Text.{all_bytes, packs}
use Rattle.fields.specs.Form.{FineField, list_form}
use Rattle.fields.proofs.Lists.{list_back}
use Rattle.model.specs.Parts.{part_of, in_turn}
use Rattle.model.specs.Encoder.{Encoder, start_encoder}
use Rattle.model.specs.Happened.{after}
use Rattle.model_laws.proofs.Tables.{nope}
use Rattle.state.specs.EncoderState.{encoder_of}
use Rattle.parts.specs.Turn.{part_turn}
use Rattle.encoder.specs.Calls.{start_call}
use Rattle.link.specs.Calls.{encoder_after}
use Rattle.link.specs.Happened.{history_there}
use Rattle.link.specs.Histories.{Serving, Named}
use Rattle.link.proofs.EncoderLifting.{start-encoder}
use Rattle.block_room.specs.Claim.{block_answer, Unknown, Reached, times, plain_field}
use Rattle.block_room.proofs.Answers.{answer-ways}
use Rattle.block_room.proofs.Enough.{one-reading}
use Rattle.block_room.proofs.Reached.{reached}

small_times : (n x : ℕ) → x < 256 → Small (times n x)
small_times zero x h k = omega arith
small_times (suc n) x h zero = h
small_times (suc n) x h (suc k) = small_times n x h k

pub stays_plain : packs (times 127 88) ≡ false
unfolding packs all_bytes packed_size codes_size code_of codes
stays_plain = refl

fine : FineField plain_field
fine = record { flag_bit = omega arith; name_short = omega arith; value_short = omega arith }

module _ (m : List ℕ) (limit : ℕ) (small : Small m) (started : (start_call m limit).answer.number ≡ 0) where
  abbrev fresh : List ℕ
  fresh = (start_call m limit).memory

  abbrev s : List ℕ
  s = list_form (plain_field ∷ [])

  -- nothing happened yet
  serves-none : (i : ℕ) → Serving (history_there fresh []) (Named (times 127 88)) i → ⊥
  unfolding history_there after
  serves-none i (e, held, free, same) = nope (cc)

  unknown : Unknown fresh [] plain_field
  unknown =
      record {
        fine = fine;
        bytes = (small_times 127 88 (omega arith), small_times 127 88 (omega arith));
        name_length = refl;
        value_length = refl;
        plain = (stays_plain, stays_plain);
        unknown = serves-none;
      }

  reaches : Reached fresh plain_field
  unfolding encoder_after
  reaches = reached m limit small started [] tt plain_field unknown

  in-turn : part_turn (encoder_of fresh).written 0 (part_of 0) ≡ true
  unfolding start_encoder part_turn in_turn part_of
  in-turn = ap (λ (E : Encoder). part_turn E.written 0 (part_of 0)) (start-encoder m limit small started).state

  not-out : (out : List ℕ) → (block_answer fresh 0 0 s out).number ≡ 11 → ⊥
  not-out out =
      answer-ways fresh (start-encoder m limit small started).forms 0 0 s out (λ (a : Answer). a.number ≡ 11 → ⊥)
      (λ t z. not-both (part_turn (encoder_of fresh).written 0 (part_of 0)) in-turn t)
      (λ why d z. one-reading s (plain_field ∷ []) (list_back (plain_field ∷ []) (fine, tt)) why d)
      (λ gs d h z. omega arith)
      (λ gs d h k z. omega arith)
      (λ gs d h k z. omega arith)

  pub example : (out : List ℕ) → Small out
      → (length out ≡ 259 → block_answer fresh 0 0 s out ≡ done 259 0) × (length out ≡ 258 → (block_answer fresh 0 0 s out).number ≡ 12)
  example out bytes = (
    λ e. reaches.told 0 0 out bytes (not-out out) (omega arith),
    λ e. reaches.short 0 0 out bytes (not-out out) (omega arith),
  )
