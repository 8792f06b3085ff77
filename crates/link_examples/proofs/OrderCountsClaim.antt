-- The pairs of calls whose order counts. What the second tells in either order is computed on the model's states; that the law leaves the pair out follows
-- from the law.
use mathlib.Core.Path.{◌≡◌, refl, ap, sym, ◌∙◌}
use Prim.Native.Nat.{ℕ}
use native.Mathlib.Omega.{arith}
use mathlib.Core.Bool.{true}
use mathlib.Core.List.{List, [], ◌∷◌, ◌++◌}
use lib.ListN.{get_or}
use Rattle.memory.specs.Bytes.{Small}
use Rattle.memory.proofs.Order.{either}
use Rattle.model.specs.DecoderCalls.{after_decoder}
use Rattle.reply.specs.Result.{stepped}
use Rattle.decoder.specs.Calls.{start_call}
use Rattle.link.specs.Calls.{DecoderCall, decoder_result, decoder_after}
use Rattle.link_further.specs.Order.{EitherWay, apart}
use Rattle.link.proofs.CallTests.{decoder_given, all_decoder_given}
use Rattle.link.proofs.Runs.{decoder_calls_of}
use Rattle.link_further.proofs.OrderClaim.{order-claim}
use Rattle.ten_checks.specs.Checks.{since, told}
use Rattle.ten_checks.proofs.TenChecks.{state_since, leaves, same-told, stands, told_is}
use Rattle.link_examples.specs.Examples.{acknowledge_62}
use Rattle.link_examples.specs.OrderCounts.{Counterexample, insert_and_delete, collect_1, empty_block, ended_0, wrote, out_of_turn, OrderCounts, OrderCountsClaim}
use Rattle.link_examples.proofs.Computing.{computed}

-- two calls that tell different numbers at a place do not tell the same
differs : (l : List ℕ) → Small l → (c d : DecoderCall) (after first : List ℕ) (k : ℕ) → told (decoder_result (decoder_result l c).memory d) ≡ after
    → told (decoder_result l d) ≡ first → (get_or after k 0 ≡ get_or first k 0 → ⊥) → Counterexample l c d after first
differs l small c d after first k a b other =
    let no : EitherWay l c d → ⊥ =
    λ E. other (ap (λ (t : List ℕ). get_or t k 0)
    (sym a ∙ same-told (decoder_result (decoder_result l c).memory d) (decoder_result l d) E.other.answer E.other.output ∙ b)) in
    record {
      after_it = a;
      before_it = b;
      not_either_way = no;
      left_out = either (apart c d) (λ e. absurd (no (order-claim.either_way l small c d e))) (λ e. e);
    }

module _ (m : List ℕ) (small : Small m) (ok : (start_call m 4096).answer.number ≡ 0) where
  bytes : (cs : List DecoderCall) → all_decoder_given cs ≡ true → Small (since m 4096 cs)
  bytes cs b = (stands m small 4096 ok cs b).small

  tells : (cs : List DecoderCall) (c : DecoderCall) → all_decoder_given cs ≡ true → decoder_given c ≡ true
      → told (decoder_result (since m 4096 cs) c) ≡ told (leaves (state_since 4096 cs) c)
  tells = told_is m small 4096 ok

  order-counts : OrderCounts m
  unfolding computed decoder_after after_decoder decoder_calls_of stepped
  order-counts = record {
    ended_collect = differs (since m 4096 insert_and_delete) (bytes insert_and_delete refl) ended_0 collect_1 (wrote 1 acknowledge_62) (wrote 0 []) 1
        (tells (insert_and_delete ++ (ended_0 ∷ [])) collect_1 refl refl) (tells insert_and_delete collect_1 refl refl) (λ e. omega (arith, e));
    two_blocks = differs (since m 4096 []) (bytes [] refl) (empty_block 1) (empty_block 1) out_of_turn (wrote 0 []) 0
        (tells (empty_block 1 ∷ []) (empty_block 1) refl refl) (tells [] (empty_block 1) refl refl) (λ e. omega (arith, e));
    trailer_nontrailer = differs (since m 4096 []) (bytes [] refl) (empty_block 1) (empty_block 0) out_of_turn (wrote 0 []) 0
        (tells (empty_block 1 ∷ []) (empty_block 0) refl refl) (tells [] (empty_block 0) refl refl) (λ e. omega (arith, e));
    ended_block = differs (since m 4096 []) (bytes [] refl) ended_0 (empty_block 0) out_of_turn (wrote 0 []) 0
        (tells (ended_0 ∷ []) (empty_block 0) refl refl) (tells [] (empty_block 0) refl refl) (λ e. omega (arith, e));
  }

pub order-counts-claim : OrderCountsClaim
order-counts-claim = order-counts
