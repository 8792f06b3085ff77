-- What the calls tell, computed on the model's states.
use mathlib.Core.Path.{◌≡◌, refl}
use Prim.Native.Nat.{ℕ}
use mathlib.Core.Bool.{true}
use mathlib.Core.List.{List, [], ◌∷◌, ◌++◌}
use Rattle.memory.specs.Bytes.{Small}
use Rattle.model.specs.Parts.{over, ended}
use Rattle.model.specs.DecoderCalls.{after_decoder}
use Rattle.reply.specs.Result.{stepped}
use Rattle.decoder.specs.Calls.{start_call}
use Rattle.link.specs.Calls.{DecoderCall, read, close, hold, decoder_after}
use Rattle.link.proofs.CallTests.{decoder_given, all_decoder_given}
use Rattle.link.proofs.Runs.{decoder_calls_of}
use Rattle.ten_checks.specs.Checks as checks
use Rattle.ten_checks.specs.Checks.{told}
use Rattle.ten_checks.proofs.TenChecks.{state_since, leaves, told_is}
use Rattle.link_examples.specs.OrderCounts.{empty_block}
use Rattle.link_examples.specs.BothParts.{held_by_both, insert_190, insert_largest, BothParts, BothPartsClaim}
use Rattle.link_examples.proofs.Computing.{computed}

module _ (m : List ℕ) (small : Small m) (ok : (start_call m 4096).answer.number ≡ 0) where
  tells : (cs : List DecoderCall) (c : DecoderCall) → all_decoder_given cs ≡ true → decoder_given c ≡ true
      → checks.tells m cs c ≡ told (leaves (state_since 4096 cs) c)
  tells = told_is m small 4096 ok

  both-parts : BothParts m
  unfolding computed decoder_after after_decoder decoder_calls_of stepped
  both-parts = record {
    two_held = tells held_by_both (hold 62) refl refl;
    over_one = tells (held_by_both ++ (close over 0 ∷ [])) (hold 62) refl refl;
    ended_none = tells (held_by_both ++ (close ended 0 ∷ [])) (hold 62) refl refl;
    trailer_none = tells (held_by_both ++ (empty_block 1 ∷ [])) (hold 62) refl refl;
    ended_nontrailer = tells (close ended 0 ∷ []) (empty_block 0) refl refl;
    ended_trailer = tells (close ended 0 ∷ []) (empty_block 1) refl refl;
    over_nontrailer = tells (close over 0 ∷ []) (empty_block 0) refl refl;
    over_trailer = tells (close over 0 ∷ []) (empty_block 1) refl refl;
    ended_last = tells [] (close ended 4095) refl refl;
    ended_above = tells [] (close ended 4096) refl refl;
    over_last = tells [] (close over 4095) refl refl;
    over_above = tells [] (close over 4096) refl refl;
    index_190 = tells [] (read insert_190) refl refl;
    index_largest = tells [] (read insert_largest) refl refl;
  }

pub both-parts-claim : BothPartsClaim
both-parts-claim = both-parts
