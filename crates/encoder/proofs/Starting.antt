-- The ways through a start: each is the definition at the facts that its tests tell.
use mathlib.Core.Path.{◌≡◌, sym, ◌∙◌}
use Prim.Native.Nat.{ℕ, ◌≤◌, ◌<◌}
use mathlib.Core.List.{List, []}
use lib.ListN.{length}
use borrow.Author.Tests.{le-leb, lt-leb}
use Rattle.memory.proofs.Order.{need-true, need-false}
use Rattle.integers.specs.Answers.{done, over_limit, no_room}
use Rattle.state.specs.Layout.{encoder_length, encoder_role}
use Rattle.table.specs.Changes.{started}
use Rattle.table_laws.proofs.EncoderClaim.{encoder-claim}
use Rattle.reply.specs.Result.{refused}
use Rattle.encoder.specs.Calls.{start_call}

module _ (m : List ℕ) (limit : ℕ) where
  pub start-over : 4096 < limit → start_call m limit ≡ refused m [] over_limit
  unfolding start_call
  start-over h = need-false _ _ _ (lt-leb _ _ h)

  module _ (low : limit ≤ 4096) where
    pub start-short : length m < encoder_length → start_call m limit ≡ refused m [] no_room
    unfolding start_call
    start-short h = need-true _ _ _ (le-leb _ _ low) ∙ need-false _ _ _ (lt-leb _ _ h)

    pub start-fresh : encoder_length ≤ length m
        → start_call m limit ≡ record { answer = done 0 0; memory = started m encoder_role limit; output = [] }
    unfolding start_call
    start-fresh h =
        need-true _ _ _ (le-leb _ _ low) ∙ need-true _ _ _ (le-leb _ _ h)
        ∙ (λ k. record { answer = done 0 0; memory = sym (encoder-claim.start m limit h low) k; output = [] })
