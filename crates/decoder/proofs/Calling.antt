-- The calls of start and of those that close parts by their ways: the tests, and the model's step.
-- By the tests in their order.
use mathlib.Core.Path.{◌≡◌, refl, ◌∙◌}
use Prim.Native.Nat.{ℕ, ◌≤◌, ◌<◌}
use mathlib.Core.Bool.{false}
use mathlib.Core.List.{List, []}
use lib.ListN.{length}
use borrow.Author.Tests.{le-leb, lt-leb, lt-ltb, le-ltb}
use Rattle.memory.specs.Choice.{need}
use Rattle.memory.proofs.Order.{need-true, need-false}
use Rattle.integers.specs.Answers.{done, refusal, over_limit, out_of_turn, no_room, no_state}
use Rattle.integers.specs.declared.number.StreamNumber.{StreamNumber}
use Rattle.marks.specs.Marks.{cleared}
use Rattle.model.specs.Parts.{nontrailer, Closing, over, ended, closed, streams}
use Rattle.model.specs.Decoder.{with_finished, close_parts}
use Rattle.state.specs.Layout.{decoder_length, decoder_role, marks_place}
use Rattle.state.specs.DecoderState.{decoder_of, overlay_decoder}
use Rattle.state.specs.Forms.{forms_decoder}
use Rattle.parts.specs.Close.{closed_both}
use Rattle.table.specs.Changes.{started}
use Rattle.table_laws.proofs.DecoderClaim.{decoder-claim}
use Rattle.reply.specs.Result.{Result, refused, stepped}
use Rattle.decoder.specs.Calls.{start_call, over_call, ended_call}
use Rattle.decoder.proofs.Standing.{Stands, Leaves, same, refuses, steps, changes, stays}

-- ---- start

module _ (m : List ℕ) (limit : ℕ) where
  pub start-over : 4096 < limit → Leaves (start_call m limit) (refusal over_limit) m
  unfolding start_call
  start-over h = same (need-false _ _ _ (lt-leb limit 4096 h)) (refuses m over_limit)

  pub start-short : limit ≤ 4096 → length m < decoder_length → Leaves (start_call m limit) (refusal no_room) m
  unfolding start_call
  start-short h k = same (need-true _ _ _ (le-leb limit 4096 h) ∙ need-false _ _ _ (lt-leb decoder_length (length m) k)) (refuses m no_room)

  pub start-done : limit ≤ 4096 → decoder_length ≤ length m → Leaves (start_call m limit) (done 0 0) (started m decoder_role limit)
  unfolding start_call
  start-done h k =
      same (need-true _ _ _ (le-leb limit 4096 h) ∙ need-true _ _ _ (le-leb decoder_length (length m) k))
      (record { answer = refl; memory = decoder-claim.start m limit k h })

-- ---- parts closed by the host: a non-trailer part is over, or a stream has ended

abbrev pub close_call : Closing → List ℕ → ℕ → Result
close_call over m s = over_call m s
close_call ended m s = ended_call m s

abbrev pub closed_memory : Closing → List ℕ → ℕ → List ℕ
closed_memory over m s = cleared m (marks_place nontrailer) s
closed_memory ended m s = closed_both m s

close-is : (k : Closing) (m : List ℕ) (s : ℕ)
    → close_call k m s ≡ need (forms_decoder m) (refused m [] no_state) (stepped overlay_decoder m [] (close_parts (decoder_of m) k s))
unfolding over_call ended_call
close-is over m s = refl
close-is ended m s = refl

closes : (k : Closing) (m : List ℕ) → Stands m → (s : ℕ) → s < streams
    → closed_memory k m s ≡ overlay_decoder (with_finished (decoder_of m) (closed k s (decoder_of m).finished)) m
closes over m st s h = (changes m st).over s h
closes ended m st s h = (changes m st).end s h

module _ (k : Closing) (m : List ℕ) (s : ℕ) where
  pub close-no-state : forms_decoder m ≡ false → Leaves (close_call k m s) (refusal no_state) m
  close-no-state e = same (close-is k m s ∙ need-false _ _ _ e) (refuses m no_state)

  module _ (st : Stands m) where
    pub close-above : streams ≤ s → Leaves (close_call k m s) (refusal out_of_turn) m
    unfolding close_parts
    close-above h = same (close-is k m s ∙ need-true _ _ _ st.forms) (stays m st _ out_of_turn (need-false _ _ _ (le-ltb s streams h)))

    pub close-done : (x : StreamNumber) → x ≡ record { value = s } → s < streams → Leaves (close_call k m s) (done 0 0) (closed_memory k m x.value)
    unfolding close_parts
    close-done x e h =
        rw e (same (close-is k m s ∙ need-true _ _ _ st.forms) (steps m _ _ 0 0 _ (need-true _ _ _ (lt-ltb s streams h)) (closes k m st s h)))
