-- A call that closes parts, by the stream that it names: it is refused where that is, and else done.
-- By the two tests in their order.
use mathlib.Core.Path.{◌≡◌, refl, subst}
use Prim.Native.Nat.{ℕ, ◌≤◌, ◌<◌}
use native.Mathlib.Omega.{arith}
use mathlib.Core.List.{List}
use lib.Dec.{ltb}
use lib.ListN.{length}
use borrow.Author.Tests.{ltb-true, ltb-false}
use Rattle.std.specs.Prelude.{Result, Ok, Err}
use Rattle.memory.specs.Bytes.{Small}
use Rattle.memory.proofs.Order.{need-both}
use Rattle.integers.specs.Answers.{done, refusal, number_of}
use Rattle.integers.specs.declared.answer.Refusal.{Refusal}
use Rattle.integers.specs.declared.number.StreamNumber.{StreamNumber}
use Rattle.model.specs.Parts.{Closing, streams}
use Rattle.state.specs.Layout.{front_length}
use Rattle.state.specs.Forms.{forms_decoder}
use Rattle.decoder.proofs.Standing.{Stands, Leaves, long}
use Rattle.decoder.proofs.Calling.{close_call, closed_memory, close-no-state, close-above, close-done}
use Rattle.decoder_ended.specs.Stream.{stream_named}

-- a stream that is named in memory that forms a state: there is room for the change, and the change is the call's
pub record Named (k : Closing) (m : List ℕ) (s : ℕ) (x : StreamNumber) : Type 0 where
  pub low : x.value < 4096
  pub long : front_length ≤ length m
  pub closes : Leaves (close_call k m s) (done 0 0) (closed_memory k m x.value)

module _ (k : Closing) (m : List ℕ) (small : Small m) (s : ℕ) where
  abbrev Told : Result StreamNumber Refusal → Type 0
  Told (Ok x) = Named k m s x
  Told (Err why) = Leaves (close_call k m s) (refusal (number_of why)) m

  told : Told (stream_named m s)
  told =
      need-both Told (forms_decoder m) _ _
      (close-no-state k m s)
      (λ f. let st : Stands m = record { small = small; forms = f } in
      need-both Told (ltb s streams) _ _
      (λ h. close-above k m s st (ltb-false s streams h))
      (λ h. let low : s < 4096 = ltb-true s streams h in
      record { low = low; long = omega (arith, long m st); closes = close-done k m s st (record { value = s }) refl low }))

  pub refused-closing : (why : Refusal) → stream_named m s ≡ Err why → Leaves (close_call k m s) (refusal (number_of why)) m
  refused-closing why e = subst Told e told

  pub named : (x : StreamNumber) → stream_named m s ≡ Ok x → Named k m s x
  named x e = subst Told e told
