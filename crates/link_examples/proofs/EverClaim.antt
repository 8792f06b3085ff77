-- The list that keeps the rules so far, breaks them with "ever", and is not served. What is shown of it is computed; the two events that matter are found among
-- those on memory by what is shown of them.
use mathlib.Core.Path.{◌≡◌, refl, sym, ap, ap₂, ◌∙◌}
use mathlib.Core.Logic.{⊎_elim}
use Prim.Native.Nat.{ℕ}
use native.Mathlib.Omega.{arith}
use mathlib.Core.Option.{some}
use mathlib.Core.List.{List, [], ◌∷◌, ◌++◌, map, Memᴰ}
use lib.ListN.{take, drop}
use Rattle.memory.proofs.Order.{not-both}
use Rattle.integers.specs.Answers.{Answer, done, refusal, out_of_turn}
use Rattle.model.specs.Events.{at}
use Rattle.model.specs.Parts.{Closing, over, ended}
use Rattle.model_laws.proofs.Tables.{nope}
use Rattle.reply.specs.Result.{Result}
use Rattle.link.specs.Calls.{DecoderCall, close}
use Rattle.link.specs.Claims.{at_decoder, Ends, Event, by_encoder, by_decoder, events, Written, written_in, Accepted, Rules, Served, Started}
use Rattle.link.proofs.StepBorders.{Split, split_steps}
use Rattle.link_examples.specs.Examples.{Shown, call, shown, calls_of, room, h_is_9, by_62, largest}
use Rattle.link_examples.specs.Ever.{RulesSoFar, late, EverClaim}
use Rattle.link_examples.proofs.ListTests.{any}
use Rattle.link_examples.proofs.RulesCheck.{is_done, is_reset, keeps, keeps_so_far}
use Rattle.link_examples.proofs.RulesSound.{accepted-complete, reset-complete, so-far-sound}
use Rattle.link_examples.proofs.Bare.{bare, same-so-far, written-shown, accepted-shown, reset-shown}
use Rattle.link_examples.proofs.Tables.{late-computed}
use Rattle.link_examples.proofs.ExamplesClaim.{given, happens, started}

-- ---- an event of which a decoder's call is shown
record ByDecoder (e : Event) (n : ℕ) (c : DecoderCall) (a : Answer) : Type 0 where
  result : Result
  is : e ≡ by_decoder n c result
  answer : result.answer ≡ a

by-decoder : (e : Event) (n : ℕ) (c : DecoderCall) (a : Answer) (b : List ℕ) → shown e ≡ call (at_decoder n c) a b → ByDecoder e n c a
by-decoder (by_encoder d r) n c a b e = nope (cc)
by-decoder (by_decoder m d r) n c a b e =
    let p : m ≡ n = cc in
    let q : d ≡ c = cc in
    record { result = r; is = ap₂ (λ (x : ℕ) (y : DecoderCall). by_decoder x y r) p q; answer = cc }
by-decoder (Event.reset s) n c a b e = nope (cc)

-- ---- the list's second block
abbrev second : Written
second = record { stream = 0; part = 0; list = h_is_9; bytes = by_62; before = 6 }

module _ (k : Closing) (S : Ends) (T : Started largest S) where
  abbrev es : List Event
  es = events S (calls_of (late k))

  told : map shown es ≡ late k
  told = happens keeps_so_far (late k) (late-computed k) S T

  so_far : RulesSoFar es
  so_far = so-far-sound es (sym (same-so-far es) ∙ ap (λ (l : List Shown). keeps_so_far (map bare l)) told ∙ (late-computed k).kept)

  written : at 1 (written_in es) ≡ some second
  unfolding keeps late
  written = ap (at 1) (written-shown es (late k) told)

  -- where the part is closed, four events stand before it, and the second block is not among those done
  closing : Split shown es (take 4 (late k)) (call (at_decoder 0 (close k 0)) (done 0 0) []) (drop 5 (late k))
  unfolding late
  closing = split_steps shown es (take 4 (late k)) (call (at_decoder 0 (close k 0)) (done 0 0) []) (drop 5 (late k)) told

  closes : ByDecoder closing.step 0 (close k 0) (done 0 0)
  closes = by-decoder closing.step 0 (close k 0) (done 0 0) [] closing.is

  around : es ≡ closing.before ++ (by_decoder 0 (close k 0) closes.result ∷ closing.after)
  around = closing.whole ∙ ap (λ (e : Event). closing.before ++ (e ∷ closing.after)) closes.is

  undone : Accepted 1 closing.before → ⊥
  unfolding keeps late
  undone A = not-both (any (is_done 1) closing.before) (accepted-complete 1 closing.before A) (accepted-shown closing.before (take 4 (late k)) closing.front 1)

  unreset : Memᴰ (Event.reset 0) closing.before → ⊥
  unfolding keeps late
  unreset m = not-both (any (is_reset 0) closing.before) (reset-complete 0 closing.before m) (reset-shown closing.before (take 4 (late k)) closing.front 0)

  -- where the late block is offered
  offering : Split shown es (take 10 (late k)) (call (at_decoder 1 (DecoderCall.block 0 0 by_62 room)) (refusal out_of_turn) []) []
  unfolding late
  offering = split_steps shown es (take 10 (late k)) (call (at_decoder 1 (DecoderCall.block 0 0 by_62 room)) (refusal out_of_turn) []) [] told

  offers : ByDecoder offering.step 1 (DecoderCall.block 0 0 by_62 room) (refusal out_of_turn)
  offers = by-decoder offering.step 1 (DecoderCall.block 0 0 by_62 room) (refusal out_of_turn) [] offering.is

  not_served : Served es → ⊥
  unfolding keeps late
  not_served H =
      let n : offers.result.answer.number ≡ 11 = ap (λ (a : Answer). a.number) offers.answer in
      ⊎_elim (λ z. omega arith) (λ z. omega arith)
      (H.blocks offering.before offering.after 1 0 0 by_62 room offers.result
      (offering.whole ∙ ap (λ (e : Event). offering.before ++ (e ∷ offering.after)) offers.is) second
      (ap (at 1) (written-shown offering.before (take 10 (late k)) offering.front))).no_fault

not_ever : (k : Closing) (S : Ends) (T : Started largest S) → Rules (es k S T) → ⊥
not_ever over S T R =
    ⊎_elim (λ f. undone over S T (f 1 second (written over S T) refl refl)) (unreset over S T)
    (R.overs _ _ 0 0 (closes over S T).result (around over S T) (ap (λ (a : Answer). a.number) (closes over S T).answer))
not_ever ended S T R =
    ⊎_elim (λ f. undone ended S T (f 1 second (written ended S T) refl)) (unreset ended S T)
    (R.ends _ _ 0 0 (closes ended S T).result (around ended S T) (ap (λ (a : Answer). a.number) (closes ended S T).answer))

pub ever-claim : EverClaim
ever-claim = record {
  too_early = λ k S T. record { happens = told k S T; so_far = so_far k S T; not_ever = not_ever k S T; not_served = not_served k S T };
  needed = λ D.
      let S = started.0 in
      let T = started.1 in
      not_served over S T (D largest S T (calls_of (late over)) (given keeps_so_far (late over) (late-computed over) S T) (so_far over S T));
}
