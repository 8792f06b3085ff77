-- A closing is idempotent: repeated after whatever calls, on memory that forms a state, it answers the same and changes no byte.
-- Above stream 4,095 it is refused in every state. Below, it marks its parts; no call takes a mark back, so marking them again gives the same state, and a
-- state laid over its own memory is that memory.
use mathlib.Core.Path.{◌≡◌, refl, sym, ap, fun_ext, ◌∙◌}
use Prim.Native.Nat.{ℕ, ◌<◌}
use mathlib.Core.Bool.{Bool, true, false}
use mathlib.Core.List.{List, []}
use lib.Dec.{ltb}
use borrow.Author.Tests.{ltb-true, lt-ltb}
use Rattle.memory.specs.Choice.{need}
use Rattle.memory.specs.Bytes.{Small}
use Rattle.memory.proofs.Order.{need-true}
use Rattle.integers.specs.Answers.{out_of_turn}
use Rattle.model.specs.Parts.{Part, nontrailer, trailer, Marks, mark, mark_both, Closing, over, ended, closed, streams}
use Rattle.model.specs.Outcome.{Outcome, nothing, output_bytes, refuse, finish}
use Rattle.model.specs.Decoder.{Decoder, with_finished, close_parts}
use Rattle.model.specs.DecoderCalls.{decoder_call, after_decoder}
use Rattle.model.specs.DecoderCalls as at-decoder
use Rattle.model_laws.proofs.Tables.{pick-eq}
use Rattle.model_laws.proofs.Marks.{Closes, closing-marks}
use Rattle.model_laws.proofs.CouldStill.{calls-stay}
use Rattle.state.specs.DecoderState.{decoder_of, overlay_decoder}
use Rattle.state.specs.Forms.{forms_decoder}
use Rattle.state_laws.proofs.DecoderLaws.{decoder-laws}
use Rattle.reply.specs.Result.{Result, stepped}
use Rattle.link.specs.Calls.{DecoderCall, decoder_result, AllDecoderBytes, decoder_after}
use Rattle.link.specs.Calls as calls
use Rattle.link.proofs.Lifted.{decoder_call_of, StandsDecoder}
use Rattle.link.proofs.DecoderLifting.{stands-self-decoder, same-decoder, lift-decoder}
use Rattle.link.proofs.Runs.{decoder_calls_of, after-decoder}

-- ---- marking parts that are marked changes nothing
module _ (s : ℕ) (f : Marks) where
  set-again : (t : ℕ) (q : Part) → f s q ≡ true → s ≡ t → true ≡ f t q
  set-again t q h e = sym (ap (λ (x : ℕ). f x q) (sym e) ∙ h)

  marked-again : (k : Closing) → ((q : Part) → Closes k q → f s q ≡ true) → (t : ℕ) (q : Part) → closed k s f t q ≡ f t q
  unfolding mark mark_both
  marked-again over h t nontrailer = pick-eq (λ (b : Bool). b ≡ f t nontrailer) s t true (f t nontrailer) (set-again t nontrailer (h nontrailer tt)) (λ e. refl)
  marked-again over h t trailer = pick-eq (λ (b : Bool). b ≡ f t trailer) s t (f t trailer) (f t trailer) (λ e. refl) (λ e. refl)
  marked-again ended h t q = pick-eq (λ (b : Bool). b ≡ f t q) s t true (f t q) (set-again t q (h q tt)) (λ e. refl)

-- ---- the model's call
module _ (k : Closing) (s : ℕ) where
  -- the parts that it closes are marked in E; above stream 4,095 it closes none
  abbrev Marked : Decoder → Type 0
  Marked E = s < streams → (q : Part) → Closes k q → E.finished s q ≡ true

  first_marks : (D : Decoder) → Marked (decoder_call D (at-decoder.close k s)).state
  unfolding decoder_call close_parts
  first_marks D low q h =
      ap (λ (o : Outcome Decoder). o.state.finished s q) (need-true (ltb s streams) (refuse D out_of_turn) _ (lt-ltb s streams low))
      ∙ closing-marks k s D.finished q h

  repeated : (D E : Decoder) → Marked E
      → decoder_call E (at-decoder.close k s) ≡ record { state = E; answer = (decoder_call D (at-decoder.close k s)).answer; output = nothing }
  unfolding decoder_call close_parts
  repeated D E marked = go (ltb s streams) (λ t. marked (ltb-true s streams t))
    where
      go : (b : Bool) → (b ≡ true → (q : Part) → Closes k q → E.finished s q ≡ true)
          → need b (refuse E out_of_turn) (finish (with_finished E (closed k s E.finished)) 0 0 nothing)
          ≡ record {
            state = E;
            answer = (need b (refuse D out_of_turn) (finish (with_finished D (closed k s D.finished)) 0 0 nothing)).answer;
            output = nothing;
          }
      go true h =
          ap (λ (f : Marks). finish (with_finished E f) 0 0 nothing) (fun_ext (λ t. fun_ext (λ q. marked-again s E.finished k (h refl) t q)))
      go false h = refl

-- ---- on memory

-- the closing, the calls cs, and the closing again
abbrev pub Again : List ℕ → Closing → ℕ → List DecoderCall → Type 0
Again m k s cs =
    let r = decoder_result m (calls.DecoderCall.close k s) in
    let l = decoder_after r.memory cs in
    decoder_result l (calls.DecoderCall.close k s) ≡ record { answer = r.answer; memory = l; output = [] }

pub closed-again : (m : List ℕ) → Small m → forms_decoder m ≡ true → (k : Closing) (s : ℕ) (cs : List DecoderCall) → AllDecoderBytes cs → Again m k s cs
unfolding decoder_call_of stepped output_bytes
closed-again m small forms k s cs bytes =
    let c : DecoderCall = calls.DecoderCall.close k s in
    let D : Decoder = decoder_of m in
    let r : Result = decoder_result m c in
    let l : List ℕ = decoder_after r.memory cs in
    let L = lift-decoder m D (stands-self-decoder m small forms) c tt in
    let E : Decoder = (decoder_call D (at-decoder.close k s)).state in
    let S : StandsDecoder l (after_decoder E (decoder_calls_of E cs)) = after-decoder r.memory E L.stands cs bytes in
    let marked : Marked k s (decoder_of l) =
    λ low q h. ap (λ (X : Decoder). X.finished s q) S.state ∙ calls-stay E s q (decoder_calls_of E cs) (first_marks k s D low q h) in
    same-decoder l S.small S.forms c
    ∙ ap (stepped overlay_decoder l []) (repeated k s D (decoder_of l) marked)
    ∙ (λ i. record { answer = sym L.answer i; memory = decoder-laws.self l S.small S.forms i; output = [] })
