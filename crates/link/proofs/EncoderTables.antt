-- What the encoder's table holds, and the sizes added and freed, by what happened in its calls.
-- Along the calls: each is lifted, and what happened in it is what happened in the model's call.
use mathlib.Core.Path.{◌≡◌, refl, ap, ap₂, ◌∙◌}
use Prim.Native.Nat.{ℕ, ◌+◌}
use mathlib.Core.Bool.{Bool}
use mathlib.Core.Option.{Option}
use mathlib.Core.List.{List, [], ◌∷◌}
use Rattle.model.specs.Parts.{Delete}
use Rattle.model.specs.Encoder.{Encoder, FormsEncoder}
use Rattle.model.specs.EncoderCalls.{encoder_call, after_encoder}
use Rattle.model.specs.Happened.{after, Contents, added_by, removed_by, sum_of}
use Rattle.model_laws.specs.History.{sent_since, acked_since, sent, acked}
use Rattle.model_laws.proofs.SentHappened.{sent_happened, Told, ToldAfter, told-append, told-call}
use Rattle.model_laws.proofs.HappenedLists.{sum-append}
use Rattle.model_laws.proofs.SentSums.{call-added, call-removed}
use Rattle.state_laws.proofs.EncoderLaws.{encoder-laws}
use Rattle.link.specs.Calls.{EncoderCall, encoder_result, EncoderBytes, AllEncoderBytes}
use Rattle.link.specs.Happened.{happened_there, history_there}
use Rattle.link.proofs.Lifted.{StandsEncoder, encoder_call_of}
use Rattle.link.proofs.EncoderLifting.{lift-encoder}
use Rattle.link.proofs.Runs.{encoder_calls_of}
use Rattle.link.proofs.EncoderHappened.{call-happened}

-- the state that memory stands for is well formed
pub stands-forms : (m : List ℕ) (E : Encoder) → StandsEncoder m E → FormsEncoder E
stands-forms m E S = rw S.state at (encoder-laws.fits m S.small S.forms).forms

-- ---- one call
module _ (m : List ℕ) (E : Encoder) (S : StandsEncoder m E) (c : EncoderCall) (b : EncoderBytes c) where
  same-happened : happened_there c (encoder_result m c) ≡ sent_happened (encoder_call_of E c) (encoder_call E (encoder_call_of E c))
  same-happened = call-happened E (stands-forms m E S) c (encoder_result m c) (lift-encoder m E S c b)

  module _ (t : Contents) (h : ℕ → Bool) (d : ℕ → Option Delete) (T : Told E.entries t h d) where
    told-one : ToldAfter t h d (happened_there c (encoder_result m c)) (encoder_call E (encoder_call_of E c)).state.entries
    told-one = rw same-happened (told-call t h d E (stands-forms m E S).order T (encoder_call_of E c))

    added-one : sum_of added_by t (happened_there c (encoder_result m c)) ≡ sent E (encoder_call_of E c)
    added-one = ap (sum_of added_by t) same-happened ∙ call-added t h d E T (encoder_call_of E c)

    removed-one : sum_of removed_by t (happened_there c (encoder_result m c)) ≡ acked E (encoder_call_of E c)
    removed-one = ap (sum_of removed_by t) same-happened ∙ call-removed t h d E T (encoder_call_of E c)

-- ---- lists of calls
pub told-since : (m : List ℕ) (E : Encoder) → StandsEncoder m E → (cs : List EncoderCall) → AllEncoderBytes cs
    → (t : Contents) (h : ℕ → Bool) (d : ℕ → Option Delete) → Told E.entries t h d
    → ToldAfter t h d (history_there m cs) (after_encoder E (encoder_calls_of E cs)).entries
unfolding history_there after_encoder encoder_calls_of after
told-since m E S [] b t h d T = T
told-since m E S (c ∷ cs) b t h d T =
    let L = lift-encoder m E S c b.0 in
    told-append t h d _ (happened_there c (encoder_result m c)) (history_there (encoder_result m c).memory cs)
    (told-since (encoder_result m c).memory _ L.stands cs b.1 _ _ _ (told-one m E S c b.0 t h d T))

pub added-since : (m : List ℕ) (E : Encoder) → StandsEncoder m E → (cs : List EncoderCall) → AllEncoderBytes cs
    → (t : Contents) (h : ℕ → Bool) (d : ℕ → Option Delete) → Told E.entries t h d
    → sum_of added_by t (history_there m cs) ≡ sent_since E (encoder_calls_of E cs)
unfolding history_there sent_since encoder_calls_of sum_of
added-since m E S [] b t h d T = refl
added-since m E S (c ∷ cs) b t h d T =
    let L = lift-encoder m E S c b.0 in
    sum-append added_by t (happened_there c (encoder_result m c)) (history_there (encoder_result m c).memory cs)
    ∙ ap₂ ◌+◌ (added-one m E S c b.0 t h d T)
    (added-since (encoder_result m c).memory _ L.stands cs b.1 _ _ _ (told-one m E S c b.0 t h d T))

pub removed-since : (m : List ℕ) (E : Encoder) → StandsEncoder m E → (cs : List EncoderCall) → AllEncoderBytes cs
    → (t : Contents) (h : ℕ → Bool) (d : ℕ → Option Delete) → Told E.entries t h d
    → sum_of removed_by t (history_there m cs) ≡ acked_since E (encoder_calls_of E cs)
unfolding history_there acked_since encoder_calls_of sum_of
removed-since m E S [] b t h d T = refl
removed-since m E S (c ∷ cs) b t h d T =
    let L = lift-encoder m E S c b.0 in
    sum-append removed_by t (happened_there c (encoder_result m c)) (history_there (encoder_result m c).memory cs)
    ∙ ap₂ ◌+◌ (removed-one m E S c b.0 t h d T)
    (removed-since (encoder_result m c).memory _ L.stands cs b.1 _ _ _ (told-one m E S c b.0 t h d T))
