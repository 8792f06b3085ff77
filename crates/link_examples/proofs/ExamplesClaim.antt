-- The claim of the three examples. What is shown of the calls is computed on the model's states, and the rules are tested on what is shown.
use mathlib.Core.Path.{◌≡◌, refl, sym, ap, ◌∙◌}
use Prim.Native.Nat.{ℕ}
use native.Mathlib.Omega.{arith}
use mathlib.Core.Bool.{Bool}
use mathlib.Core.List.{List, map}
use lib.ListN.{length, replicate, length-replicate}
use Rattle.memory.specs.Bytes.{Small}
use Rattle.model.specs.Events as model
use Rattle.state.specs.Layout.{decoder_length, encoder_length}
use Rattle.decoder.specs.Calls as decoder
use Rattle.encoder.specs.Calls as encoder
use Rattle.link.specs.Claims.{Ends, Event, events, Rules, AllLinkBytes, Started}
use Rattle.link.proofs.LinkClaim.{fresh-ends, link-claim}
use Rattle.link_further.proofs.TableStarts.{encoder-starts, decoder-starts, small-zeros}
use Rattle.link_examples.specs.Examples.{Shown, shown, calls_of, Example, life, accident, interim, largest, ExamplesClaim}
use Rattle.link_examples.proofs.Seen.{shown-seen}
use Rattle.link_examples.proofs.Computing.{computed}
use Rattle.link_examples.proofs.RulesCheck.{keeps}
use Rattle.link_examples.proofs.RulesSound.{keeps-sound}
use Rattle.link_examples.proofs.Bare.{bare, same-keeps}
use Rattle.link_examples.proofs.CallBytes.{all-bytes}
use Rattle.link_examples.proofs.Tables.{Computed, life-computed, accident-computed, interim-computed}

-- ---- a table that computes, by whatever test
module _ (test : List Event → Bool) (t : List Shown) (C : Computed test t) (S : Ends) (T : Started largest S) where
  pub given : AllLinkBytes (calls_of t)
  given = all-bytes (calls_of t) C.given

  pub happens : map shown (events S (calls_of t)) ≡ t
  unfolding computed
  happens = shown-seen S (model.fresh 4096 4096) (fresh-ends largest S T) (calls_of t) given ∙ C.gives

-- ---- one that keeps the rules is an example
module _ (t : List Shown) (C : Computed keeps t) (S : Ends) (T : Started largest S) where
  rules : Rules (events S (calls_of t))
  rules =
      keeps-sound (events S (calls_of t))
      (sym (same-keeps (events S (calls_of t))) ∙ ap (λ (l : List Shown). keeps (map bare l)) (happens keeps t C S T) ∙ C.kept)

  example : Example t S
  example = record {
    happens = happens keeps t C S T;
    rules = rules;
    served = link-claim.served largest S T (calls_of t) (given keeps t C S T) rules;
  }

-- ---- memory that can be started
starts : (m n : List ℕ) → Small m → Small n → length m ≡ encoder_length → length n ≡ decoder_length → (S : Ends) × Started largest S
starts m n small-m small_n e d = (
  record { encoder = (encoder.start_call m 4096).memory; decoder = (decoder.start_call n 4096).memory },
  record {
    encoder_memory = m;
    decoder_memory = n;
    encoder_small = small-m;
    decoder_small = small_n;
    encoder_done = encoder-starts m 4096 (omega arith) e;
    decoder_done = decoder-starts n 4096 (omega arith) d;
    encoder_is = refl;
    decoder_is = refl;
    limits = omega arith;
  },
)

-- zeros, of the least lengths
pub started : (S : Ends) × Started largest S
started =
    starts (replicate encoder_length 0) (replicate decoder_length 0) (small-zeros encoder_length) (small-zeros decoder_length)
    (length-replicate {A = ℕ} encoder_length 0) (length-replicate {A = ℕ} decoder_length 0)

pub examples-claim : ExamplesClaim
examples-claim = record {
  life_of_62 = example life life-computed;
  late_report = example accident accident-computed;
  interim_answers = example interim interim-computed;
  some_start = started;
}
