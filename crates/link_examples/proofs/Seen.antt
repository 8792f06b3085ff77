-- What is shown of calls on memory is what the model's calls give on the states that the memory stands for.
-- By induction over the calls: each is lifted, and leaves memory that stands for the model's next state.
use mathlib.Core.Path.{◌≡◌, refl, ap₂}
use Prim.Native.Nat.{ℕ}
use mathlib.Core.List.{List, [], ◌∷◌, map}
use lib.ListN.{take}
use lib.Dec.{eqb}
use Rattle.memory.specs.Choice.{pick}
use Rattle.memory.specs.Bytes.{overlay}
use Rattle.integers.specs.Answers.{Answer}
use Rattle.model.specs.Outcome.{Outcome, output_bytes}
use Rattle.model.specs.DecoderCalls.{decoder_call}
use Rattle.model.specs.EncoderCalls.{encoder_call}
use Rattle.model.specs.Events as model
use Rattle.reply.specs.Result.{Result}
use Rattle.link.specs.Calls.{decoder_result, decoder_lent, encoder_result, encoder_lent, done_bytes}
use Rattle.link.specs.Claims.{LinkCall, Ends, turn, events, LinkBytes, AllLinkBytes}
use Rattle.link.proofs.Lifted.{decoder_call_of, encoder_call_of}
use Rattle.link.proofs.DecoderLifting.{lift-decoder}
use Rattle.link.proofs.EncoderLifting.{lift-encoder}
use Rattle.link.proofs.LinkSteps.{Joined}
use Rattle.link_examples.specs.Examples.{Shown, call, shown}

-- ---- on the model's states

-- the bytes that an answer tells of an output
abbrev pub told_bytes : Answer → List ℕ → List ℕ
told_bytes a out = pick (eqb a.number 0) (take a.first out) []

abbrev pub seen : {S : Type 0} → LinkCall → List ℕ → Outcome S → Shown
seen c lent o = call c o.answer (told_bytes o.answer (overlay lent 0 (output_bytes o.output)))

-- what is shown of a call, and the states after it
pub record Seen : Type 0 where
  pub ends : model.Ends
  pub shows : Shown

unfoldable pub see : model.Ends → LinkCall → Seen
see M (LinkCall.at_encoder c) =
    let o = encoder_call M.encoder (encoder_call_of M.encoder c) in
    record { ends = record { encoder = o.state; decoder = M.decoder }; shows = seen (LinkCall.at_encoder c) (encoder_lent c) o }
see M (LinkCall.at_decoder n c) =
    let o = decoder_call M.decoder (decoder_call_of M.decoder c) in
    record { ends = record { encoder = M.encoder; decoder = o.state }; shows = seen (LinkCall.at_decoder n c) (decoder_lent c) o }
see M (LinkCall.reset stream) = record { ends = M; shows = Shown.reset stream }

unfoldable pub seen_from : model.Ends → List LinkCall → List Shown
seen_from M [] = []
seen_from M (c ∷ cs) = (see M c).shows ∷ seen_from (see M c).ends cs

-- ---- on memory
shown-alike : {S : Type 0} (k : LinkCall) (r : Result) (lent : List ℕ) (o : Outcome S) → r.answer ≡ o.answer
    → r.output ≡ overlay lent 0 (output_bytes o.output) → call k r.answer (done_bytes r) ≡ seen k lent o
shown-alike k r lent o a b = ap₂ (λ (x : Answer) (out : List ℕ). call k x (told_bytes x out)) a b

-- a call shows the same, and its memory stands for the states after it
pub record Shows (S : Ends) (M : model.Ends) (c : LinkCall) : Type 0 where
  pub alike : shown (turn S c).event ≡ (see M c).shows
  pub joined : Joined (turn S c).ends (see M c).ends

module _ (S : Ends) (M : model.Ends) (J : Joined S M) where
  shows : (c : LinkCall) → LinkBytes c → Shows S M c
  unfolding turn see
  shows (LinkCall.at_encoder c) b =
      let l = lift-encoder S.encoder M.encoder J.encoder-stands c b in
      record {
        alike = shown-alike (LinkCall.at_encoder c) (encoder_result S.encoder c) (encoder_lent c)
            (encoder_call M.encoder (encoder_call_of M.encoder c)) l.answer l.output;
        joined = record { encoder-stands = l.stands; decoder-stands = J.decoder-stands };
      }
  shows (LinkCall.at_decoder n c) b =
      let l = lift-decoder S.decoder M.decoder J.decoder-stands c b in
      record {
        alike = shown-alike (LinkCall.at_decoder n c) (decoder_result S.decoder c) (decoder_lent c)
            (decoder_call M.decoder (decoder_call_of M.decoder c)) l.answer l.output;
        joined = record { encoder-stands = J.encoder-stands; decoder-stands = l.stands };
      }
  shows (LinkCall.reset stream) b = record { alike = refl; joined = J }

pub shown-seen : (S : Ends) (M : model.Ends) → Joined S M → (cs : List LinkCall) → AllLinkBytes cs → map shown (events S cs) ≡ seen_from M cs
unfolding events seen_from
shown-seen S M J [] b = refl
shown-seen S M J (c ∷ cs) b =
    let h = shows S M J c b.0 in
    ap₂ ◌∷◌ h.alike (shown-seen (turn S c).ends (see M c).ends h.joined cs b.1)
