-- The link's claim on memory and bytes, from the model's.
-- Both memories stand for fresh states, the calls are steps, and the rules and what follows from them go from one side of the steps to the other.
use mathlib.Core.Path.{◌≡◌, refl, sym, subst}
use Prim.Native.Nat.{ℕ, ◌≤◌}
use mathlib.Core.List.{List}
use borrow.Author.Tests.{le-leb}
use Rattle.model.specs.Outcome.{start_answer}
use Rattle.model.specs.Decoder.{start_decoder}
use Rattle.model.specs.Encoder.{start_encoder}
use Rattle.model.specs.Events as events
use Rattle.model_laws.specs.Link as model
use Rattle.model_laws.proofs.Demand.{abstract-demand}
use Rattle.link.specs.Claims.{LinkCall, Ends, events as byte-events, Rules, Served, AllLinkBytes, Opening, Started, LinkClaim}
use Rattle.link.proofs.Lifted.{StandsDecoder, StandsEncoder}
use Rattle.link.proofs.DecoderLifting.{start-decoder, start-decoder-limit}
use Rattle.link.proofs.EncoderLifting.{start-encoder, start-encoder-limit}
use Rattle.link.proofs.Steps.{bytes}
use Rattle.link.proofs.LinkSteps.{Joined, run}
use Rattle.link.proofs.LinkRules.{model-rules}
use Rattle.link.proofs.LinkServed.{served-bytes}

start-done : (limit : ℕ) → limit ≤ 4096 → (start_answer limit).number ≡ 0
unfolding start_answer
start-done limit h = rw (le-leb limit 4096 h) refl

module _ (o : Opening) (S : Ends) (T : Started o S) where
  abbrev m : ℕ
  m = o.encoder_limit

  abbrev n : ℕ
  n = o.decoder_limit

  pub fresh-ends : Joined S (events.fresh m n)
  unfolding events.fresh
  fresh-ends = record {
    encoder-stands = subst (λ (l : List ℕ). StandsEncoder l (start_encoder m)) T.encoder_is (start-encoder T.encoder_memory m T.encoder_small T.encoder_done);
    decoder-stands = subst (λ (l : List ℕ). StandsDecoder l (start_decoder n)) T.decoder_is (start-decoder T.decoder_memory n T.decoder_small T.decoder_done);
  }

  served : (cs : List LinkCall) → AllLinkBytes cs → Rules (byte-events S cs) → Served (byte-events S cs)
  served cs b R =
      let G = run S (events.fresh m n) fresh-ends cs b in
      let rules : Rules (bytes G.steps) = subst Rules (sym G.byte) R in
      let follows = abstract-demand.hence.served m n (start-done m (start-encoder-limit T.encoder_memory m T.encoder_done))
      (start-done n (start-decoder-limit T.decoder_memory n T.decoder_done)) T.limits G.calls G.fine
      (subst model.AbstractRules G.same (model-rules G.steps rules)) in
      subst Served G.byte (served-bytes G.steps rules (subst model.AbstractServed (sym G.same) follows))

pub link-claim : LinkClaim
link-claim = record { served = λ o S T cs b R. served o S T cs b R }
