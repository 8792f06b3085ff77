-- The founder's demand on the link, over every list of calls from the start: the invariant goes along the calls, and each event is as it
-- should be.
use mathlib.Core.Path.{◌≡◌, refl, sym, ap, ◌∙◌, subst}
use Prim.Native.Nat.{ℕ, ◌≤◌}
use native.Mathlib.Omega.{arith}
use mathlib.Core.Option.{some}
use mathlib.Core.List.{List, [], ◌∷◌, ◌++◌, append-nil, append_assoc, nil≢cons, head-eq_of_cons-eq, tail-eq_of_cons-eq}
use Rattle.model.specs.Table.{look, total}
use Rattle.model.specs.Decoder.{held_size, start_decoder}
use Rattle.model.specs.Encoder.{sent_size, start_encoder}
use Rattle.model.specs.Events.{at, LinkCall, Event, acknowledged, heard, offered, Ends, turn, events, fresh}
use Rattle.model_laws.specs.Link.{said_in, heard_in, freed_in, acknowledged_in, Written, written_from, held_from, AbstractRules, FineLinkCalls, AbstractLink}
use Rattle.model_laws.proofs.Tables.{nope}
use Rattle.model_laws.proofs.Forms.{forms-start}
use Rattle.model_laws.proofs.FormsSent.{sent-start}
use Rattle.model_laws.proofs.View.{tables_of, slots_of, slots_sent}
use Rattle.model_laws.proofs.LinkHistory.{start}
use Rattle.model_laws.proofs.LinkState.{link_of, Meant, management-start, acknowledgements-start}
use Rattle.model_laws.proofs.Slots.Invariant.{Invariant}
use Rattle.model_laws.proofs.Slots.Invariant as slots
use Rattle.model_laws.proofs.LinkCalls.{Holds, Linked, kept, linked-next}
use Rattle.model_laws.proofs.Limits.{start-low}

none_written : (n : ℕ) (w : Written) → at n [] ≡ some w → Meant w []
unfolding at
none_written n w h = nope (cc)

start-inv : (encoder_limit decoder_limit : ℕ) → Invariant (link_of (start_encoder encoder_limit) (start_decoder decoder_limit) 0 [] [] [])
unfolding start_encoder start_decoder link_of tables_of slots_of slots_sent held_size sent_size look total slots.fresh
start-inv encoder_limit decoder_limit = slots.start decoder_limit

-- ---- lists of calls
linked-start : (encoder_limit decoder_limit : ℕ) → encoder_limit ≤ decoder_limit → decoder_limit ≤ 4096 → Linked [] (fresh encoder_limit decoder_limit)
unfolding fresh start_encoder start_decoder look said_in heard_in freed_in acknowledged_in written_from held_from
linked-start m n h k = record {
  encoder-forms = sent-start m (omega arith);
  decoder-forms = forms-start n k;
  limits = h;
  vacancies = λ i. refl;
  tied = record {
    history = start;
    unread = [];
    unread_acks = [];
    blocks = [];
    management = management-start;
    acknowledgements = acknowledgements-start;
    meant = λ i w z. none_written i w z;
    invariant = start-inv m n;
  };
}

all_hold : (es : List Event) → AbstractRules es → (S : Ends) (cs : List LinkCall) → FineLinkCalls cs → (xs : List Event) → es ≡ xs ++ events S cs → Linked xs S
    → (us ys : List Event) (e : Event) → events S cs ≡ us ++ (e ∷ ys) → Holds (xs ++ us) e
unfolding events
all_hold es R S [] f xs q K [] ys e z = absurd (nil≢cons z)
all_hold es R S [] f xs q K (u ∷ us) ys e z = absurd (nil≢cons z)
all_hold es R S (c ∷ cs) f xs q K [] ys e z =
    let k = kept es R xs (events (turn S c).ends cs) S K c f.0 q in
    rw (append-nil xs) (subst (λ (x : Event). Holds xs x) (head-eq_of_cons-eq z) k.holds)
all_hold es R S (c ∷ cs) f xs q K (u ∷ us) ys e z =
    let x : Event = (turn S c).event in
    let k = kept es R xs (events (turn S c).ends cs) S K c f.0 q in
    let a : es ≡ (xs ++ (x ∷ [])) ++ events (turn S c).ends cs = q ∙ sym (append_assoc xs (x ∷ []) (events (turn S c).ends cs)) in
    let h = all_hold es R (turn S c).ends cs f.1 (xs ++ (x ∷ [])) a (linked-next es R xs [] S K c k) us ys e (tail-eq_of_cons-eq z) in
    subst (λ (l : List Event). Holds l e) (append_assoc xs (x ∷ []) us ∙ ap (λ (y : Event). xs ++ (y ∷ us)) (head-eq_of_cons-eq z)) h

pub link-claim : AbstractLink
link-claim = record {
  served = λ m n a b h cs f R.
      let es : List Event = events (fresh m n) cs in
      let K = linked-start m n h (start-low n b) in
      record {
        blocks = λ xs ys i s part rs room a o e. all_hold es R (fresh m n) cs f [] refl K xs ys (offered i s part rs room a o) e;
        management = λ xs ys i v e. all_hold es R (fresh m n) cs f [] refl K xs ys (heard i v) e;
        acknowledgements = λ xs ys i v e. all_hold es R (fresh m n) cs f [] refl K xs ys (acknowledged i v) e;
      };
}
