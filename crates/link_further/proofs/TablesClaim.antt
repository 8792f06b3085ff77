-- The claim of links that start anew: each table is a link of its own, to which the link's claim applies.
-- Its events are those of its calls alone, at ends as its starts left them; where an end never starts the table, memory of zeros with a limit that keeps the
-- order of the limits takes the place.
use mathlib.Core.Path.{◌≡◌, refl, sym, ap, ◌∙◌, subst}
use mathlib.Core.Logic.{◌⊎◌, inl, inr}
use Prim.Native.Nat.{ℕ, ◌≤◌}
use native.Mathlib.Omega.{arith}
use mathlib.Core.Option.{some}
use mathlib.Core.List.{List, [], ◌∷◌, ◌++◌, Memᴰ}
use lib.ListN.{replicate, length-replicate}
use lib.Dec.{eqb}
use borrow.Author.Tests.{eq-eqb}
use Rattle.memory.proofs.Order.{either, pick_true, pick-both}
use Rattle.model.specs.Events.{at}
use Rattle.state.specs.Layout.{decoder_length, encoder_length}
use Rattle.reply.specs.Result.{Result}
use Rattle.link.specs.Calls as calls
use Rattle.link.specs.Claims.{Ends, Event, by_decoder, events, Written, written_in, Rules, ServedBlock, Served, AllLinkBytes, Opening, Started}
use Rattle.link_further.specs.Anew.{
  TableCall,
  encoder_start,
  decoder_start,
  TableEvent,
  encoder_started,
  decoder_started,
  table_events,
  events_of,
  encoder_table,
  decoder_table,
  TableRules,
  AllTableBytes,
  TablesClaim,
}
use Rattle.link.proofs.EncoderLifting.{start-encoder-limit}
use Rattle.link.proofs.LinkClaim.{link-claim}
use Rattle.link_further.proofs.TableStarts.{Start, encoder-starts, decoder-starts, small-zeros, encoder_side, decoder_side, left, opening, Opens}
use Rattle.link_further.proofs.TableStarts.{encoder_starts, decoder_starts, encoder-opens, decoder-opens}
use Rattle.link_further.proofs.TableRuns.{calls_of, follows-first, same-events}

-- ---- the calls of a table are given bytes, and its events around an event of it
calls-bytes : (t : ℕ) (cs : List TableCall) → AllTableBytes cs → AllLinkBytes (calls_of t cs)
unfolding calls_of
calls-bytes t [] b = b
calls-bytes t (encoder_start u limit m ∷ cs) b = calls-bytes t cs b.1
calls-bytes t (decoder_start u limit m ∷ cs) b = calls-bytes t cs b.1
calls-bytes t (TableCall.of_table u c ∷ cs) b =
    let rest = calls-bytes t cs b.1 in
    pick-both AllLinkBytes (eqb u t) (c ∷ calls_of t cs) (calls_of t cs) (λ e. (b.0, rest)) (λ e. rest)

events-around : (t : ℕ) (xs : List TableEvent) (e : Event) (ys : List TableEvent)
    → events_of t (xs ++ (TableEvent.of_table t e ∷ ys)) ≡ events_of t xs ++ (e ∷ events_of t ys)
unfolding events_of
events-around t [] e ys = pick_true (eqb t t) _ _ (eq-eqb t t refl)
events-around t (encoder_started u limit r ∷ xs) e ys = events-around t xs e ys
events-around t (decoder_started u limit r ∷ xs) e ys = events-around t xs e ys
events-around t (TableEvent.of_table u d ∷ xs) e ys =
    let rest = events-around t xs e ys in
    either (eqb u t) (λ h. rw h (ap (λ (l : List Event). d ∷ l) rest)) (λ h. rw h rest)

-- ---- one table
module _ (S : Ends) (cs : List TableCall) (b : AllTableBytes cs) (R : TableRules (table_events S cs)) (t : ℕ) where
  abbrev es : List TableEvent
  es = table_events S cs

  -- where an end never starts the table: the encoder with the lowest limit, the decoder with the highest
  abbrev no_encoder : Start
  no_encoder = record { table = t; limit = 0; memory = replicate encoder_length 0 }

  abbrev no_decoder : Start
  no_decoder = record { table = t; limit = 4096; memory = replicate decoder_length 0 }

  abbrev first : Start
  first = opening encoder_side t no_encoder (encoder_starts cs)

  abbrev second : Start
  second = opening decoder_side t no_decoder (decoder_starts cs)

  first-opens : Opens encoder_side t no_encoder es first
  first-opens =
      encoder-opens t no_encoder (small-zeros encoder_length)
      (encoder-starts (replicate encoder_length 0) 0 (omega arith) (length-replicate {A = ℕ} encoder_length 0)) S cs b

  second-opens : Opens decoder_side t no_decoder es second
  second-opens =
      decoder-opens t no_decoder (small-zeros decoder_length)
      (decoder-starts (replicate decoder_length 0) 4096 (omega arith) (length-replicate {A = ℕ} decoder_length 0)) S cs b

  in_order : first.limit ≤ second.limit
  in_order = go first-opens.told second-opens.told
    where
      go : (first.limit ≡ 0) ⊎ Memᴰ (encoder_started t first.limit (left encoder_side first)) es
          → (second.limit ≡ 4096) ⊎ Memᴰ (decoder_started t second.limit (left decoder_side second)) es → first.limit ≤ second.limit
      go (inl e) d = omega arith
      go (inr e) (inl d) = omega (arith, start-encoder-limit first.memory first.limit first-opens.done)
      go (inr e) (inr d) = R.limits t _ _ _ _ e first-opens.done d second-opens.done

  abbrev ends : Ends
  ends = record { encoder = (left encoder_side first).memory; decoder = (left decoder_side second).memory }

  abbrev limits : Opening
  limits = record { encoder_limit = first.limit; decoder_limit = second.limit }

  opened : Started limits ends
  opened = record {
    encoder_memory = first.memory;
    decoder_memory = second.memory;
    encoder_small = first-opens.small;
    decoder_small = second-opens.small;
    encoder_done = first-opens.done;
    decoder_done = second-opens.done;
    encoder_is = refl;
    decoder_is = refl;
    limits = in_order;
  }

  same : events_of t es ≡ events ends (calls_of t cs)
  unfolding encoder_table decoder_table
  same =
      same-events t no_encoder no_decoder es R cs [] S ends
      (record { whole = refl; encoder = follows-first encoder_side t no_encoder _ _ _ refl; decoder = follows-first decoder_side t no_decoder _ _ _ refl })

  table-served : Served (events_of t es)
  table-served =
      subst Served (sym same) (link-claim.served limits ends opened (calls_of t cs) (calls-bytes t cs b) (subst Rules same (R.tables t)))

  block-served : (xs ys : List TableEvent) (n s part : ℕ) (bytes out : List ℕ) (r : Result)
      → es ≡ xs ++ (TableEvent.of_table t (by_decoder n (calls.DecoderCall.block s part bytes out) r) ∷ ys)
      → (w : Written) × (at n (written_in (events_of t xs)) ≡ some w) × ServedBlock (events_of t xs) w r
  block-served xs ys n s part bytes out r q =
      let around = ap (events_of t) q ∙ events-around t xs _ ys in
      let u = (R.tables t).unchanged (events_of t xs) (events_of t ys) n s part bytes out r around in
      (u.0, u.1, table-served.blocks (events_of t xs) (events_of t ys) n s part bytes out r around u.0 u.1)

pub tables-claim : TablesClaim
tables-claim = record {
  served = λ S cs b R. record {
    tables = table-served S cs b R;
    blocks = λ xs ys t. block-served S cs b R t xs ys;
  };
}
