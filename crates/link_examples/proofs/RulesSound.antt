-- A list of events on bytes that passes the test of RulesCheck keeps the rules for the link; with "ever" read as "so far" likewise.
-- By induction over the events before the one that a rule speaks of; then each test is read as the fact that it tests.
use mathlib.Core.Path.{◌≡◌, refl, ap₂, subst, sym}
use mathlib.Core.Logic.{◌⊎◌, inl, inr, ⊎_elim}
use Prim.Native.Nat.{ℕ, ◌≤◌}
use mathlib.Core.Bool.{Bool, true, false, not, ◌&&◌, ◌||◌}
use mathlib.Core.Option.{some}
use mathlib.Core.List.{List, [], ◌∷◌, ◌++◌, append-nil, append_assoc, Memᴰ}
use lib.ListN.{length}
use lib.Dec.{eqb, leb}
use borrow.Author.Tests.{eqb-true, eq-eqb, leb-true, not-true}
use Rattle.memory.specs.Compare.{same}
use Rattle.memory.proofs.Order.{not-both}
use Rattle.memory.proofs.Sameness.{same-eq}
use Rattle.model.specs.Parts.{Closing, over, ended}
use Rattle.model.specs.Events.{at}
use Rattle.model_laws.proofs.Marks.{and_both, or-either}
use Rattle.reply.specs.Result.{Result}
use Rattle.link.specs.Calls.{DecoderCall}
use Rattle.link.specs.Calls as calls
use Rattle.link.specs.Claims.{Event, by_encoder, by_decoder, Written, written_in, Accepted, Rules}
use Rattle.link_examples.specs.Ever.{RulesSoFar}
use Rattle.link_examples.proofs.ListTests.{any, all_at, passes, passes-some, any-member, member-any, all_at-place}
use Rattle.link_examples.proofs.RulesCheck.{begins, is_accepted, is_done, is_reset, past, as_written, other_or_accepted, trailer_or_accepted, before_closing, keeps_event, keeps_from, keeps, keeps_so_far}

-- ---- what the tests say
begins-sound : (s l : List ℕ) → begins s l ≡ true → (rest : List ℕ) × (l ≡ s ++ rest)
begins-sound [] l e = (l, refl)
begins-sound (x ∷ s) [] e = not-both false e refl
begins-sound (x ∷ s) (y ∷ l) e =
    let h = and_both (eqb y x) (begins s l) e in
    let r = begins-sound s l h.1 in
    (r.0, ap₂ ◌∷◌ (eqb-true y x h.0) r.1)

accepted-call : (n : ℕ) (c : DecoderCall) (r : Result) (xs : List Event) → Memᴰ (by_decoder n c r) xs → is_accepted c r ≡ true → Accepted n xs
accepted-call n (calls.DecoderCall.read s) r xs m e = not-both false e refl
accepted-call n (calls.DecoderCall.block stream part s out) r xs m e =
    record { stream = stream; part = part; bytes = s; output = out; result = r; done = eqb-true r.answer.number 0 e; when = m }
accepted-call n (calls.DecoderCall.close k stream) r xs m e = not-both false e refl
accepted-call n (calls.DecoderCall.collect out) r xs m e = not-both false e refl
accepted-call n (calls.DecoderCall.hold index) r xs m e = not-both false e refl

done-accepted : (n : ℕ) (e : Event) (xs : List Event) → Memᴰ e xs → is_done n e ≡ true → Accepted n xs
done-accepted n (by_encoder c r) xs m e = not-both false e refl
done-accepted n (by_decoder k c r) xs m e =
    let h = and_both (eqb k n) (is_accepted c r) e in subst (λ j. Accepted j xs) (eqb-true k n h.0) (accepted-call k c r xs m h.1)
done-accepted n (Event.reset stream) xs m e = not-both false e refl

accepted-sound : (n : ℕ) (xs : List Event) → any (is_done n) xs ≡ true → Accepted n xs
accepted-sound n xs e = let r = any-member (is_done n) xs e in done-accepted n r.0 xs r.1 r.2

pub accepted-complete : (n : ℕ) (xs : List Event) → Accepted n xs → any (is_done n) xs ≡ true
accepted-complete n xs A =
    member-any (is_done n) xs (by_decoder n (calls.DecoderCall.block A.stream A.part A.bytes A.output) A.result) A.when
    (and-true (eqb n n) (eqb A.result.answer.number 0) (eq-eqb n n refl) (eq-eqb A.result.answer.number 0 A.done))
  where
    and-true : (a b : Bool) → a ≡ true → b ≡ true → a && b ≡ true
    and-true true b d e = e
    and-true false b d e = not-both false d refl

reset-member : (t : ℕ) (e : Event) (xs : List Event) → Memᴰ e xs → is_reset t e ≡ true → Memᴰ (Event.reset t) xs
reset-member t (by_encoder c r) xs m e = not-both false e refl
reset-member t (by_decoder n c r) xs m e = not-both false e refl
reset-member t (Event.reset stream) xs m e = subst (λ j. Memᴰ (Event.reset j) xs) (sym (eqb-true t stream e)) m

reset-sound : (t : ℕ) (xs : List Event) → any (is_reset t) xs ≡ true → Memᴰ (Event.reset t) xs
reset-sound t xs e = let r = any-member (is_reset t) xs e in reset-member t r.0 xs r.1 r.2

pub reset-complete : (t : ℕ) (xs : List Event) → Memᴰ (Event.reset t) xs → any (is_reset t) xs ≡ true
reset-complete t xs m = member-any (is_reset t) xs (Event.reset t) m (eq-eqb t t refl)

-- ---- each event of a list that passes, passes
event-keeps : (ever : List Event → List Written) (before xs ys : List Event) (e : Event) → keeps_from ever before (xs ++ (e ∷ ys)) ≡ true
    → keeps_event (ever (before ++ xs)) (past (before ++ xs)) e ≡ true
event-keeps ever before [] ys e k =
    rw append-nil (and_both (keeps_event (ever before) (past before) e) (keeps_from ever (before ++ (e ∷ [])) ys) k).0
event-keeps ever before (x ∷ xs) ys e k =
    rw append_assoc at (event-keeps ever (before ++ (x ∷ [])) xs ys e
    (and_both (keeps_event (ever before) (past before) x) (keeps_from ever (before ++ (x ∷ [])) (xs ++ (e ∷ ys))) k).1)

-- a block that passes, and is of the stream, was answered "done"
other-sound : (xs : List Event) (stream n : ℕ) (w : Written) → other_or_accepted (past xs) stream n w ≡ true → w.stream ≡ stream → Accepted n xs
unfolding past
other-sound xs stream n w t e =
    ⊎_elim (λ u. not-both (eqb w.stream stream) (eq-eqb w.stream stream e) (not-true (eqb w.stream stream) u)) (λ u. accepted-sound n xs u)
    (or-either (not (eqb w.stream stream)) (any (is_done n) xs) t)

trailer-sound : (xs : List Event) (stream n : ℕ) (w : Written) → trailer_or_accepted (past xs) stream n w ≡ true → w.stream ≡ stream → w.part ≡ 0 → Accepted n xs
trailer-sound xs stream n w t e z =
    ⊎_elim (λ u. not-both (eqb w.part 0) (eq-eqb w.part 0 z) (not-true (eqb w.part 0) u)) (λ u. other-sound xs stream n w u e)
    (or-either (not (eqb w.part 0)) (other_or_accepted (past xs) stream n w) t)

module _ (es : List Event) (ever : List Event → List Written) (k : keeps_from ever [] es ≡ true) where
  at-event : (xs ys : List Event) (e : Event) → es ≡ xs ++ (e ∷ ys) → keeps_event (ever xs) (past xs) e ≡ true
  at-event xs ys e p = event-keeps ever [] xs ys e (subst (λ (l : List Event). keeps_from ever [] l ≡ true) p k)

  module _ (xs ys : List Event) (n stream part : ℕ) (s out : List ℕ) (r : Result) (p : es ≡ xs ++ (by_decoder n (calls.DecoderCall.block stream part s out) r ∷ ys)) where
    -- what the test says of an offered block
    offer-keeps : (passes (as_written stream part s out) (at n (written_in xs)) ≡ true) × (not (any (is_done n) xs) ≡ true)
        × (not (eqb part 1) || all_at (trailer_or_accepted (past xs) stream) (ever xs) ≡ true) × (not (any (is_reset stream) xs) ≡ true)
    unfolding past
    offer-keeps =
        let W = passes (as_written stream part s out) (at n (written_in xs)) in
        let N = not (any (is_done n) xs) in
        let T = not (eqb part 1) || all_at (trailer_or_accepted (past xs) stream) (ever xs) in
        let h = and_both (W && N && T) (not (any (is_reset stream) xs)) (at-event xs ys (by_decoder n (calls.DecoderCall.block stream part s out) r) p) in
        let g = and_both (W && N) T h.0 in
        let f = and_both W N g.0 in
        (f.0, f.1, g.1, h.1)

    unchanged : (w : Written) × (at n (written_in xs) ≡ some w)
        × (w.stream ≡ stream) × (w.part ≡ part) × (w.bytes ≡ s) × (length w.list ≤ length out)
    unchanged =
        let q = passes-some (as_written stream part s out) (at n (written_in xs)) offer-keeps.0 in
        let w = q.0 in
        let S = eqb w.stream stream in
        let P = eqb w.part part in
        let B = same w.bytes s in
        let h = and_both (S && P && B) (leb (length w.list) (length out)) q.2 in
        let g = and_both (S && P) B h.0 in
        let f = and_both S P g.0 in (
          w,
          q.1,
          eqb-true w.stream stream f.0,
          eqb-true w.part part f.1,
          same-eq w.bytes s g.1,
          leb-true (length w.list) (length out) h.1,
        )

    once : Accepted n xs → ⊥
    once A = not-both (any (is_done n) xs) (accepted-complete n xs A) (not-true (any (is_done n) xs) offer-keeps.1)

    resets : Memᴰ (Event.reset stream) xs → ⊥
    resets m = not-both (any (is_reset stream) xs) (reset-complete stream xs m) (not-true (any (is_reset stream) xs) offer-keeps.3)

  trailers : (xs ys : List Event) (n stream : ℕ) (s out : List ℕ) (r : Result) → es ≡ xs ++ (by_decoder n (calls.DecoderCall.block stream 1 s out) r ∷ ys)
      → (k : ℕ) (w : Written) → at k (ever xs) ≡ some w → w.stream ≡ stream → w.part ≡ 0 → Accepted k xs
  trailers xs ys n stream s out r p k w q =
      trailer-sound xs stream k w (all_at-place (trailer_or_accepted (past xs) stream) (ever xs) (offer-keeps xs ys n stream 1 s out r p).2 k w q)

  -- parts closed: every block ever written passes, or the stream was reset
  closes : (k : Closing) (xs ys : List Event) (n stream : ℕ) (r : Result) → es ≡ xs ++ (by_decoder n (calls.DecoderCall.close k stream) r ∷ ys)
      → r.answer.number ≡ 0
      → ((j : ℕ) (w : Written) → at j (ever xs) ≡ some w → before_closing k (past xs) stream j w ≡ true) ⊎ Memᴰ (Event.reset stream) xs
  unfolding past
  closes k xs ys n stream r p z =
      ⊎_elim (λ t. not-both (eqb r.answer.number 0) (eq-eqb r.answer.number 0 z) (not-true (eqb r.answer.number 0) t)) all-or-reset
      (or-either (not (eqb r.answer.number 0)) (all_at (before_closing k (past xs) stream) (ever xs) || any (is_reset stream) xs)
      (at-event xs ys (by_decoder n (calls.DecoderCall.close k stream) r) p))
    where
      all-or-reset : (all_at (before_closing k (past xs) stream) (ever xs) || any (is_reset stream) xs) ≡ true
          → ((j : ℕ) (w : Written) → at j (ever xs) ≡ some w → before_closing k (past xs) stream j w ≡ true) ⊎ Memᴰ (Event.reset stream) xs
      all-or-reset t =
          ⊎_elim (λ u. inl (all_at-place (before_closing k (past xs) stream) (ever xs) u)) (λ u. inr (reset-sound stream xs u))
          (or-either (all_at (before_closing k (past xs) stream) (ever xs)) (any (is_reset stream) xs) t)

  overs : (xs ys : List Event) (n stream : ℕ) (r : Result) → es ≡ xs ++ (by_decoder n (calls.DecoderCall.close over stream) r ∷ ys) → r.answer.number ≡ 0
      → ((k : ℕ) (w : Written) → at k (ever xs) ≡ some w → w.stream ≡ stream → w.part ≡ 0 → Accepted k xs) ⊎ Memᴰ (Event.reset stream) xs
  overs xs ys n stream r p z = ⊎_elim (λ f. inl (λ k w q. trailer-sound xs stream k w (f k w q))) inr (closes over xs ys n stream r p z)

  ends : (xs ys : List Event) (n stream : ℕ) (r : Result) → es ≡ xs ++ (by_decoder n (calls.DecoderCall.close ended stream) r ∷ ys) → r.answer.number ≡ 0
      → ((k : ℕ) (w : Written) → at k (ever xs) ≡ some w → w.stream ≡ stream → Accepted k xs) ⊎ Memᴰ (Event.reset stream) xs
  ends xs ys n stream r p z = ⊎_elim (λ f. inl (λ k w q. other-sound xs stream k w (f k w q))) inr (closes ended xs ys n stream r p z)

-- ---- judged by the blocks ever written, and by those written so far
pub keeps-sound : (es : List Event) → keeps es ≡ true → Rules es
unfolding keeps past
keeps-sound es k =
    let ever : List Event → List Written = λ xs. written_in es in
    record {
      management = λ xs ys n s r p. begins-sound s (past xs).management (at-event es ever k xs ys (by_decoder n (calls.DecoderCall.read s) r) p);
      acknowledgements = λ xs ys s r p.
          begins-sound s (past xs).acknowledgements (at-event es ever k xs ys (by_encoder (calls.EncoderCall.acknowledge s) r) p);
      unchanged = unchanged es ever k;
      once = once es ever k;
      trailers = trailers es ever k;
      overs = overs es ever k;
      ends = ends es ever k;
      resets = resets es ever k;
    }

pub so-far-sound : (es : List Event) → keeps_so_far es ≡ true → RulesSoFar es
unfolding keeps_so_far past
so-far-sound es k =
    let ever : List Event → List Written = λ xs. written_in xs in
    record {
      management = λ xs ys n s r p. begins-sound s (past xs).management (at-event es ever k xs ys (by_decoder n (calls.DecoderCall.read s) r) p);
      acknowledgements = λ xs ys s r p.
          begins-sound s (past xs).acknowledgements (at-event es ever k xs ys (by_encoder (calls.EncoderCall.acknowledge s) r) p);
      unchanged = unchanged es ever k;
      once = once es ever k;
      trailers = trailers es ever k;
      overs = overs es ever k;
      ends = ends es ever k;
      resets = resets es ever k;
    }
