-- Marks of finished parts, for the order of reports. A call only ever adds marks, and which it adds is a matter of the call and its answer: so the order
-- in which two calls add theirs does not count, and a call for another stream leaves a stream's marks alone.
-- 64 streams share a word of marks, so memory is no proof of this: marks laid over memory twice are the second ones.
use mathlib.Core.Path.{◌≡◌, refl, sym, ap, fun_ext, ◌∙◌}
use Prim.Native.Nat.{ℕ}
use native.Mathlib.Omega.{arith}
use mathlib.Core.Bool.{Bool, true, false, ◌||◌}
use mathlib.Core.Option.{Option, none, some}
use mathlib.Core.List.{List}
use lib.Dec.{eqb}
use borrow.Author.Tests.{ne_eqb}
use Rattle.memory.specs.Choice.{pick}
use Rattle.memory.specs.Bytes.{overlay}
use Rattle.memory.proofs.Order.{pick-false}
use Rattle.memory.proofs.Overlay.{overlay-overlay}
use Rattle.integers.specs.Answers.{Answer}
use Rattle.model.specs.Parts.{Part, nontrailer, trailer, part_of, same_part, Marks, no_marks, mark, mark_both, block_marks, Closing, over, ended, closed}
use Rattle.model.specs.Decoder.{Decoder, with_finished}
use Rattle.state.specs.Layout.{deletes_place}
use Rattle.state.specs.Front.{Front, overlay_front}
use Rattle.state.specs.DecoderState.{deletes_bytes, decoder_front, overlay_decoder}
use Rattle.state_laws.specs.Laws.{FitsDecoder}
use Rattle.state_laws.proofs.FrontOverlay.{front-beyond}
use Rattle.state_laws.proofs.HeldRows.{fits-front}
use Rattle.table_laws.proofs.Fronts.{over-front}
use Rattle.reply.specs.Result.{Result}
use Rattle.link.specs.Calls.{DecoderCall}
use Rattle.link.specs.Calls as calls
use Rattle.link.specs.Histories.{finishes, finished_by}

-- ---- over memory: the second marks are laid where the first ones were, and the rest of the state is the same
pub marks-over : (D : Decoder) (f g : Marks) → FitsDecoder (with_finished D g) → (m : List ℕ)
    → overlay_decoder (with_finished D g) (overlay_decoder (with_finished D f) m) ≡ overlay_decoder (with_finished D g) m
unfolding overlay_decoder decoder_front
marks-over D f g fits m =
    let F : Front = decoder_front (with_finished D f) in
    let G : Front = decoder_front (with_finished D g) in
    let bytes : List ℕ = deletes_bytes D.deletes in
    let fine = fits-front (with_finished D g) fits in
    ap (λ (l : List ℕ). overlay l deletes_place bytes) (front-beyond G (overlay_front F m) deletes_place bytes (omega arith) fine)
    ∙ overlay-overlay (overlay_front G (overlay_front F m)) deletes_place bytes bytes refl
    ∙ ap (λ (l : List ℕ). overlay l deletes_place bytes) (over-front F G m fine refl refl)

-- ---- what a call adds: what it finishes where nothing is finished yet
abbrev added : DecoderCall → Result → Marks
added c r = finished_by no_marks c r

either-set : (b x : Bool) → pick b true x ≡ (pick b true false || x)
either-set true x = refl
either-set false x = refl

one_set : (b y x : Bool) → pick b (y || x) x ≡ (pick b (y || false) false || x)
one_set true true x = refl
one_set true false x = refl
one_set false y x = refl

block-adds : (o : Option Part) (b : Bool) (s : ℕ) (f : Marks) (t : ℕ) (q : Part) → pick b (finishes o s f) f t q ≡ (pick b (finishes o s no_marks) no_marks t q || f t q)
unfolding finishes block_marks mark_both
block-adds o false s f t q = refl
block-adds none true s f t q = refl
block-adds (some nontrailer) true s f t q = refl
block-adds (some trailer) true s f t q = either-set (eqb s t) (f t q)

close-adds : (k : Closing) (b : Bool) (s : ℕ) (f : Marks) (t : ℕ) (q : Part) → pick b (closed k s f) f t q ≡ (pick b (closed k s no_marks) no_marks t q || f t q)
unfolding mark mark_both
close-adds k false s f t q = refl
close-adds over true s f t q = one_set (eqb s t) (same_part nontrailer q) (f t q)
close-adds ended true s f t q = either-set (eqb s t) (f t q)

adds : (f : Marks) (c : DecoderCall) (r : Result) (t : ℕ) (q : Part) → finished_by f c r t q ≡ (added c r t q || f t q)
unfolding finished_by
adds f (calls.DecoderCall.read s) r t q = refl
adds f (calls.DecoderCall.block s part b out) r t q = block-adds (part_of part) (eqb r.answer.number 0) s f t q
adds f (calls.DecoderCall.close k s) r t q = close-adds k (eqb r.answer.number 0) s f t q
adds f (calls.DecoderCall.collect out) r t q = refl
adds f (calls.DecoderCall.hold index) r t q = refl

-- ---- either order
or_swap : (a b x : Bool) → (b || (a || x)) ≡ (a || (b || x))
or_swap true true x = refl
or_swap true false x = refl
or_swap false b x = refl

adds-two : (f : Marks) (c : DecoderCall) (r : Result) (d : DecoderCall) (q : Result) (t : ℕ) (p : Part)
    → finished_by (finished_by f c r) d q t p ≡ (added d q t p || (added c r t p || f t p))
adds-two f c r d q t p = adds (finished_by f c r) d q t p ∙ ap (λ (b : Bool). added d q t p || b) (adds f c r t p)

pub marks-swap : (f : Marks) (c : DecoderCall) (r : Result) (d : DecoderCall) (q : Result)
    → finished_by (finished_by f c r) d q ≡ finished_by (finished_by f d q) c r
marks-swap f c r d q =
    fun_ext (λ t. fun_ext (λ p. adds-two f c r d q t p ∙ or_swap (added c r t p) (added d q t p) (f t p) ∙ sym (adds-two f d q c r t p)))

-- ---- an answer alone says which
pub marks-answer : (f : Marks) (c : DecoderCall) (r q : Result) → r.answer ≡ q.answer → finished_by f c r ≡ finished_by f c q
unfolding finished_by
marks-answer f (calls.DecoderCall.read s) r q e = refl
marks-answer f (calls.DecoderCall.block s part b out) r q e =
    ap (λ (a : Answer). pick (eqb a.number 0) (finishes (part_of part) s f) f) e
marks-answer f (calls.DecoderCall.close k s) r q e = ap (λ (a : Answer). pick (eqb a.number 0) (closed k s f) f) e
marks-answer f (calls.DecoderCall.collect out) r q e = refl
marks-answer f (calls.DecoderCall.hold index) r q e = refl

-- ---- another stream's marks stay
module _ (f : Marks) (s t : ℕ) (other : s ≡ t → ⊥) (p : Part) where
  mark-other : (q : Part) → mark s q f t p ≡ f t p
  unfolding mark
  mark-other q = pick-false (eqb s t) _ _ (ne_eqb s t other)

  both-other : mark_both s f t p ≡ f t p
  unfolding mark_both
  both-other = pick-false (eqb s t) _ _ (ne_eqb s t other)

  finishes-other : (o : Option Part) → finishes o s f t p ≡ f t p
  unfolding finishes block_marks
  finishes-other none = refl
  finishes-other (some nontrailer) = refl
  finishes-other (some trailer) = both-other

  closed-other : (k : Closing) → closed k s f t p ≡ f t p
  closed-other over = mark-other nontrailer
  closed-other ended = both-other

  pub block-other : (part : ℕ) (b out : List ℕ) (r : Result) → finished_by f (calls.DecoderCall.block s part b out) r t p ≡ f t p
  unfolding finished_by
  block-other part b out r = go (eqb r.answer.number 0)
    where
      go : (b : Bool) → pick b (finishes (part_of part) s f) f t p ≡ f t p
      go true = finishes-other (part_of part)
      go false = refl

  pub close_other : (k : Closing) (r : Result) → finished_by f (calls.DecoderCall.close k s) r t p ≡ f t p
  unfolding finished_by
  close_other k r = go (eqb r.answer.number 0)
    where
      go : (b : Bool) → pick b (closed k s f) f t p ≡ f t p
      go true = closed-other k
      go false = refl
