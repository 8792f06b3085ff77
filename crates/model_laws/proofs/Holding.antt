-- What the hold enquiry tells: how many named parts are unfinished, which is 0 exactly where the entry is ready, and the lowest stream having one.
-- By induction over the count of streams.
use mathlib.Core.Path.{◌≡◌, refl, sym, ap, ◌∙◌}
use mathlib.Core.Logic.{◌↔◌, ◌⊎◌, inl, inr, ⊎_elim}
use Prim.Native.Nat.{ℕ, zero, suc, ◌+◌, ◌≤◌, ◌<◌}
use native.Mathlib.Omega.{arith}
use mathlib.Core.Bool.{Bool, true, false, ◌||◌}
use mathlib.Core.Option.{Option, none, some}
use lib.Dec.{eqb, leb}
use borrow.Author.Tests.{le-leb, eqb-true, eqb-false, eq-eqb}
use Rattle.memory.proofs.Order.{split, either, pick-both, need-true, not-both}
use Rattle.integers.specs.Integer.{largest}
use Rattle.model.specs.Table.{look}
use Rattle.model.specs.Parts.{Part, nontrailer, trailer, Marks, Delete, is_open, open_below, lowest_open, streams, is_ready}
use Rattle.model.specs.Outcome.{Outcome, refuse}
use Rattle.model.specs.Decoder.{held_index, Decoder, delete_of, is_some, ready_delete, ready, hold_of, enquire_hold, FormsDecoder}
use Rattle.model.specs.DecoderCalls.{hold, decoder_call}
use Rattle.model_laws.specs.Promises.{HoldTells}
use Rattle.model_laws.proofs.Tables.{nope}
use Rattle.model_laws.proofs.DecoderWays.{hold-ways}
use Rattle.model_laws.proofs.Marks.{closed-marked, open-both}
use Rattle.model_laws.proofs.Forms.{delete-held}
use Rattle.model_laws.proofs.Collecting.{held-index}

neither : (a b : Bool) → (a || b) ≡ false → (a ≡ false) × (b ≡ false)
neither true b h = not-both true refl h
neither false b h = (refl, h)

module _ (marks : Marks) (d : Delete) where
  abbrev OpenAt : ℕ → ℕ → ℕ → Type 0
  OpenAt s n r = (p : Part) × (r < s + n) × (is_open marks d r p ≡ true)

  -- r is the lowest stream from s on with an open part, or s + n
  record LowestOpen (s n r : ℕ) : Type 0 where
    before : (t : ℕ) (p : Part) → s ≤ t → t < r → is_open marks d t p ≡ false
    there : (r ≡ s + n) ⊎ OpenAt s n r

  first-open : (n s : ℕ) → (is_open marks d s nontrailer || is_open marks d s trailer) ≡ true → LowestOpen s (suc n) s
  first-open n s e = record {
    before = λ t p j k. absurd (omega arith);
    there = either (is_open marks d s nontrailer) (λ h. inr (nontrailer, (omega arith), h))
        (λ h. inr (trailer, (omega arith), rw h at e));
  }

  later-open : (n s r : ℕ) → (is_open marks d s nontrailer || is_open marks d s trailer) ≡ false → LowestOpen (s + 1) n r → LowestOpen s (suc n) r
  later-open n s r e l = record {
    before = λ t p j k. split s t (λ h. l.before t p (omega arith) k) (λ h. let same : t ≡ s = omega arith in rw same (at p));
    there = ⊎_elim (λ (h : r ≡ s + 1 + n). inl (omega arith))
        (λ (h : OpenAt (s + 1) n r). let k = h.1 in inr (h.0, (omega arith), h.2)) l.there;
  }
    where
      at : (p : Part) → is_open marks d s p ≡ false
      at nontrailer = (neither (is_open marks d s nontrailer) (is_open marks d s trailer) e).0
      at trailer = (neither (is_open marks d s nontrailer) (is_open marks d s trailer) e).1

  lowest-open : (n s : ℕ) → LowestOpen s n (lowest_open marks d s n)
  unfolding lowest_open
  lowest-open zero s = record { before = λ t p j k. absurd (omega arith); there = inl (omega arith) }
  lowest-open (suc n) s =
      pick-both (LowestOpen s (suc n)) (is_open marks d s nontrailer || is_open marks d s trailer) s (lowest_open marks d (s + 1) n)
      (first-open n s)
      (λ e. later-open n s (lowest_open marks d (s + 1) n) e (lowest-open n (s + 1)))

module _ (D : Decoder) (F : FormsDecoder D) (i : ℕ) (d : Delete) (e : delete_of D i ≡ some d) where
  told_of : decoder_call D (hold i) ≡ hold_of D (some d)
  unfolding decoder_call enquire_hold
  told_of =
      let h = delete-held D F i d e in
      let f = held-index D F i h.0 h.1 in
      need-true (leb 62 i) (refuse D 5) _ (le-leb 62 i f.0)
      ∙ need-true (leb i largest) (refuse D 5) _ (le-leb i largest f.1)
      ∙ need-true (is_some (look held_index i D.entries)) (refuse D 8) _ (ap is_some h.1)
      ∙ ap (hold_of D) e

  none_ready : (open_below D.finished d streams ≡ 0) ↔ (ready D i ≡ true)
  unfolding ready ready_delete is_ready
  none_ready =
      let r : ready D i ≡ eqb (open_below D.finished d streams) 0 = ap (ready_delete D.finished) e in
      ((λ z. r ∙ eq-eqb (open_below D.finished d streams) 0 z), (λ t. eqb-true (open_below D.finished d streams) 0 (sym r ∙ t)))

  pub hold_tells : HoldTells D i d
  unfolding hold_of
  hold_tells =
      let l = lowest-open D.finished d streams 0 in
      record {
        count = open_below D.finished d streams;
        lowest = lowest_open D.finished d 0 streams;
        told = told_of;
        none_when_ready = none_ready;
        before = λ s p k. closed-marked D.finished d s p (l.before s p (omega arith) k);
        there = ⊎_elim inl
            (λ (h : OpenAt D.finished d 0 streams (lowest_open D.finished d 0 streams)).
            let b = open-both D.finished d (lowest_open D.finished d 0 streams) h.0 h.2 in inr (h.0, h.1, b.0, b.1)) l.there;
      }

-- ---- the enquiry is answered "done" and first tells 0 exactly where the entry is ready
module _ (D : Decoder) (F : FormsDecoder D) (i : ℕ) where
  abbrev TellsNone : Outcome Decoder → Type 0
  TellsNone o = (o.answer.number ≡ 0) × (o.answer.first ≡ 0)

  pub told-ready : TellsNone (decoder_call D (hold i)) → ready D i ≡ true
  unfolding decoder_call ready ready_delete is_ready
  told-ready =
      hold-ways (λ o. TellsNone o → ready D i ≡ true) D (λ a z t. absurd (eqb-false a.number 0 z t.0)) i
      (λ d e t. ap (ready_delete D.finished) e ∙ eq-eqb (open_below D.finished d streams) 0 t.1)

  pub ready-told : ready D i ≡ true → TellsNone (decoder_call D (hold i))
  unfolding ready ready_delete
  ready-told r = go (delete_of D i) refl r
    where
      go : (o : Option Delete) → delete_of D i ≡ o → ready_delete D.finished o ≡ true → TellsNone (decoder_call D (hold i))
      go none e r = nope (cc)
      go (some d) e t =
          let T = hold_tells D F i d e in
          let n = T.none_when_ready.1 (ap (ready_delete D.finished) e ∙ t) in
          (ap (λ (o : Outcome Decoder). o.answer.number) T.told, ap (λ (o : Outcome Decoder). o.answer.first) T.told ∙ n)
