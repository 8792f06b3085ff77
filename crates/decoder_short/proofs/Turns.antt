-- Fields taken one behind the other: put together, from one, and kept where only bytes behind them change. By induction over the representations.
use Prim.Native.Nat.{ℕ, ◌+◌, ◌≤◌}
use mathlib.Core.Path.{◌≡◌, refl, sym, ap, ap₂, ◌∙◌}
use native.Mathlib.Omega.{arith}
use mathlib.Core.List.{List, [], ◌∷◌, ◌++◌, append_assoc, append-nil}
use lib.ListN.{length, take, length-append}
use Rattle.memory.specs.Bytes.{part, overlay}
use Rattle.memory.proofs.Overlay.{length-overlay, take-overlay}
use Rattle.memory.proofs.Places.{part-split, part-overlay}
use Rattle.blocks.specs.declared.read.RepresentationPlace.{RepresentationPlace}
use Rattle.blocks.proofs.Bounds.{representation-good}
use Rattle.decoder_survey.specs.Measure.{field_at, field_bytes}
use Rattle.decoder_literals.specs.Taking.{Took}
use Rattle.decoder_short.specs.Pass.{FieldsTo, fields_bytes, TookAll}

-- ---- the bytes at the front

-- what is stored from a place on stands behind what was before it
pub front : (l : List ℕ) (i : ℕ) (vs : List ℕ) → i + length vs ≤ length l → take (i + length vs) (overlay l i vs) ≡ take i l ++ vs
front l i vs h =
    let e : 0 + i ≡ i = omega arith in
    part-split (overlay l i vs) 0 i (length vs)
    ∙ ap₂ (λ (x y : List ℕ). x ++ y) (take-overlay l i vs i (omega arith)) (ap (λ (k : ℕ). part (overlay l i vs) k (length vs)) e ∙ part-overlay l i vs h)

-- ---- representations

module _ (m s : List ℕ) where
  join : (at : ℕ) (ps : List RepresentationPlace) (middle : ℕ) (qs : List RepresentationPlace) (next : ℕ)
      → FieldsTo m s at ps middle → FieldsTo m s middle qs next → FieldsTo m s at (ps ++ qs) next
  join at [] middle qs next e f = rw e f
  join at (p ∷ ps) middle qs next e f = (e.0, e.1, e.2, join e.0 ps middle qs next e.3 f)

  join-bytes : (ps qs : List RepresentationPlace) → fields_bytes m s (ps ++ qs) ≡ fields_bytes m s ps ++ fields_bytes m s qs
  unfolding fields_bytes
  join-bytes [] qs = refl
  join-bytes (p ∷ ps) qs =
      ap (λ (b : List ℕ). field_bytes (field_at m s p) ++ b) (join-bytes ps qs) ∙ sym (append_assoc (field_bytes (field_at m s p)) (fields_bytes m s ps) (fields_bytes m s qs))

  one-bytes : (p : RepresentationPlace) → fields_bytes m s (p ∷ []) ≡ field_bytes (field_at m s p)
  unfolding fields_bytes
  one-bytes p = append-nil (field_bytes (field_at m s p))

  -- each takes a byte at least
  forward : (at : ℕ) (ps : List RepresentationPlace) (next : ℕ) → FieldsTo m s at ps next → at ≤ next
  forward at [] next e = omega (arith, e)
  forward at (p ∷ ps) next e = omega (arith, (representation-good s at p e.0 e.1).past, forward e.0 ps next e.3)

  -- ---- taken and written

  pub all-forward : (at : ℕ) (lent out : List ℕ) (to next after : ℕ) → TookAll m s at lent out to next after → at ≤ next
  all-forward at lent out to next after T = forward at T.places next T.fields

  pub all_none : (at : ℕ) (out : List ℕ) (to : ℕ) → at ≤ length s → to ≤ length out → TookAll m s at out out to at to
  unfolding fields_bytes
  all_none at out to h k =
      record { places = []; fields = refl; inside = h; ends = omega arith; fits = k; same = refl; written = sym (append-nil (take to out)) }

  -- one
  pub all_one : (at : ℕ) (lent out : List ℕ) (to next after : ℕ) → Took m s at lent out to next after → TookAll m s at lent out to next after
  all_one at lent out to next after T =
      let F : List ℕ = field_bytes (field_at m s T.place) in
      let n : length out ≡ length lent = ap length T.written ∙ length-overlay lent to F in
      record {
        places = T.place ∷ [];
        fields = (next, T.reads, T.meant, refl);
        inside = (representation-good s at T.place next T.reads).inside;
        ends = T.ends ∙ ap (λ (b : List ℕ). to + length b) (sym (one-bytes T.place));
        fits = omega (arith, T.fits, n);
        same = n;
        written =
            ap₂ take T.ends T.written ∙ front lent to F (omega (arith, T.fits, T.ends))
            ∙ ap (λ (b : List ℕ). take to lent ++ b) (sym (one-bytes T.place));
      }

  -- and then others
  pub all_more : (at : ℕ) (lent out : List ℕ) (to middle between : ℕ) → TookAll m s at lent out to middle between
      → (out' : List ℕ) (next after : ℕ) → TookAll m s middle out out' between next after → TookAll m s at lent out' to next after
  all_more at lent out to middle between T out' next after U =
      let b : fields_bytes m s (T.places ++ U.places) ≡ fields_bytes m s T.places ++ fields_bytes m s U.places = join-bytes T.places U.places in
      record {
        places = T.places ++ U.places;
        fields = join at T.places middle U.places next T.fields U.fields;
        inside = U.inside;
        ends = omega (arith, T.ends, U.ends, ap length b, length-append (fields_bytes m s T.places) (fields_bytes m s U.places));
        fits = U.fits;
        same = U.same ∙ T.same;
        written =
            U.written ∙ ap (λ (x : List ℕ). x ++ fields_bytes m s U.places) T.written
            ∙ append_assoc (take to lent) (fields_bytes m s T.places) (fields_bytes m s U.places)
            ∙ ap (λ (x : List ℕ). take to lent ++ x) (sym b);
      }

  -- where the list changes only behind them
  pub all-kept : (at : ℕ) (lent out : List ℕ) (to next after : ℕ) → TookAll m s at lent out to next after
      → (out' : List ℕ) → length out' ≡ length out → take after out' ≡ take after out → TookAll m s at lent out' to next after
  all-kept at lent out to next after T out' n e = record {
    places = T.places;
    fields = T.fields;
    inside = T.inside;
    ends = T.ends;
    fits = omega (arith, T.fits, n);
    same = n ∙ T.same;
    written = e ∙ T.written;
  }

  pub all-turn : (at : ℕ) (lent out : List ℕ) (to middle between : ℕ) → TookAll m s at lent out to middle between
      → (out' : List ℕ) (next after : ℕ) → Took m s middle out out' between next after → TookAll m s at lent out' to next after
  all-turn at lent out to middle between T out' next after U = all_more at lent out to middle between T out' next after (all_one middle out out' between next after U)
