-- Which values and places a stream list that was read can have: by cases along the equations of `ListLaws`.
use mathlib.Core.Path.{◌≡◌, refl, sym, ap, subst, ◌∙◌}
use Prim.Native.Nat.{ℕ, zero, suc, ◌+◌, ◌*◌, ◌≤◌, ◌<◌}
use native.Mathlib.Omega.{arith}
use native.Mathlib.Numerals.{sub-one}
use mathlib.Core.List.{List}
use lib.ListN.{length}
use Rattle.memory.proofs.Order.{split}
use Rattle.integers.specs.Integer.{read_int}
use Rattle.stream_lists.specs.StreamList.{read_delta, read_deltas, streams_from, list_of, read_list, Fits}
use Rattle.integers.specs.declared.number.StreamNumber.{StreamNumber}
use Rattle.stream_lists.specs.declared.stream_list.ListPlace.{ListPlace}
use Rattle.integers.proofs.Bounds.{int-good}
use Rattle.stream_lists.proofs.ListLaws.{delta-refused, delta-zero, delta-over, delta-stream, deltas-end, deltas-refused, deltas-more, streams-end, streams-more, list-refused, list-far, count-refused, list-many, list-bad, list-found}
use Rattle.std.specs.Prelude.{Result, Ok, Err}
use Rattle.integers.specs.Answers.{Read}
use Rattle.integers.specs.declared.answer.Refusal.{Refusal}
use Rattle.integers.specs.declared.integer.WireInt.{WireInt}

-- what a delta that was read is
pub record DeltaGood (s : List ℕ) (at last stream next : ℕ) : Type 0 where
  pub ascends : last < stream
  pub allowed : stream ≤ 4095
  pub past : at < next
  pub within : next ≤ length s
  pub close : next ≤ at + 5

-- what deltas that were read are
pub record DeltasGood (n : ℕ) (s : List ℕ) (at last next : ℕ) : Type 0 where
  pub past : at ≤ next
  pub within : at ≤ length s → next ≤ length s
  pub close : next ≤ at + 5 * n
  pub counted : length (streams_from n s at last) ≡ n
  pub fits : Fits last (streams_from n s at last)

-- what a list that was read is; its deltas can be read again
pub record ListGood (s : List ℕ) (at : ℕ) (p : ListPlace) (next : ℕ) : Type 0 where
  pub past : at < p.deltas
  pub order : p.deltas ≤ next
  pub within : next ≤ length s
  pub close : next ≤ at + 90
  pub near : p.horizon ≤ 4096
  pub few : p.count ≤ 16
  pub counted : length (list_of s p).streams ≡ p.count
  pub fits : Fits p.horizon (list_of s p).streams
  pub deltas : read_deltas p.count s p.deltas p.horizon ≡ Ok next

abbrev OfDelta : List ℕ → ℕ → ℕ → Read StreamNumber → Type 0
OfDelta s at last (Ok (x, next)) = DeltaGood s at last x.value next
OfDelta s at last (Err why) = Unit {0}

abbrev OfDeltas : ℕ → List ℕ → ℕ → ℕ → Result ℕ Refusal → Type 0
OfDeltas n s at last (Ok next) = DeltasGood n s at last next
OfDeltas n s at last (Err why) = Unit {0}

abbrev OfList : List ℕ → ℕ → Read ListPlace → Type 0
OfList s at (Ok (p, next)) = ListGood s at p next
OfList s at (Err why) = Unit {0}

module _ (s : List ℕ) (at last : ℕ) where
  of-delta : (r : Read WireInt) → r ≡ read_int 8 s at → OfDelta s at last (read_delta s at last)
  of-delta (Err why) e = rw (delta-refused s at last _ e why refl) tt
  of-delta (Ok (n, next)) e =
      let g = int-good 8 s at (omega arith) _ e n next refl in
      split 0 n.value
      (λ l. split 4095 (last + n.value)
      (λ m. rw (delta-over s at last _ e n next refl l m) tt)
      (λ m. rw (delta-stream s at last _ e n next refl l m) (record { ascends = omega arith; allowed = m; past = g.0; within = g.1; close = g.3 })))
      (λ l. rw (delta-zero s at last _ e n next refl l) tt)

  pub delta-good : (x : StreamNumber) (next : ℕ) → read_delta s at last ≡ Ok (x, next) → DeltaGood s at last x.value next
  delta-good x next d = subst (OfDelta s at last) d (of-delta (read_int 8 s at) refl)

module _ (s : List ℕ) where
  of-more : (n at last : ℕ) (r : Read StreamNumber) → r ≡ read_delta s at last
      → ((at last : ℕ) → OfDeltas n s at last (read_deltas n s at last)) → OfDeltas (suc n) s at last (read_deltas (suc n) s at last)
  of-more n at last (Err why) e ih = rw (deltas-refused s at last _ e (suc n) (omega arith) why refl) tt
  of-more n at last (Ok (x, after)) e ih =
      let g = delta-good s at last x after (sym e) in
      rw (deltas-more s at last _ e x after refl (suc n) (omega arith), sub-one) (grow (read_deltas n s after x.value) (ih after x.value))
    where
      grow : (z : Result ℕ Refusal) → OfDeltas n s after x.value z → OfDeltas (suc n) s at last z
      grow (Err why) h = tt
      grow (Ok next) h =
          let g = delta-good s at last x after (sym e) in
          let k = streams-more s at last _ e x after refl n in
          record {
            past = omega arith;
            within = λ l. h.within g.within;
            close = omega (arith, g.close, h.close);
            counted = ap length k ∙ ap suc h.counted;
            fits = rw k (g.ascends, g.allowed, h.fits);
          }

  of-deltas : (n at last : ℕ) → OfDeltas n s at last (read_deltas n s at last)
  of-deltas zero at last =
      rw (deltas-end s at last 0 (omega arith))
      (record { past = omega arith; within = λ l. l; close = omega arith; counted = ap length (streams-end s at last); fits = rw (streams-end s at last) tt })
  of-deltas (suc n) at last = of-more n at last (read_delta s at last) refl (of-deltas n)

  pub deltas-good : (n at last next : ℕ) → read_deltas n s at last ≡ Ok next → DeltasGood n s at last next
  deltas-good n at last next d = subst (OfDeltas n s at last) d (of-deltas n at last)

module _ (s : List ℕ) (at : ℕ) where
  of-list : (r : Read WireInt) → r ≡ read_int 8 s at → OfList s at (read_list s at)
  of-list (Err why) e = rw (list-refused s at _ e why refl) tt
  of-list (Ok (x, after)) e =
      split 4096 x.value (λ h. rw (list-far s at _ e x after refl h) tt) (λ h. counts h (read_int 8 s after) refl)
    where
      counts : x.value ≤ 4096 → (q : Read WireInt) → q ≡ read_int 8 s after → OfList s at (read_list s at)
      counts h (Err why) f = rw (count-refused s at _ e x after refl h _ f why refl) tt
      counts h (Ok (y, start)) f =
          split 16 y.value (λ k. rw (list-many s at _ e x after refl h _ f y start refl k) tt)
          (λ k. ends k (read_deltas y.value s start x.value) refl)
        where
          ends : y.value ≤ 16 → (z : Result ℕ Refusal) → z ≡ read_deltas y.value s start x.value → OfList s at (read_list s at)
          ends k (Err why) u = rw (list-bad s at _ e x after refl h _ f y start refl k _ u why refl) tt
          ends k (Ok next) u =
              let a = int-good 8 s at (omega arith) _ e x after refl in
              let b = int-good 8 s after (omega arith) _ f y start refl in
              let g = deltas-good s y.value start x.value next (sym u) in
              rw (list-found s at _ e x after refl h _ f y start refl k _ u next refl)
              (record {
                past = omega arith;
                order = g.past;
                within = g.within b.1;
                close = omega (arith, a.3, b.3, g.close, k);
                near = h;
                few = k;
                counted = g.counted;
                fits = g.fits;
                deltas = sym u;
              })

  pub list-good : (p : ListPlace) (next : ℕ) → read_list s at ≡ Ok (p, next) → ListGood s at p next
  list-good p next d = subst (OfList s at) d (of-list (read_int 8 s at) refl)
