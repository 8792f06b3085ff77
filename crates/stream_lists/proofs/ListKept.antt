-- An answer other than 2 does not change when bytes are added behind: of a delta, of deltas and of a list, link by link as in `Kept`.
-- So a list that was read is the same list in the longer bytes.
use mathlib.Core.Path.{◌≡◌, refl, sym, ap, ◌∙◌}
use Prim.Native.Nat.{ℕ, zero, suc}
use native.Mathlib.Omega.{arith}
use native.Mathlib.Numerals.{sub-one}
use mathlib.Core.List.{List, ◌∷◌, ◌++◌}
use lib.Dec.{leb}
use Rattle.integers.specs.Integer.{read_int}
use Rattle.stream_lists.specs.StreamList.{on_deltas, read_delta, read_deltas, streams_from, list_of, read_list}
use Rattle.stream_lists.specs.declared.stream_list.ListPlace.{ListPlace}
use Rattle.integers.proofs.Kept.{Kept, kept_same, kept-need, kept-on-read, kept-on-int, passed_on, int-kept}
use Rattle.stream_lists.proofs.ListLaws.{deltas-refused, deltas-more, streams-end, streams-more}
use Rattle.stream_lists.proofs.ListBounds.{list-good}
use Rattle.std.specs.Prelude.{Result, Ok, Err}
use Rattle.integers.specs.Answers.{Read, answer_number}
use Rattle.integers.specs.declared.answer.Refusal.{Refusal}
use Rattle.integers.specs.declared.answer.Refusal.TheVariants.{BadStreamList, Truncated}
use Rattle.integers.specs.declared.number.StreamNumber.{StreamNumber}

-- the deltas, then what follows
module _ {X : Type 0} (number : X → ℕ) (refused : Refusal → X) (two : number (refused Truncated) ≡ 2) where
  pub kept-on-deltas : (r r' : Result ℕ Refusal) {f g : ℕ → X} → Kept answer_number r r'
      → ((next : ℕ) → Kept number (f next) (g next)) → Kept number (on_deltas refused r f) (on_deltas refused r' g)
  kept-on-deltas (Ok next) r' h k = record { same = λ d. rw (h.same (λ z. omega arith)) ((k next).same d) }
  kept-on-deltas (Err why) r' h k = record { same = λ d. rw (h.same (passed_on number refused two why d)) refl }

module _ (s t : List ℕ) where
  pub delta-kept : (at last : ℕ) → Kept answer_number (read_delta s at last) (read_delta (s ++ t) at last)
  unfolding read_delta
  delta-kept at last =
      kept-on-int answer_number Err refl (read_int 8 s at) (read_int 8 (s ++ t) at) (int-kept 8 s t at)
      (λ delta next e. kept_same answer_number _)

  pub deltas-kept : (n at last : ℕ) → Kept answer_number (read_deltas n s at last) (read_deltas n (s ++ t) at last)
  unfolding read_deltas
  deltas-kept zero at last = kept_same answer_number (Ok at)
  deltas-kept (suc n) at last =
      kept-on-read answer_number Err refl (read_delta s at last) (read_delta (s ++ t) at last) (delta-kept at last)
      (λ stream next e. deltas-kept n next stream.value)

  pub list-kept : (at : ℕ) → Kept answer_number (read_list s at) (read_list (s ++ t) at)
  unfolding read_list
  list-kept at =
      kept-on-int answer_number Err refl (read_int 8 s at) (read_int 8 (s ++ t) at) (int-kept 8 s t at) (λ horizon after e.
      kept-need answer_number (leb horizon 4096) (kept_same answer_number (Err BadStreamList))
      (kept-on-int answer_number Err refl (read_int 8 s after) (read_int 8 (s ++ t) after) (int-kept 8 s t after) (λ count deltas d.
      kept-need answer_number (leb count 16) (kept_same answer_number (Err BadStreamList))
      (kept-on-deltas answer_number Err refl (read_deltas count s deltas horizon) (read_deltas count (s ++ t) deltas horizon)
      (deltas-kept count deltas horizon) (λ next. kept_same answer_number (Ok (record { horizon = horizon; count = count; deltas = deltas }, next)))))))

  streams-more-kept : (n at last next : ℕ) → read_deltas (suc n) s at last ≡ Ok next → (r : Read StreamNumber) → r ≡ read_delta s at last
      → ((at last : ℕ) → read_deltas n s at last ≡ Ok next → streams_from n (s ++ t) at last ≡ streams_from n s at last)
      → streams_from (suc n) (s ++ t) at last ≡ streams_from (suc n) s at last
  streams-more-kept n at last next e (Err why) d ih =
      let u = deltas-refused s at last _ d (suc n) (omega arith) why refl in
      let z : ◌≡◌ {A = ℕ} 0 1 = cc in absurd (omega arith)
  streams-more-kept n at last next e (Ok (x, after)) d ih =
      let u = rw sub-one at (deltas-more s at last _ d x after refl (suc n) (omega arith)) in
      let k = (delta-kept at last).same (λ z. omega (arith, ap answer_number d ∙ z)) in
      streams-more (s ++ t) at last _ (d ∙ sym k) x after refl n
      ∙ ap (λ (ys : List ℕ). x.value ∷ ys) (ih after x.value (sym u ∙ e))
      ∙ sym (streams-more s at last _ d x after refl n)

  -- deltas that were read list the same streams
  pub streams-kept : (n at last next : ℕ) → read_deltas n s at last ≡ Ok next → streams_from n (s ++ t) at last ≡ streams_from n s at last
  streams-kept zero at last next e = streams-end (s ++ t) at last ∙ sym (streams-end s at last)
  streams-kept (suc n) at last next e = streams-more-kept n at last next e (read_delta s at last) refl (λ a l. streams-kept n a l next)

  -- a list that was read is read the same, and lists the same
  pub list_same : (at : ℕ) (p : ListPlace) (next : ℕ) → read_list s at ≡ Ok (p, next)
      → (read_list (s ++ t) at ≡ Ok (p, next)) × (list_of (s ++ t) p ≡ list_of s p)
  list_same at p next e = (
    (list-kept at).same (λ z. omega (arith, sym (ap answer_number e) ∙ z)) ∙ e,
    ap (λ (ys : List ℕ). record { horizon = p.horizon; streams = ys })
        (streams-kept p.count p.deltas p.horizon next (list-good s at p next e).deltas),
  )
