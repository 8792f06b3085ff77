-- What a whole block says can be said on the wire, and a block that is read has at most 16,384 bytes, so at most as many representations.
-- By induction over the count of `block_from`, with `representation-good` at each turn.
use mathlib.Core.Path.{◌≡◌, refl, sym, subst}
use Prim.Native.Nat.{ℕ, zero, suc, ◌+◌, ◌≤◌, ◌<◌}
use native.Mathlib.Omega.{arith}
use native.Mathlib.Numerals.{sub-one}
use mathlib.Core.List.{List, [], ◌∷◌, ◌++◌}
use lib.ListN.{length, length-append}
use lib.Dec.{ltb}
use Rattle.memory.proofs.Order.{split, pick-both}
use Rattle.blocks.specs.Representation.{Representation, AllFine}
use Rattle.blocks.specs.Reading.{representation_of, read_representation, BlockRead, block, refused, block_from, read_block}
use Rattle.blocks.specs.declared.read.RepresentationPlace.{RepresentationPlace}
use Rattle.blocks.proofs.Turns.{block_none, block-done, block_refused, block_more, block-long, block-whole}
use Rattle.blocks.proofs.Bounds.{representation-good}
use Rattle.std.specs.Prelude.{Ok, Err}
use Rattle.integers.specs.Answers.{Read, on_read}
use Rattle.integers.specs.declared.answer.Refusal.TheVariants.{TooLong}

pub all-fine-append : (rs qs : List Representation) → AllFine rs → AllFine qs → AllFine (rs ++ qs)
all-fine-append [] qs h k = k
all-fine-append (r ∷ rs) qs h k = (h.0, all-fine-append rs qs h.1 k)

abbrev FineRead : BlockRead → Type 0
FineRead (block rs) = AllFine rs
FineRead (refused why) = Unit {0}

-- at most n representations
abbrev FewRead : ℕ → BlockRead → Type 0
FewRead n (block rs) = length rs ≤ n
FewRead n (refused why) = Unit {0}

few-on-representation : (n : ℕ) (r : Read RepresentationPlace) (f : RepresentationPlace → ℕ → BlockRead)
    → ((p : RepresentationPlace) (next : ℕ) → FewRead n (f p next)) → FewRead n (on_read refused r f)
few-on-representation n (Ok (p, next)) f g = g p next
few-on-representation n (Err why) f g = tt

module _ (s : List ℕ) where
  -- one for each turn
  from-few : (f at : ℕ) (before : List Representation) (n : ℕ) → f + length before ≤ n → FewRead n (block_from f s at before)
  unfolding block_from
  from-few zero at before n h = omega arith
  from-few (suc f) at before n h =
      pick-both (FewRead n) (ltb at (length s)) _ (block before)
      (λ e. few-on-representation n (read_representation s at) _
      (λ p next. from-few f next (before ++ (representation_of s p ∷ [])) n (omega (arith, length-append before (representation_of s p ∷ [])))))
      (λ e. omega arith)

  whole-few : FewRead 16384 (read_block s)
  whole-few =
      split 16384 (length s)
      (λ l. rw (block-long s l) tt)
      (λ l. rw (block-whole s l) (from-few (length s) 0 [] 16384 (omega arith)))

  pub block-few : (rs : List Representation) → read_block s ≡ block rs → length rs ≤ 16384
  block-few rs e = subst (FewRead 16384) e whole-few

  fine-step : (f at : ℕ) (before : List Representation) → at < length s → AllFine before
      → ((at : ℕ) (before : List Representation) → AllFine before → FineRead (block_from f s at before))
      → (r : Read RepresentationPlace) → r ≡ read_representation s at → FineRead (block_from (suc f) s at before)
  fine-step f at before l a ih (Err why) e = rw (block_refused s at before l _ e (suc f) (omega arith) why refl) tt
  fine-step f at before l a ih (Ok (p, next)) e =
      let g = representation-good s at p next (sym e) in
      let one = representation_of s p ∷ [] in
      rw (block_more s at before l _ e (suc f) (omega arith) p next refl, sub-one)
      (ih next (before ++ one) (all-fine-append before one a (g.fine, tt)))

  from-fine : (f at : ℕ) (before : List Representation) → AllFine before → FineRead (block_from f s at before)
  from-fine zero at before a = rw (block_none s at before) a
  from-fine (suc f) at before a =
      split at (length s)
      (λ l. fine-step f at before l a (λ at' before' a'. from-fine f at' before' a') (read_representation s at) refl)
      (λ l. rw (block-done s at before (suc f) l) a)

  whole : FineRead (read_block s)
  whole =
      split 16384 (length s)
      (λ l. rw (block-long s l) tt)
      (λ l. rw (block-whole s l) (from-fine (length s) 0 [] tt))

  pub block-fine : (rs : List Representation) → read_block s ≡ block rs → AllFine rs
  block-fine rs e = subst FineRead e whole

  pub block-short : (rs : List Representation) → read_block s ≡ block rs → length s ≤ 16384
  block-short rs e =
      split 16384 (length s)
      (λ l. let d : refused TooLong ≡ read_block s = sym (block-long s l) in let z : ◌≡◌ {A = ℕ} 0 1 = cc in absurd (omega arith))
      (λ l. l)
