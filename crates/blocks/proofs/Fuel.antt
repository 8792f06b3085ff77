-- `block_from` does not look at its count where that is large enough, and only puts what it reads behind what was read before.
-- By induction over the count; so there are equations with neither.
use mathlib.Core.Path.{◌≡◌, refl, sym, ap, ◌∙◌}
use Prim.Native.Nat.{ℕ, zero, suc, ◌+◌, ◌-◌, ◌≤◌, ◌<◌}
use native.Mathlib.Omega.{arith}
use native.Mathlib.Numerals.{sub-one}
use mathlib.Core.List.{List, [], ◌∷◌, ◌++◌, append_assoc}
use lib.ListN.{length}
use Rattle.memory.proofs.Order.{split}
use Rattle.blocks.specs.Representation.{Representation}
use Rattle.blocks.specs.Reading.{representation_of, read_representation, BlockRead, block, refused, block_from, read_block}
use Rattle.blocks.specs.declared.read.RepresentationPlace.{RepresentationPlace}
use Rattle.blocks.proofs.Turns.{block_none, block-done, block_refused, block_more, block-whole}
use Rattle.blocks.proofs.Bounds.{representation-good}
use Rattle.std.specs.Prelude.{Ok, Err}
use Rattle.integers.specs.Answers.{Read}
use Rattle.integers.specs.declared.answer.Refusal.{Refusal}

-- representations put before a block that was read
abbrev pub prefixed : List Representation → BlockRead → BlockRead
prefixed xs (block rs) = block (xs ++ rs)
prefixed xs (refused why) = refused why

-- the block from a place on, with no count
abbrev pub block_at : List ℕ → ℕ → BlockRead
block_at s at = block_from (length s - at) s at []

module _ (s : List ℕ) where
  step : (f g at : ℕ) (before : List Representation) → length s ≤ at + suc f → length s ≤ at + g → at < length s
      → ((g at : ℕ) (before : List Representation) → length s ≤ at + f → length s ≤ at + g → block_from f s at before ≡ block_from g s at before)
      → (r : Read RepresentationPlace) → r ≡ read_representation s at → block_from (suc f) s at before ≡ block_from g s at before
  step f g at before h k l ih (Err why) e =
      block_refused s at before l _ e (suc f) (omega arith) why refl
      ∙ sym (block_refused s at before l _ e g (omega arith) why refl)
  step f g at before h k l ih (Ok (p, next)) e =
      let b = representation-good s at p next (sym e) in
      rw sub-one at (block_more s at before l _ e (suc f) (omega arith) p next refl)
      ∙ ih (g - 1) next (before ++ (representation_of s p ∷ [])) (omega arith) (omega arith)
      ∙ sym (block_more s at before l _ e g (omega arith) p next refl)

  pub block-enough : (f g at : ℕ) (before : List Representation) → length s ≤ at + f → length s ≤ at + g
      → block_from f s at before ≡ block_from g s at before
  block-enough zero g at before h k = block-done s at before zero (omega arith) ∙ sym (block-done s at before g (omega arith))
  block-enough (suc f) g at before h k =
      split at (length s)
      (λ l. step f g at before h k l (λ g' at' before' h' k'. block-enough f g' at' before' h' k') (read_representation s at) refl)
      (λ l. block-done s at before (suc f) l ∙ sym (block-done s at before g l))

  step-prefixed : (f at : ℕ) (xs ys : List Representation) → at < length s
      → ((at : ℕ) (ys : List Representation) → block_from f s at (xs ++ ys) ≡ prefixed xs (block_from f s at ys))
      → (r : Read RepresentationPlace) → r ≡ read_representation s at → block_from (suc f) s at (xs ++ ys) ≡ prefixed xs (block_from (suc f) s at ys)
  step-prefixed f at xs ys l ih (Err why) e =
      block_refused s at (xs ++ ys) l _ e (suc f) (omega arith) why refl
      ∙ sym (ap (prefixed xs) (block_refused s at ys l _ e (suc f) (omega arith) why refl))
  step-prefixed f at xs ys l ih (Ok (p, next)) e =
      let one = representation_of s p ∷ [] in
      rw sub-one at (block_more s at (xs ++ ys) l _ e (suc f) (omega arith) p next refl)
      ∙ ap (block_from f s next) (append_assoc xs ys one)
      ∙ ih next (ys ++ one)
      ∙ sym (ap (prefixed xs) (rw sub-one at (block_more s at ys l _ e (suc f) (omega arith) p next refl)))

  -- what was read before stays in front
  pub from-prefixed : (f at : ℕ) (xs ys : List Representation) → block_from f s at (xs ++ ys) ≡ prefixed xs (block_from f s at ys)
  from-prefixed zero at xs ys = block_none s at (xs ++ ys) ∙ sym (ap (prefixed xs) (block_none s at ys))
  from-prefixed (suc f) at xs ys =
      split at (length s)
      (λ l. step-prefixed f at xs ys l (λ at' ys'. from-prefixed f at' xs ys') (read_representation s at) refl)
      (λ l. block-done s at (xs ++ ys) (suc f) l ∙ sym (ap (prefixed xs) (block-done s at ys (suc f) l)))

  -- the equations with no count
  pub read_at : length s ≤ 16384 → read_block s ≡ block_at s 0
  read_at h = block-whole s h ∙ block-enough (length s) (length s - 0) 0 [] (omega arith) (omega arith)

  pub at-end : (at : ℕ) → length s ≤ at → block_at s at ≡ block []
  at-end at h = block-done s at [] (length s - at) h

  module _ (at : ℕ) (h : at < length s) where
    pub at-refused : (why : Refusal) → read_representation s at ≡ Err why → block_at s at ≡ refused why
    at-refused why d = block_refused s at [] h _ refl (length s - at) (omega arith) why d

    pub at_more : (p : RepresentationPlace) (next : ℕ) → read_representation s at ≡ Ok (p, next)
        → block_at s at ≡ prefixed (representation_of s p ∷ []) (block_at s next)
    at_more p next d =
        let g = representation-good s at p next d in
        let one = representation_of s p ∷ [] in
        block_more s at [] h _ refl (length s - at) (omega arith) p next d
        ∙ block-enough (length s - at - 1) (length s - next) next one (omega arith) (omega arith)
        ∙ from-prefixed (length s - next) next one []
