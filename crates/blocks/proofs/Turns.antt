-- The equations of `block_from` and `read_block`, one for each way through a turn: the end, a refusal, one representation more.
-- By the tests along that way.
use mathlib.Core.Path.{◌≡◌, refl}
use Prim.Native.Nat.{ℕ, zero, suc, ◌-◌, ◌≤◌, ◌<◌}
use native.Mathlib.Nat.{not-suc-le-zero}
use native.Mathlib.Numerals.{sub-one}
use mathlib.Core.List.{List, [], ◌∷◌, ◌++◌}
use lib.ListN.{length}
use borrow.Author.Tests.{lt-ltb, le-ltb, le-leb, lt-leb}
use Rattle.blocks.specs.Representation.{Representation}
use Rattle.blocks.specs.Reading.{representation_of, read_representation, block, refused, block_from, read_block}
use Rattle.blocks.specs.declared.read.RepresentationPlace.{RepresentationPlace}
use Rattle.std.specs.Prelude.{Ok, Err}
use Rattle.integers.specs.Answers.{Read}
use Rattle.integers.specs.declared.answer.Refusal.{Refusal}
use Rattle.integers.specs.declared.answer.Refusal.TheVariants.{TooLong}

module _ (s : List ℕ) (at : ℕ) (before : List Representation) where
  pub block_none : block_from zero s at before ≡ block before
  unfolding block_from
  block_none = refl

  pub block-done : (f : ℕ) → length s ≤ at → block_from f s at before ≡ block before
  unfolding block_from
  block-done zero h = refl
  block-done (suc f) h = simp (le-ltb _ _ h)

  module _ (h : at < length s) (r : Read RepresentationPlace) (e : r ≡ read_representation s at) where
    pub block_refused : (f : ℕ) → 0 < f → (why : Refusal) → r ≡ Err why → block_from f s at before ≡ refused why
    unfolding block_from
    block_refused zero p why d = absurd (not-suc-le-zero p)
    block_refused (suc f) p why d = simp (lt-ltb _ _ h, ← e, d)

    pub block_more : (f : ℕ) → 0 < f → (p : RepresentationPlace) (next : ℕ) → r ≡ Ok (p, next)
        → block_from f s at before ≡ block_from (f - 1) s next (before ++ (representation_of s p ∷ []))
    unfolding block_from
    block_more zero q p next d = absurd (not-suc-le-zero q)
    block_more (suc f) q p next d = simp (lt-ltb _ _ h, ← e, d, sub-one)

module _ (s : List ℕ) where
  pub block-long : 16384 < length s → read_block s ≡ refused TooLong
  unfolding read_block
  block-long h = simp (lt-leb _ _ h)

  pub block-whole : length s ≤ 16384 → read_block s ≡ block_from (length s) s 0 []
  unfolding read_block
  block-whole h = simp (le-leb _ _ h)
