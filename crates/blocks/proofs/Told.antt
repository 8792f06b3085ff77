-- Which numbers representations and whole blocks are refused by: 2, 3, 19, 5, 13, 18, along the definitions. So an answer 0 is that of a block that was read.
use mathlib.Core.Path.{◌≡◌, refl}
use Prim.Native.Nat.{ℕ, zero, suc}
use mathlib.Core.List.{List, [], ◌∷◌, ◌++◌}
use lib.ListN.{length, get_or}
use lib.Dec.{ltb, leb}
use Rattle.memory.proofs.Order.{pick-both, need-both}
use Rattle.integers.specs.Answers.{truncated, too_large, padded, not_allowed, too_long, bad_packing, number_of, Read, on_read}
use Rattle.integers.specs.Integer.{read_int}
use Rattle.integers.proofs.Told.{Told, One, RefusedBy, wider-refusals, int_refusals, int-told, told-on-int, told-on-read}
use Rattle.wire.specs.Text.{read_string}
use Rattle.wire.specs.Name.{read_name}
use Rattle.wire.proofs.Told.{text_refusals, string-told, name-told}
use Rattle.blocks.specs.Representation.{Representation}
use Rattle.blocks.specs.Reading.{representation_of, read_indexed, read_literal, read_representation, BlockRead, block, refused, block_from, read_block, block_answer}
use Rattle.blocks.specs.declared.read.RepresentationPlace.{RepresentationPlace}
use Rattle.std.specs.Prelude.{Ok, Err}
use Rattle.integers.specs.declared.answer.Refusal.TheVariants.{NotAllowed, TooLong, Truncated}

abbrev pub block_refusals : List ℕ
block_refusals = truncated ∷ too_large ∷ padded ∷ not_allowed ∷ too_long ∷ bad_packing ∷ []

abbrev pub RepresentationTold : Read RepresentationPlace → Type 0
RepresentationTold r = RefusedBy block_refusals r

module _ (s : List ℕ) (at : ℕ) where
  indexed-told : Told RepresentationTold (read_indexed s at)
  unfolding read_indexed
  indexed-told =
      told-on-int RepresentationTold Err (wider-refusals block_refusals int_refusals tt) (read_int 7 s at) (int-told 7 s at)
      (λ i next. need-both (Told RepresentationTold) (ltb 0 i) (Err NotAllowed) _ (λ e. record { told = tt }) (λ e. record { told = tt }))

  literal-told : Told RepresentationTold (read_literal s at)
  unfolding read_literal
  literal-told =
      told-on-read text_refusals RepresentationTold Err (wider-refusals block_refusals text_refusals tt) (read_name 6 s at) (name-told 6 s at)
      (λ name next. told-on-read text_refusals RepresentationTold Err (wider-refusals block_refusals text_refusals tt) (read_string s next 2047) (string-told s next 2047)
      (λ value after. record { told = tt }))

  pub representation-told : Told RepresentationTold (read_representation s at)
  unfolding read_representation
  representation-told =
      need-both (Told RepresentationTold) (ltb at (length s)) (Err Truncated) _ (λ e. record { told = tt })
      (λ e. pick-both (Told RepresentationTold) (ltb (get_or s at 0) 128) (read_literal s at) (read_indexed s at) (λ d. literal-told) (λ d. indexed-told))

abbrev pub BlockTold : BlockRead → Type 0
BlockTold (block rs) = Unit {0}
BlockTold (refused why) = One block_refusals (number_of why)

from_told : (f : ℕ) (s : List ℕ) (at : ℕ) (before : List Representation) → Told BlockTold (block_from f s at before)
unfolding block_from
from_told zero s at before = record { told = tt }
from_told (suc f) s at before =
    pick-both (Told BlockTold) (ltb at (length s)) _ (block before)
    (λ e. told-on-read block_refusals BlockTold refused (λ why r. r) (read_representation s at) (representation-told s at)
    (λ p next. from_told f s next (before ++ (representation_of s p ∷ []))))
    (λ e. record { told = tt })

pub block-told : (s : List ℕ) → BlockTold (read_block s)
unfolding read_block
block-told s = need-both BlockTold (leb (length s) 16384) (refused TooLong) _ (λ e. tt) (λ e. (from_told (length s) s 0 []).told)

-- the answer 0 is that of a block that was read
pub block_read : (s : List ℕ) → (block_answer (read_block s)).number ≡ 0 → (rs : List Representation) × (read_block s ≡ block rs)
block_read s = go (read_block s) refl (block-told s)
  where
    zero-not : (m : ℕ) → One block_refusals m → m ≡ 0 → ⊥
    zero-not m r z = rw z at r

    go : (b : BlockRead) → read_block s ≡ b → BlockTold b → (block_answer b).number ≡ 0 → (rs : List Representation) × (read_block s ≡ block rs)
    go (block rs) e k z = (rs, e)
    go (refused why) e k z = absurd (zero-not (number_of why) k z)
