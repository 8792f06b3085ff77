-- Four blocks that are turned by one, and the first of them replaced, are those with a block before them.
use Rattle.std.proofs.Common.{take, drop}
use mathlib.Core.Path.{◌≡◌, refl}
use mathlib.Core.List.{List, [], ◌∷◌, ◌++◌}
use native.Mathlib.Omega.{arith}
use Prim.Native.Nat.{◌-◌}
use lib.ListN.{length, set}
use Rattle.link_notes.specs.declared.sums.Block.{Block}
use Rattle.link_notes.specs.Notes.{pushed}

pub turned : (l : List Block) (b : Block) → length l ≡ 4 → set (drop (length l - 1) l ++ take (length l - 1) l) 0 b ≡ pushed l b
unfolding pushed
turned [] b e = absurd (omega arith)
turned (x ∷ []) b e = absurd (omega arith)
turned (x ∷ y ∷ []) b e = absurd (omega arith)
turned (x ∷ y ∷ z ∷ []) b e = absurd (omega arith)
turned (x ∷ y ∷ z ∷ w ∷ []) b e = refl
turned (x ∷ y ∷ z ∷ w ∷ v ∷ vs) b e = absurd (omega arith)
