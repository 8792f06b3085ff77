-- An acknowledgement takes at most five bytes, the prefix and at most four groups, and its index is at least 62.
-- By what the encoder's reader can find.
use mathlib.Core.Path.{◌≡◌}
use Prim.Native.Nat.{ℕ, ◌≤◌}
use mathlib.Core.List.{List}
use Rattle.integers.specs.declared.number.TableIndex.{TableIndex}
use Rattle.instructions.specs.Reading.{read_for_encoder}
use Rattle.instructions.specs.declared.read.InstructionPlace.{InstructionPlace}
use Rattle.instructions.specs.declared.read.InstructionPlace.TheVariants.{Acknowledge}
use Rattle.instructions.proofs.Bounds.{encoder-good}
use Rattle.std.specs.Prelude.{Ok}

module _ (s : List ℕ) where
  pub few-taken : (p : InstructionPlace) (taken : ℕ) → read_for_encoder s ≡ Ok (p, taken) → taken ≤ 5
  few-taken p taken e = (encoder-good s p taken e).short

  pub index-taken : (i : TableIndex) (taken : ℕ) → read_for_encoder s ≡ Ok (Acknowledge i, taken) → 62 ≤ i.value
  index-taken i taken e =
      let good = encoder-good s (Acknowledge i) taken e in
      let same : good.index ≡ i = cc in
      rw same at good.fine.0
