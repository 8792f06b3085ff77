use Prim.Native.Nat.{◌*◌}
use mathlib.Core.Path.{◌≡◌}
use Rattle.memory.specs.Bytes.{part, overlay}
use Rattle.copying.proofs.copy.copy_long.Given as goal

-- `copying::copy::copy_long` meets its contract. The loop's invariant: the first k words are stored.
abbrev pub invariant-loop-k : goal.invariant-loop-k
invariant-loop-k l = l.out ≡ overlay l.initial.out l.at (part l.src 0 (8 * l.k))
