use Prim.Native.Nat.{◌≤◌, ◌<◌}
use Rattle.packing.proofs.Writing.{Packing}
use Rattle.packing.proofs.pack.pack.Given as goal

-- `packing::pack::pack` writes the definition's bytes, as far as they fit. The invariant is the state of packing, with less than a word of bits.
abbrev pub invariant-loop-x : goal.invariant-loop-x
invariant-loop-x l = Packing l.s l.initial.out l.at l.out l.u l.n l.to l.x-index × (l.n < 32) × (l.to ≤ l.end)
