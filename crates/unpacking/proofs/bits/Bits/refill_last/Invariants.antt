use Prim.Native.Nat.{◌+◌, ◌-◌, ◌*◌, ◌≤◌}
use mathlib.Core.Path.{◌≡◌}
use lib.ListN.{length, drop}
use Rattle.unpacking.specs.Waiting.{waiting, bits_then}
use Rattle.unpacking.proofs.Refills.{Sound}
use Rattle.unpacking.proofs.bits.Bits.refill_last.Given as goal

-- The same bits wait, and there is room for the bytes that are left.
abbrev pub invariant-loop-x : goal.invariant-loop-x
invariant-loop-x l = record {
  sound : Sound l.w l.n;
  same : bits_then l.w l.n (drop l.x-index l.self.bytes.now) ≡ waiting l.self;
  room : l.n + 8 * (length l.self.bytes.now - l.x-index) ≤ 55;
}
