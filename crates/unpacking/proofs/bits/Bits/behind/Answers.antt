use native.Mathlib.Omega.{arith}
use Rattle.unpacking.proofs.Highest.{zeros-take}
use Rattle.unpacking.proofs.bits.Bits.behind.Goals as goal

pub invariant_of-result : goal.invariant_of-result
invariant_of-result c =
    let b = c.args.self in
    let few = b.few in
    record { few = omega arith; zeros = zeros-take b.n b.w c.args.size c.requires (omega arith) b.zeros }
