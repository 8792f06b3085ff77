-- The larger of two reports is the later one, and the larger of two numbers is `larger`.
use Rattle.std.specs.Ordering.{nat_cmp, ordering_then, is_lt}
use Rattle.std.proofs.Common.{cond}
use Rattle.std.proofs.lemmas.Bool.Decides.{nat_tests}
use mathlib.Core.Path.{◌≡◌}
use Prim.Native.Nat.{ℕ, max}
use native.Mathlib.Omega.{arith}
use Rattle.memory.specs.Choice.{pick}
use Rattle.falling_hours.specs.declared.falls.StreamHours.{StreamHours}
use Rattle.falling_hours.specs.Standing.{larger, is_later}

pub larger_is_later : (a b : StreamHours) → cond (is_lt (ordering_then (nat_cmp b.stream a.stream) (nat_cmp b.tenths a.tenths))) a b ≡ pick (is_later a b) b a
unfolding is_later
larger_is_later a b = grind (arith, nat_tests)

pub max_is_larger : (a b : ℕ) → max a b ≡ larger a b
max_is_larger a b = grind (arith, nat_tests)
