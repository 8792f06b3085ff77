-- The one number that a C host gets says the answer and both told numbers again.
-- By division: number and first are below the weights of what stands above them.
use Prim.Native.Nat.{◌<◌}
use native.Mathlib.Omega.{arith}
use Rattle.integers.specs.Answers.{Answer}
use Rattle.reply.specs.Reply.{joined, Narrow, Separable}

pub separable : (a : Answer) → Narrow a → a.number < 256 → a.first < 4294967296 → Separable a
unfolding joined
separable a h k l = record { number_back = omega arith; first_back = omega arith; second_back = omega arith }
