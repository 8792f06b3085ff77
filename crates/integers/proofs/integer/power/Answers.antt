use mathlib.Core.Path.{◌≡◌}
use Prim.Native.Nat.{ℕ, ◌*◌, ◌^◌, ◌%◌, ◌≤◌}
use native.Mathlib.Omega.{arith}
use native.Mathlib.Nat.{one-mul, mod-eq_of_lt}
use lib.Pow.{pow_pos, pow_mono}
use Rattle.integers.proofs.integer.power.Goals as goal

-- `integer::power`: 2 to a width of at most 8 fits a word, so the shift does not wrap.
bound : (k : ℕ) → k ≤ 8 → 2 ^ k ≤ 256
bound k h = pow_mono h

small : (k : ℕ) → k ≤ 8 → (1 * 2 ^ k) % 2 ^ 32 ≡ 2 ^ k
small k h = rw one-mul (mod-eq_of_lt (omega (arith, bound k h)))

pub returns : goal.returns
returns c =
    let e : (1 * 2 ^ c.args.width) % 2 ^ 32 ≡ 2 ^ c.args.width = small c.args.width c.requires in
    (e, omega (arith, pow_pos c.args.width), omega (arith, bound c.args.width c.requires))
