use Rattle.std.proofs.Common.{◌≡◌, ◌<◌, ◌≤◌, length, IfSome}
use Rattle.tokens.proofs.hex.unhex.Given as goal

-- The bytes that were put lie in `out`, and `high` is a digit.
abbrev pub invariant-loop-c : goal.invariant-loop-c
invariant-loop-c l = (length l.out ≡ length l.initial.out) × (l.n ≤ length l.out) × IfSome l.high (λ d. d < 16)
