use Rattle.std.proofs.Common.{◌≡◌, drop}
use Rattle.tokens.specs.Numbers.{number_of, digits_from}
use Rattle.tokens.proofs.number.Given as goal

-- The word's number is what the digits from the place on say after those before it.
abbrev pub invariant-loop-c : goal.invariant-loop-c
invariant-loop-c l = number_of l.word ≡ digits_from (drop l.c-index l.word) l.n
