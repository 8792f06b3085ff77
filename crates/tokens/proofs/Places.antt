-- Where a word ends.
use Rattle.std.proofs.Common.{◌≡◌, ℕ, Bool, List, length, position, arith}
use Rattle.std.proofs.lemmas.Bool.Decides.{nat_tests}
use Rattle.std.specs.Option.{unwrap_or}
use Rattle.std.specs.List.{position_or_len}
use Rattle.std.proofs.lemmas.List.Sums.{prefix_len-le-length}

pub first_or_end : (p : ℕ → Bool) (s : List ℕ) → unwrap_or (position p s) (length s) ≡ position_or_len p s
first_or_end p s = grind (arith, nat_tests, prefix_len-le-length)
