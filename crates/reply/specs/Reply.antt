-- An answer with its told numbers, and the one number that a C host gets.
use Rattle.std.specs.Prelude.{◌≡◌, ℕ, ◌+◌, ◌*◌, ◌/◌, ◌%◌, ◌<◌}
use Rattle.integers.specs.Answers.{Answer}
use Rattle.reply.specs.declared.Reply.{Reply}

abbrev pub answer_of : Reply → Answer
answer_of r = record { number = r.number; first = r.first; second = r.second }

-- answer + 2^8 · first + 2^40 · second
unfoldable pub joined : Answer → ℕ
joined a = a.number + 256 * a.first + 1099511627776 * a.second

-- what fits: the second number of an answer is at most 2^24 - 1
abbrev pub Narrow : Answer → Type 0
Narrow a = a.second < 16777216

-- each part is found in its place, as the C header's macros take it out
pub record Separable (a : Answer) : Type 0 where
  pub number_back : joined a % 256 ≡ a.number
  pub first_back : joined a / 256 % 4294967296 ≡ a.first
  pub second_back : joined a / 1099511627776 ≡ a.second
