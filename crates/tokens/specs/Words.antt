-- The words of a line: the longest parts of it in which no character separates words.
use Rattle.std.specs.Prelude.{ℕ, Bool, true, not, List, drop, eqb}
use Rattle.std.specs.List.{before_first, position_or_len}
use Rattle.memory.specs.Choice.{pick}

-- spaces and tabs, and carriage returns
abbrev pub separates : ℕ → Bool
separates c = pick (eqb c 32) true (pick (eqb c 9) true (eqb c 13))

-- the text from its first word on: nothing, where it has none
abbrev pub from_word : List ℕ → List ℕ
from_word text = drop (position_or_len (λ c. not (separates c)) text) text

-- the first word, and what stands behind it
abbrev pub first_word : List ℕ → List ℕ
first_word text = before_first separates (from_word text)

abbrev pub behind_word : List ℕ → List ℕ
behind_word text = drop (position_or_len separates (from_word text)) (from_word text)
