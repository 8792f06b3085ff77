-- Marks of streams in words of 64 bits: stream s has the bit s % 64 of the word s / 64. The definitions speak of one stream after another;
-- the code goes by words.
use Rattle.std.specs.Prelude.{ℕ, zero, suc, ◌+◌, ◌*◌, ◌-◌, ◌^◌, ◌/◌, ◌%◌, Bool, List, [], ◌++◌, eqb}
use Rattle.memory.specs.Choice.{pick}
use Rattle.memory.specs.Bytes.{overlay}
use Rattle.memory.specs.Numbers.{number, number_bytes}

-- bit k of x
unfoldable pub bit : ℕ → ℕ → Bool
bit x k = eqb (x / 2 ^ k % 2) 1

-- the word that stream s is marked in, of the marks that start at the place at
unfoldable pub word_place : ℕ → ℕ → ℕ
word_place at s = at + 8 * (s / 64)

-- is stream s marked?
unfoldable pub is_set : List ℕ → ℕ → ℕ → Bool
is_set m at s = bit (number 8 m (word_place at s)) (s % 64)

-- m, with the mark of stream s taken away
unfoldable pub cleared : List ℕ → ℕ → ℕ → List ℕ
cleared m at s =
    pick (is_set m at s) (overlay m (word_place at s) (number_bytes 8 (number 8 m (word_place at s) - 2 ^ (s % 64)))) m

-- the word in which the n streams from s on are marked as g says
unfoldable pub word_of : (ℕ → Bool) → ℕ → ℕ → ℕ
word_of g s zero = 0
word_of g s (suc n) = pick (g s) 1 0 + 2 * word_of g (s + 1) n

-- the bytes of n words, from stream s on
unfoldable pub words_bytes : (ℕ → Bool) → ℕ → ℕ → List ℕ
words_bytes g s zero = []
words_bytes g s (suc n) = number_bytes 8 (word_of g s 64) ++ words_bytes g (s + 64) n

-- how many of the n streams from s on are marked
unfoldable pub count_from : (ℕ → Bool) → ℕ → ℕ → ℕ
count_from g s zero = 0
count_from g s (suc n) = pick (g s) 1 0 + count_from g (s + 1) n

-- the lowest marked one of the n streams from s on; s + n if none is
unfoldable pub lowest_from : (ℕ → Bool) → ℕ → ℕ → ℕ
lowest_from g s zero = s
lowest_from g s (suc n) = pick (g s) s (lowest_from g (s + 1) n)
