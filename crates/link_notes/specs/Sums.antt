-- "bytes and list are compared by a sum of 64 bits": two polynomials over the remainders by the largest prime of 32 bits.
use Rattle.std.specs.Prelude.{ℕ, ◌+◌, ◌*◌, ◌%◌, List, [], eqb, length}
use Rattle.std.specs.List.{fold}
use Rattle.memory.specs.Choice.{pick}
use Rattle.link_notes.specs.declared.sums.Sum.{Sum}
use Rattle.link_notes.specs.declared.sums.Block.{Block}

-- one number more
abbrev pub stepped : Sum → ℕ → Sum
stepped s x = record { first = (s.first * 1812433253 + x + 1) % 4294967291; second = (s.second * 1103515245 + x + 1) % 4294967291 }

abbrev pub sum_from : List ℕ → Sum → Sum
sum_from xs s = fold stepped s xs

-- the length, and the bytes: so no byte can move from one string to the other
abbrev pub length_and_bytes : List ℕ → Sum → Sum
length_and_bytes xs s = sum_from xs (stepped s (length xs % 4294967296))

-- 0 stands for no block, so no sum is 0
abbrev pub joined : Sum → ℕ
joined s = pick (eqb (s.first * 4294967296 + s.second) 0) 1 (s.first * 4294967296 + s.second)

unfoldable pub sum_of : List ℕ → List ℕ → ℕ
sum_of block list = joined (length_and_bytes list (length_and_bytes block (record { first = 0; second = 0 })))

-- a block with its list, and its bytes alone
abbrev pub block_of : List ℕ → List ℕ → Block
block_of block list = record { sum = sum_of block list; bytes = sum_of block [] }

-- where there is none
abbrev pub no_block : Block
no_block = record { sum = 0; bytes = 0 }
