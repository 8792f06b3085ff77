-- What words say.
use Rattle.std.specs.Prelude.{ℕ, ◌+◌, ◌-◌, ◌*◌, Option, None, Some, List, [], ◌∷◌, ltb, leb}
use Rattle.memory.specs.Choice.{pick, need}

-- "Numbers are decimal, 0 to 18,446,744,073,709,551,615."
abbrev pub largest : ℕ
largest = 18446744073709551615

-- the value of a decimal digit, and 10 for any other character
unfoldable pub digit_of : ℕ → ℕ
digit_of c = pick (leb 48 c) (pick (leb c 57) (c - 48) 10) 10

-- the number that the digits cs say after those that say n
unfoldable pub digits_from : List ℕ → ℕ → Option ℕ
digits_from [] n = Some n
digits_from (c ∷ cs) n =
    need (ltb (digit_of c) 10) None
    (need (leb (n * 10 + digit_of c) largest) None
    (digits_from cs (n * 10 + digit_of c)))

-- no digits are no number
unfoldable pub number_of : List ℕ → Option ℕ
number_of [] = None
number_of (c ∷ cs) = digits_from (c ∷ cs) 0
