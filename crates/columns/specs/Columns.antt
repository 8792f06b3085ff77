-- A column: numbers of one width, one behind the other. What opening, closing and changing one leave in memory.
use Rattle.std.specs.Prelude.{ℕ, zero, suc, ◌+◌, ◌*◌, ◌-◌, ◌<◌, ◌≡◌, List, [], ◌∷◌, ◌++◌}
use Rattle.memory.specs.Bytes.{overlay, moved}
use Rattle.memory.specs.Numbers.{number, number_bytes}

-- the bytes of a column
unfoldable pub column_bytes : ℕ → List ℕ → List ℕ
column_bytes w [] = []
column_bytes w (x ∷ xs) = number_bytes w x ++ column_bytes w xs

-- these numbers are read from the place at on
abbrev pub Reads : ℕ → List ℕ → ℕ → List ℕ → Type 0
Reads w m at [] = Unit {0}
Reads w m at (x ∷ xs) = (number w m at ≡ x) × Reads w m (at + w) xs

-- a number put in at a place of a column that has `count` of them: those from there on move up
unfoldable pub column_opened : ℕ → List ℕ → ℕ → ℕ → ℕ → ℕ → List ℕ
column_opened w m at place count x =
    overlay (moved m (at + w * (place + 1)) (at + w * place) (w * (count - place))) (at + w * place) (number_bytes w x)

-- the number at a place taken out: those behind it close up
unfoldable pub column_closed : ℕ → List ℕ → ℕ → ℕ → ℕ → List ℕ
column_closed w m at place count = moved m (at + w * place) (at + w * (place + 1)) (w * (count - (place + 1)))

-- the k numbers from the place at on, each changed alike
unfoldable pub changed : (ℕ → ℕ) → ℕ → ℕ → List ℕ → ℕ → List ℕ
changed f w zero m at = m
changed f w (suc k) m at = changed f w k (overlay m at (number_bytes w (f (number w m at)))) (at + w)

-- each result y at a number x of two bytes has the bytes of g x
abbrev pub MakesBytesOf : (ℕ → ℕ) → (ℕ → ℕ → Type 0) → Type 0
MakesBytesOf g post = (x y : ℕ) → x < 65536 → post x y → number_bytes 2 y ≡ number_bytes 2 (g x)
