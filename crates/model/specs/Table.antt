-- A table is a list of entries, ascending by index. `index` gives an entry's index.
use Rattle.std.specs.Prelude.{ℕ, suc, ◌+◌, ◌≤◌, ◌≡◌, Bool, List, [], ◌∷◌, length, ltb, eqb}
use Rattle.std.proofs.Math.Option.{Option, none, some}
use Rattle.memory.specs.Choice.{pick}
use Rattle.statics.specs.Table.{Entry}

-- "An entry's size is name bytes plus value bytes plus 32."
unfoldable pub size : Entry → ℕ
size e = length e.name + length e.value + 32

-- "Each table keeps one small record, limit, held size and entry count"
pub record Account : Type 0 where
  pub limit : ℕ
  pub held : ℕ
  pub count : ℕ

-- the first that passes a test: in a table ascending by index the one of lowest index, among deletes the one that arrived first
unfoldable pub first : {X : Type 0} → (X → Bool) → List X → Option X
first test [] = none
first test (x ∷ l) = pick (test x) (some x) (first test l)

module _ {X : Type 0} (index : X → ℕ) where
  -- every index at least `from`, each larger than the one before it
  abbrev pub Ascending : ℕ → List X → Type 0
  Ascending from [] = Unit {0}
  Ascending from (x ∷ l) = (from ≤ index x) × Ascending (suc (index x)) l

  -- the entry with index i
  unfoldable pub look : ℕ → List X → Option X
  look i [] = none
  look i (x ∷ l) = pick (eqb (index x) i) (some x) (look i l)

  -- no two entries have one index
  abbrev pub Distinct : List X → Type 0
  Distinct [] = Unit {0}
  Distinct (x ∷ l) = (look (index x) l ≡ none) × Distinct l

  -- x put in at its place
  unfoldable pub put : X → List X → List X
  put x [] = x ∷ []
  put x (y ∷ l) = pick (ltb (index x) (index y)) (x ∷ y ∷ l) (y ∷ put x l)

  -- without the entry with index i
  unfoldable pub cut : ℕ → List X → List X
  cut i [] = []
  cut i (x ∷ l) = pick (eqb (index x) i) l (x ∷ cut i l)

  -- "the lowest from 62 that is not held": the lowest index from n on that no entry has
  unfoldable pub vacant_from : ℕ → List X → ℕ
  vacant_from n [] = n
  vacant_from n (x ∷ l) = pick (eqb (index x) n) (vacant_from (suc n) l) n

  -- the sum over all entries
  unfoldable pub total : (X → ℕ) → List X → ℕ
  total weight [] = 0
  total weight (x ∷ l) = weight x + total weight l
