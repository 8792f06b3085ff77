-- The static entries whose names have one length: "look only at those whose name has the right length".
use Rattle.std.specs.Prelude.{ℕ, zero, suc, ◌+◌, Bool, true, false, List, [], ◌∷◌, length, eqb}
use Rattle.memory.specs.Choice.{pick}
use Rattle.statics.specs.Table.{last_static, static_name}
use Rattle.std.specs.Prelude.{Option, Some, None}
use Rattle.integers.specs.declared.number.TableIndex.{TableIndex}

-- the indexes at which the test holds, of the n from i on
abbrev pub before : Bool → ℕ → List ℕ → List ℕ
before true i is = i ∷ is
before false i is = is

unfoldable pub all_static : (ℕ → Bool) → ℕ → ℕ → List ℕ
all_static holds zero i = []
all_static holds (suc n) i = before (holds i) i (all_static holds n (i + 1))

-- the static indexes whose name has n bytes
unfoldable pub of_length : ℕ → List ℕ
of_length n = all_static (λ k. eqb (length (static_name k)) n) last_static 1

-- the first of these indexes at which the test holds
unfoldable pub first_of : (ℕ → Bool) → List ℕ → Option TableIndex
first_of holds [] = None
first_of holds (i ∷ is) = pick (holds i) (Some (record { value = i })) (first_of holds is)

-- "at most 14 for any name"
abbrev pub most : ℕ
most = 14
