-- What the steps of the searches find: the one entry that a name's hash leaves, the run of entries with one name, and which values are sought at all.
use Rattle.std.specs.Prelude.{ℕ, ◌+◌, ◌*◌, ◌-◌, ◌%◌, Bool, true, false, List, length, get_or, eqb, ltb}
use Rattle.memory.specs.Choice.{pick}
use Rattle.memory.specs.Compare.{same}
use Rattle.statics.specs.Table.{static_name, static_value}
use Rattle.static_search.specs.Search.{lowest_static}
use Rattle.static_search.specs.declared.hashes.Hashed.{Hashed}
use Rattle.std.specs.Prelude.{Option, Some, None}
use Rattle.integers.specs.declared.number.TableIndex.{TableIndex}

-- a name's length, first and last byte
unfoldable pub hash_of : List ℕ → ℕ
hash_of name = (121 * (length name % 128) + 2 * get_or name 0 0 + 33 * get_or name (length name - 1) 0) % 128

-- the entry that was found and how many bytes its name has, or the first and 0
abbrev pub hashed_at : Option TableIndex → Hashed
hashed_at (Some j) = record { index = j; length = length (static_name j.value) }
hashed_at None = record { index = record { value = 1 }; length = 0 }

-- the lowest entry whose name has this hash
unfoldable pub hashed_of : ℕ → Hashed
hashed_of hash = hashed_at (lowest_static (λ k. eqb (hash_of (static_name k)) hash) 61 1)

-- the one entry that may have this name: that which the hash leaves, where its name has as many bytes
unfoldable pub candidate_of : List ℕ → Option TableIndex
candidate_of name =
    pick (eqb (length name) 0) None
    (pick (eqb (hashed_of (hash_of name)).length (length name)) (Some (hashed_of (hash_of name)).index) None)

-- the same as the table of the program has it: one number
unfoldable pub stored_of : ℕ → ℕ
stored_of hash = 256 * (hashed_of hash).length + (hashed_of hash).index.value

-- the last entry with the name of the entry i, where i is the lowest with it
unfoldable pub last_of : ℕ → ℕ
last_of i = pick (eqb i 2) 3 (pick (eqb i 4) 5 (pick (eqb i 6) 7 (pick (eqb i 8) 14 i)))

unfoldable pub has_value : ℕ → List ℕ → Bool
has_value i value = same (static_value i) value

-- may a static entry have a value of n bytes that begins with this one?
unfoldable pub may_begin : ℕ → ℕ → Bool
may_begin n first =
    pick (eqb n 0) true
    (pick (eqb n 1) (eqb first 47)
    (pick (eqb n 3) (ltb first 72)
    (pick (eqb n 4) (pick (eqb first 80) true (eqb first 104))
    (pick (eqb n 5) (eqb first 104)
    (pick (eqb n 11) (eqb first 47)
    (pick (eqb n 13) (eqb first 103) false))))))

-- may a static entry have this value, by its length and its first byte?
unfoldable pub may_be_value : List ℕ → Bool
may_be_value value = may_begin (length value) (get_or value 0 0)
