-- Short representations, exactly where they stand: an index takes one byte or two, and strings are plain with a length of one byte.
use Rattle.std.specs.Prelude.{ℕ, ◌+◌, ◌-◌, ◌%◌, List, length, get_or, ltb, leb, eqb, Option, Some, None, option_and_then}
use Rattle.memory.specs.Choice.{need}
use Rattle.integers.specs.Integer.{short_int_at, on_short_int}
use Rattle.integers.specs.declared.number.TableIndex.{TableIndex}
use Rattle.wire.specs.declared.text.StringPlace.{StringPlace}
use Rattle.short_strings.specs.Short.{short_string_at}

-- a string's length in one byte: no H bit, and no prefix of all ones
unfoldable pub short_length : ℕ → Option ℕ
short_length b = need (ltb b 127) None (Some b)

-- the index of the representation at the place at, from 128 on, and the place after it: it is not 0, and no prefix of all ones
unfoldable pub short_index_at : List ℕ → ℕ → Option (TableIndex × ℕ)
short_index_at s at =
    need (ltb 128 (get_or s at 0)) None
    (need (ltb (get_or s at 0) 255) None
    (Some (record { value = get_or s at 0 - 128 }, at + 1)))

-- the literal at the place at whose name is a string: its index is 0, both lengths take one byte, and it ends inside
unfoldable pub short_literal_at : List ℕ → ℕ → Option ℕ
short_literal_at s at =
    need (eqb (get_or s at 0 % 64) 0) None
    (need (leb 3 (length s - at)) None
    (option_and_then (λ (name : ℕ).
    need (leb name (length s - at - 3)) None
    (option_and_then (λ (value : ℕ).
    need (leb value (length s - at - 3 - name)) None
    (Some (at + 3 + name + value)))
    (short_length (get_or s (at + 2 + name) 0))))
    (short_length (get_or s (at + 1) 0))))

-- the literal there whose name is an entry's: its index is not 0
unfoldable pub short_named_at : List ℕ → ℕ → Option (TableIndex × StringPlace × ℕ)
short_named_at s at =
    on_short_int None (short_int_at 6 s at) (λ i after.
    need (ltb 0 i) None
    (option_and_then (λ (found : StringPlace × ℕ). Some (record { value = i }, found.0, found.1)) (short_string_at s after)))
