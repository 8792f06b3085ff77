-- Bytes 1 to 3 of document 01, as far as they are integers, padded ones, and ones with a zero group that is not the last, from the definitions.
-- By computing: each is `refl`.
use mathlib.Core.Path.{◌≡◌, refl}
use mathlib.Core.List.{[], ◌∷◌}
use Rattle.integers.specs.Integer.{value, read_int, groups, int_wire, group_wire}
use Rattle.std.specs.Prelude.{Err}
use Rattle.integers.specs.declared.answer.Refusal.TheVariants.{Padded, TooLarge, Truncated}

abbrev Written : Type 0
Written = (int_wire 5 0 10 ≡ 0x0a ∷ [])
    × (int_wire 5 0 1337 ≡ 0x1f ∷ 0x9a ∷ 0x0a ∷ [])
    × (int_wire 8 0 42 ≡ 0x2a ∷ [])
    × (int_wire 7 128 127 ≡ 0xff ∷ 0x00 ∷ [])
    × (int_wire 7 128 134217727 ≡ 0xff ∷ 0x80 ∷ 0xff ∷ 0xff ∷ 0x3f ∷ [])
    × (int_wire 6 0 62 ≡ 0x3e ∷ [])
    × (int_wire 6 0 63 ≡ 0x3f ∷ 0x00 ∷ [])
    × (int_wire 6 64 62 ≡ 0x7e ∷ [])
    × (int_wire 6 64 63 ≡ 0x7f ∷ 0x00 ∷ [])

pub written : Written
unfolding int_wire group_wire
written = (refl, refl, refl, refl, refl, refl, refl, refl, refl)

abbrev Reading : Type 0
Reading = (read_int 5 (0x0a ∷ []) 0 ≡ value 10 1)
    × (read_int 5 (0x1f ∷ 0x9a ∷ 0x0a ∷ []) 0 ≡ value 1337 3)
    × (read_int 8 (0x2a ∷ []) 0 ≡ value 42 1)
    × (read_int 7 (0xff ∷ 0x00 ∷ []) 0 ≡ value 127 2)
    × (read_int 7 (0xff ∷ 0x80 ∷ 0xff ∷ 0xff ∷ 0x3f ∷ []) 0 ≡ value 134217727 5)
    × (read_int 7 (0xff ∷ 0x81 ∷ 0xff ∷ 0xff ∷ 0x3f ∷ []) 0 ≡ Err TooLarge)
    × (read_int 6 (0x3e ∷ []) 0 ≡ value 62 1)
    × (read_int 6 (0x3f ∷ 0x00 ∷ []) 0 ≡ value 63 2)
    × (read_int 6 (0x7e ∷ []) 0 ≡ value 62 1)
    × (read_int 6 (0x7f ∷ 0x00 ∷ []) 0 ≡ value 63 2)
    × (read_int 7 (0xff ∷ 0x80 ∷ 0x80 ∷ 0x80 ∷ []) 0 ≡ Err Truncated)
    × (read_int 7 (0xff ∷ 0x80 ∷ 0x80 ∷ 0x80 ∷ 0x80 ∷ []) 0 ≡ Err TooLarge)
    × (read_int 7 (0xff ∷ 0x80 ∷ []) 0 ≡ Err Truncated)
    × (read_int 7 (0xff ∷ 0x80 ∷ 0x00 ∷ []) 0 ≡ Err Padded)
    × (read_int 7 (0xff ∷ 0xff ∷ 0x00 ∷ []) 0 ≡ Err Padded)
    × (read_int 7 (0xff ∷ 0x80 ∷ 0x80 ∷ 0x80 ∷ 0x00 ∷ []) 0 ≡ Err Padded)
    × (read_int 7 (0xff ∷ 0x80 ∷ 0x01 ∷ []) 0 ≡ value 255 3)
    × (read_int 7 (0xff ∷ 0x80 ∷ 0x80 ∷ 0x01 ∷ []) 0 ≡ value 16511 4)

pub reading : Reading
unfolding read_int groups
reading = (refl, refl, refl, refl, refl, refl, refl, refl, refl, refl, refl, refl, refl, refl, refl, refl, refl, refl)
