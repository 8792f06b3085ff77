-- Document 01, check 8: "List 03 02 01 03 names 0, 1, 2, 4 and 7, not 3", computed from the definitions, and the refusals at their limits.
use mathlib.Core.Path.{◌≡◌, refl}
use mathlib.Core.Bool.{true, false}
use mathlib.Core.List.{List, [], ◌∷◌}
use Prim.Native.Nat.{ℕ}
use Rattle.integers.specs.Integer.{read_int, groups, int_wire, group_wire}
use Rattle.stream_lists.specs.StreamList.{StreamList, listed, names, read_delta, read_deltas, streams_from, list_of, read_list, deltas_wire, list_wire}
use Rattle.stream_lists.specs.declared.stream_list.ListPlace.{ListPlace}
use Rattle.std.specs.Prelude.{Ok, Err}
use Rattle.integers.specs.declared.answer.Refusal.TheVariants.{BadStreamList, Truncated}

abbrev bytes : List ℕ
bytes = 0x03 ∷ 0x02 ∷ 0x01 ∷ 0x03 ∷ []

-- the list of check 8
abbrev list : StreamList
list = record { horizon = 3; streams = 4 ∷ 7 ∷ [] }

-- the list is at the place p, is the one of the check, and is what is written for it
abbrev Reads : ListPlace → Type 0
Reads p = (read_list bytes 0 ≡ Ok (p, 4)) × (list_of bytes p ≡ list) × (list_wire 3 (4 ∷ 7 ∷ []) ≡ bytes)

pub reads : Reads (record { horizon = 3; count = 2; deltas = 2 })
unfolding read_int groups read_delta read_deltas streams_from read_list int_wire group_wire deltas_wire list_wire
reads = (refl, refl, refl)

-- of the streams 0 to 7, which are named
pub named : (names list 0 ≡ true) × (names list 1 ≡ true) × (names list 2 ≡ true) × (names list 3 ≡ false)
    × (names list 4 ≡ true) × (names list 5 ≡ false) × (names list 6 ≡ false) × (names list 7 ≡ true)
unfolding names listed
named = (refl, refl, refl, refl, refl, refl, refl, refl)

-- horizon 4,097, count 17, delta 0, stream 4,096: 14; a delta that is missing: 2
pub limits : (read_list (0xff ∷ 0x82 ∷ 0x1e ∷ 0x00 ∷ []) 0 ≡ Err BadStreamList)
    × (read_list (0x00 ∷ 0x11 ∷ []) 0 ≡ Err BadStreamList)
    × (read_list (0x03 ∷ 0x01 ∷ 0x00 ∷ []) 0 ≡ Err BadStreamList)
    × (read_list (0xff ∷ 0x81 ∷ 0x1e ∷ 0x01 ∷ 0x01 ∷ []) 0 ≡ Err BadStreamList)
    × (read_list (0x03 ∷ 0x02 ∷ 0x01 ∷ []) 0 ≡ Err Truncated)
unfolding read_int groups read_delta read_deltas read_list
limits = (refl, refl, refl, refl, refl)
